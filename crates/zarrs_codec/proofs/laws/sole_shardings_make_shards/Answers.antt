use Rattle.zarrs_codec.proofs.SoleShardings.{sole_shardings}
use Rattle.zarrs_codec.proofs.laws.sole_shardings_make_shards.Goals as goal

pub returns : goal.returns
returns c = sole_shardings
