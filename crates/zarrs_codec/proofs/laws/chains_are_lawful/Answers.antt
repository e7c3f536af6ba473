use Rattle.zarrs_codec.specs.ChainLaws.{chain-lawful}
use Rattle.zarrs_codec.proofs.laws.chains_are_lawful.Goals as goal

pub returns : goal.returns
returns c = chain-lawful
