use Rattle.zarrs_engine_calls.proofs.Maps.{stores_are_their_map}
use Rattle.zarrs_engine_calls.proofs.laws.canonical_stores_are_their_map.Goals as goal

pub returns : goal.returns
returns c = stores_are_their_map
