use Rattle.zarrs_engine_calls.proofs.Maps.{maps_are_one}
use Rattle.zarrs_engine_calls.proofs.laws.canonical_maps_are_one.Goals as goal

pub returns : goal.returns
returns c = maps_are_one
