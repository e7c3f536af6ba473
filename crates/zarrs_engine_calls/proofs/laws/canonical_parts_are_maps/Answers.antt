use Rattle.zarrs_engine_calls.proofs.Maps.{parts_are_maps}
use Rattle.zarrs_engine_calls.proofs.laws.canonical_parts_are_maps.Goals as goal

pub returns : goal.returns
returns c = parts_are_maps
