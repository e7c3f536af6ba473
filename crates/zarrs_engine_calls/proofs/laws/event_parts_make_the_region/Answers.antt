use Rattle.zarrs_engine_calls.proofs.Regions.{event_parts_make}
use Rattle.zarrs_engine_calls.proofs.laws.event_parts_make_the_region.Goals as goal

pub returns : goal.returns
returns c = event_parts_make
