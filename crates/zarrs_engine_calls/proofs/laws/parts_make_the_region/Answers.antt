use Rattle.zarrs_engine_calls.proofs.Regions.{parts_make}
use Rattle.zarrs_engine_calls.proofs.laws.parts_make_the_region.Goals as goal

pub returns : goal.returns
returns c = parts_make
