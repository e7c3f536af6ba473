use Rattle.zarrs_engine.proofs.PlaceLaws.{target_reads_depend}
use Rattle.zarrs_engine.proofs.laws.target_reads_depend_on_places.Goals as goal

pub returns : goal.returns
returns c = target_reads_depend
