use Rattle.zarrs_engine_calls.proofs.Regions.{course_read_after_store}
use Rattle.zarrs_engine_calls.proofs.laws.course_read_after_store.Goals as goal

pub returns : goal.returns
returns c = course_read_after_store
