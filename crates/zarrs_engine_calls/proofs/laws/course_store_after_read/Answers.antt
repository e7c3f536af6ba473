use Rattle.zarrs_engine_calls.proofs.Regions.{course_store_after_read}
use Rattle.zarrs_engine_calls.proofs.laws.course_store_after_read.Goals as goal

pub returns : goal.returns
returns c = course_store_after_read
