use Rattle.zarrs_engine_calls.proofs.Steps.{course_counts_agree}
use Rattle.zarrs_engine_calls.proofs.laws.course_counts_agree.Goals as goal

pub returns : goal.returns
returns c = course_counts_agree
