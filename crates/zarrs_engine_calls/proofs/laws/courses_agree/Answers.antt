use Rattle.zarrs_engine_calls.proofs.Steps.{courses_agree}
use Rattle.zarrs_engine_calls.proofs.laws.courses_agree.Goals as goal

pub returns : goal.returns
returns c = courses_agree
