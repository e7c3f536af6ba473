use Rattle.zarrs_engine_calls.proofs.Steps.{courses_keep_other_keys}
use Rattle.zarrs_engine_calls.proofs.laws.courses_keep_other_keys.Goals as goal

pub returns : goal.returns
returns c = courses_keep_other_keys
