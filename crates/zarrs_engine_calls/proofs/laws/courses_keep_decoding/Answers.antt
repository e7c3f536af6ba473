use Rattle.zarrs_engine_calls.proofs.Steps.{courses_keep_decoding}
use Rattle.zarrs_engine_calls.proofs.laws.courses_keep_decoding.Goals as goal

pub returns : goal.returns
returns c = courses_keep_decoding
