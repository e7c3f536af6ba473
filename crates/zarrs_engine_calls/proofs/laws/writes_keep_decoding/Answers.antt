use Rattle.zarrs_engine_calls.proofs.Steps.{writes_keep_decoding}
use Rattle.zarrs_engine_calls.proofs.laws.writes_keep_decoding.Goals as goal

pub returns : goal.returns
returns c = writes_keep_decoding
