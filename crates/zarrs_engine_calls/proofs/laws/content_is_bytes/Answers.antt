use Rattle.zarrs_engine_calls.proofs.LawProofs.{content_is_bytes}
use Rattle.zarrs_engine_calls.proofs.laws.content_is_bytes.Goals as goal

pub returns : goal.returns
returns c = content_is_bytes
