use Rattle.zarrs_engine_calls.proofs.LawProofs.{canonical_decodes}
use Rattle.zarrs_engine_calls.proofs.laws.canonical_stores_decode.Goals as goal

pub returns : goal.returns
returns c = canonical_decodes
