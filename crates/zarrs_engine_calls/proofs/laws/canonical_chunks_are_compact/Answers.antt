use Rattle.zarrs_engine_calls.proofs.Comparisons.{are_compact}
use Rattle.zarrs_engine_calls.proofs.laws.canonical_chunks_are_compact.Goals as goal

pub returns : goal.returns
returns c = are_compact
