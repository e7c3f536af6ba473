use Rattle.zarrs_engine_calls.proofs.Compactions.{stores_are_compact}
use Rattle.zarrs_engine_calls.proofs.laws.canonical_stores_are_compact.Goals as goal

pub returns : goal.returns
returns c = stores_are_compact
