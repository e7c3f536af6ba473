use Rattle.zarrs_engine_calls.proofs.Steps.{events_count}
use Rattle.zarrs_engine_calls.proofs.laws.events_count.Goals as goal

pub returns : goal.returns
returns c = events_count
