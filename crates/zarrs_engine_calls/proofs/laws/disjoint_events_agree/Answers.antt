use Rattle.zarrs_engine_calls.proofs.Regions.{disjoint_events}
use Rattle.zarrs_engine_calls.proofs.laws.disjoint_events_agree.Goals as goal

pub returns : goal.returns
returns c = disjoint_events
