use Rattle.zarrs_engine_calls.proofs.CutLaws.{accepted_change}
use Rattle.zarrs_engine_calls.proofs.laws.accepted_shape_changes.Goals as goal

pub returns : goal.returns
returns c = accepted_change
