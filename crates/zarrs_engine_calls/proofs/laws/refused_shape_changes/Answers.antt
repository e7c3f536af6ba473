use Rattle.zarrs_engine_calls.proofs.CutLaws.{refused_change}
use Rattle.zarrs_engine_calls.proofs.laws.refused_shape_changes.Goals as goal

pub returns : goal.returns
returns c = refused_change
