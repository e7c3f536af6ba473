use Rattle.zarrs_engine_calls.proofs.CutLaws.{change_kept_outside}
use Rattle.zarrs_engine_calls.proofs.laws.shape_changes_keep_outside.Goals as goal

pub returns : goal.returns
returns c = change_kept_outside
