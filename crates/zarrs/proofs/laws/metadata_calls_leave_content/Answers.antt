use Rattle.zarrs.proofs.Apart.{metadata_calls_leave}
use Rattle.zarrs.proofs.laws.metadata_calls_leave_content.Goals as goal

pub returns : goal.returns
returns c = metadata_calls_leave
