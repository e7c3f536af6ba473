use Rattle.zarrs.proofs.Apart.{calls_leave}
use Rattle.zarrs.proofs.laws.calls_leave_metadata.Goals as goal

pub returns : goal.returns
returns c = calls_leave
