use Rattle.zarrs_engine_calls.proofs.Below.{cuts_right}
use Rattle.zarrs_engine_calls.proofs.laws.cuts_are_right.Goals as goal

pub returns : goal.returns
returns c = cuts_right
