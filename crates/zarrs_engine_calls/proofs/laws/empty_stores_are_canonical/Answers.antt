use Rattle.zarrs_engine_calls.proofs.LawProofs.{empty_is_canonical}
use Rattle.zarrs_engine_calls.proofs.laws.empty_stores_are_canonical.Goals as goal

pub returns : goal.returns
returns c = empty_is_canonical
