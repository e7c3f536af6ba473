use Rattle.zarrs_engine_calls.proofs.Steps.{equal_counts_agree}
use Rattle.zarrs_engine_calls.proofs.laws.equal_counts_agree.Goals as goal

pub returns : goal.returns
returns c = equal_counts_agree
