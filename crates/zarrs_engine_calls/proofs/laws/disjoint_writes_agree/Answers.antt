use Rattle.zarrs_engine_calls.proofs.Regions.{disjoint_writes}
use Rattle.zarrs_engine_calls.proofs.laws.disjoint_writes_agree.Goals as goal

pub returns : goal.returns
returns c = disjoint_writes
