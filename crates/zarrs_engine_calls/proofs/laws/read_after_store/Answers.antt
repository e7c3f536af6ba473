use Rattle.zarrs_engine_calls.proofs.Regions.{read_after_store}
use Rattle.zarrs_engine_calls.proofs.laws.read_after_store.Goals as goal

pub returns : goal.returns
returns c = read_after_store
