use Rattle.zarrs_engine_calls.proofs.Regions.{store_after_read}
use Rattle.zarrs_engine_calls.proofs.laws.store_after_read.Goals as goal

pub returns : goal.returns
returns c = store_after_read
