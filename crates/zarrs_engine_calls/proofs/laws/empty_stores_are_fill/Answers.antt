use Rattle.zarrs_engine_calls.proofs.Maps.{empty_stores_are_fill}
use Rattle.zarrs_engine_calls.proofs.laws.empty_stores_are_fill.Goals as goal

pub returns : goal.returns
returns c = empty_stores_are_fill
