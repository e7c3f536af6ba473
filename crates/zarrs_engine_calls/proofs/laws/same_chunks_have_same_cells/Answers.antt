use Rattle.zarrs_engine_calls.proofs.Contents.{same_chunk}
use Rattle.zarrs_engine_calls.proofs.laws.same_chunks_have_same_cells.Goals as goal

pub returns : goal.returns
returns c = same_chunk
