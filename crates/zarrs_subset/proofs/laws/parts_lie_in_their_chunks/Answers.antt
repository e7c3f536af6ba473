use Rattle.zarrs_subset.proofs.Shifts.{part_in_chunk}
use Rattle.zarrs_subset.proofs.laws.parts_lie_in_their_chunks.Goals as goal

pub returns : goal.returns
returns c = part_in_chunk
