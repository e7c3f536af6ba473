use Rattle.zarrs.proofs.array.Array.chunks_in_array_subset.Goals as goal

pub returns-in-Ok-clause-none : goal.returns-in-Ok-clause-none
returns-in-Ok-clause-none g c = rw c.chunk_grid.ensures at c.in-Ok.ensures.none
