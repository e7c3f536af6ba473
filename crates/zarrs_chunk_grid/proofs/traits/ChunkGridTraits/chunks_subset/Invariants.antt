use Rattle.std.proofs.Common.{◌≡◌}
use Rattle.std.specs.Prelude.{vec_capacity}
use Rattle.zarrs_chunk_grid.proofs.Walks.{PairsBelow}
use Rattle.zarrs_chunk_grid.proofs.FilledRanges.{FilledAt}
use Rattle.zarrs_chunk_grid.proofs.traits.ChunkGridTraits.chunks_subset.Given as goal

abbrev pub invariant-loop-dimension : goal.invariant-loop-dimension
invariant-loop-dimension g l = record {
  pairs : PairsBelow (FilledAt (g.Self.ChunkGridTraits.grid l.self) (g.R.ArraySubsetTraits.region l.chunks)) l.start.items l.shape.items l.dimension;
  start_room : vec_capacity l.start ≡ l.dimensions;
  shape_room : vec_capacity l.shape ≡ l.dimensions;
}
