use Rattle.std.proofs.Common.{◌≡◌, ℕ, ◌<◌, true, length, slice_index, slice_index_or}
use Rattle.std.specs.Prelude.{vec_capacity, vec_len}
use Rattle.zarrs_chunk_grid.specs.Configurations.{fills, chunks_along, sizes_view}
use Rattle.zarrs_chunk_grid.specs.declared.dimension.ChunkSizes.{ChunkSizes}
use Rattle.zarrs_chunk_grid.proofs.rectangular.RectangularChunkGrid.new.Given as goal

abbrev pub invariant-loop-dimension : goal.invariant-loop-dimension
invariant-loop-dimension l = record {
  long : length l.grid_shape.items ≡ l.dimension;
  room : vec_capacity l.grid_shape ≡ vec_len l.sizes;
  filled : (k : ℕ) (d : ChunkSizes) → k < l.dimension → fills (sizes_view (slice_index_or l.sizes.items k d)) (slice_index l.array_shape.items k) ≡ true;
  counted : (k : ℕ) (d : ChunkSizes) → k < l.dimension → slice_index l.grid_shape.items k ≡ chunks_along (sizes_view (slice_index_or l.sizes.items k d)) (slice_index l.array_shape.items k);
}
