use Rattle.zarrs_chunk_grid.specs.Grids.{extent_along}
use Rattle.zarrs_chunk_grid.proofs.Walks.{AlongChunk}
use Rattle.zarrs_engine_layout.proofs.array_layout.ArrayLayout.chunk_shape.Given as goal

abbrev pub invariant-loop-dimension : goal.invariant-loop-dimension
invariant-loop-dimension g l =
    let grid = g.G.ChunkGridTraits.grid l.self.grid in
    AlongChunk grid l.chunk_indices (extent_along grid l.chunk_indices) l.shape.items l.dimension
