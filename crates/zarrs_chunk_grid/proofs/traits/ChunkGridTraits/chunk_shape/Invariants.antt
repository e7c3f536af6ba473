use Rattle.zarrs_metadata_parts.specs.Lists.{sizes_of}
use Rattle.zarrs_chunk_grid.specs.Grids.{extent_along}
use Rattle.zarrs_chunk_grid.proofs.Walks.{AlongChunk}
use Rattle.zarrs_chunk_grid.proofs.traits.ChunkGridTraits.chunk_shape.Given as goal

abbrev pub invariant-loop-dimension : goal.invariant-loop-dimension
invariant-loop-dimension g l =
    let grid = g.Self.ChunkGridTraits.grid l.self in
    AlongChunk grid l.indices (extent_along grid l.indices) (sizes_of l.shape.items) l.dimension
