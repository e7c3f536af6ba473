use Rattle.std.specs.Prelude.{replicate}
use Rattle.zarrs_subset.specs.Regions.{box_of}
use Rattle.zarrs_chunk_grid.proofs.Walks.{PairsBelow}
use Rattle.zarrs_chunk_grid.proofs.MetChunks.{MetAt}
use Rattle.zarrs_engine_layout.proofs.array_layout.ArrayLayout.only_chunk.Given as goal

abbrev pub invariant-loop-dimension : goal.invariant-loop-dimension
invariant-loop-dimension g l = PairsBelow (MetAt (g.G.ChunkGridTraits.grid l.self.grid) (box_of l.region)) l.indices.items (replicate l.dimension 1) l.dimension
