use Rattle.zarrs_subset.specs.Regions.{box_of}
use Rattle.zarrs_engine_layout.proofs.ChunkShares.{LiesAlong}
use Rattle.zarrs_engine_layout.proofs.shared.covers_chunk.Given as goal

abbrev pub invariant-loop-dimension : goal.invariant-loop-dimension
invariant-loop-dimension g l = LiesAlong (g.G.ChunkGridTraits.grid l.grid) l.chunk_indices (box_of l.region) l.dimension
