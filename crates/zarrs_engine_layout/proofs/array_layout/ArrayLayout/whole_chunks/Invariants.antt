use Rattle.zarrs_engine_layout.proofs.CutWalks.{AreWholeTo}
use Rattle.zarrs_engine_layout.proofs.array_layout.ArrayLayout.whole_chunks.Given as goal

abbrev pub invariant-loop-dimension : goal.invariant-loop-dimension
invariant-loop-dimension g l = AreWholeTo (g.G.ChunkGridTraits.grid l.self.grid) l.grid_shape l.shape l.whole.items l.dimension
