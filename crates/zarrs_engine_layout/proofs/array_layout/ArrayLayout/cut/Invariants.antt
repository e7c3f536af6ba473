use Rattle.zarrs_engine_layout.proofs.Cuts.{CutTo}
use Rattle.zarrs_engine_layout.proofs.array_layout.ArrayLayout.cut.Given as goal

-- what the dimensions so far say
abbrev pub invariant-loop-dimension : goal.invariant-loop-dimension
invariant-loop-dimension g l = CutTo (g.G.ChunkGridTraits.grid l.self.grid) l.shape l.chunk_indices l.begins_below l.ends_below l.dimension
