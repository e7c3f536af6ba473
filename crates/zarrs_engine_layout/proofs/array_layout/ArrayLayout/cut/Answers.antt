use Rattle.std.proofs.Common.{arith, sym, ◌∙◌}
use Rattle.zarrs_engine_layout.proofs.Cuts.{cut_said, end_fits, no_chunk_cut, one_missing}
use Rattle.zarrs_engine_layout.proofs.array_layout.ArrayLayout.cut.Goals as goal

pub returns-in_err-chunk : goal.returns-in_err-chunk
returns-in_err-chunk g c =
    let grid = g.G.ChunkGridTraits.grid c.args.self.now.grid in
    c.from_residual.ensures
    ∙ no_chunk_cut grid c.args.shape.now c.args.chunk_indices.now (sym (one_missing grid c.args.chunk_indices.now c.loop-dimension.dimension (omega (arith, c.requires.shape)) c.in_err-chunk.ensures.none))

pub overflow_add-ends_below : goal.overflow_add-ends_below
overflow_add-ends_below g c =
    let fits = end_fits (g.G.ChunkGridTraits.grid c.args.self.now.grid) (g.met.G.ChunkGridTraits.lawful c.args.self.now.grid) c.loop-dimension.dimension _ _ _ (omega (arith, c.requires.shape)) c.in_ok-chunk.ensures.some in
    omega (arith, fits, c.get.ensures.value)

pub returns : goal.returns
returns g c =
    c.then_some.ensures
    ∙ cut_said (g.G.ChunkGridTraits.grid c.args.self.now.grid) (g.met.G.ChunkGridTraits.lawful c.args.self.now.grid) c.args.shape.now c.args.chunk_indices.now c.loop-dimension.begins_below c.loop-dimension.ends_below
    c.loop-dimension.dimension c.requires.indices c.requires.shape (omega arith) c.loop-dimension.invariant
