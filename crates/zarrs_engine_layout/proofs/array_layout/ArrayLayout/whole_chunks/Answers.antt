use Rattle.std.proofs.Common.{arith, subst, List, ℕ}
use Rattle.zarrs_engine_layout.specs.WholeChunks.{AreWhole}
use Rattle.zarrs_engine_layout.proofs.CutWalks.{all_whole, whole_next}
use Rattle.zarrs_engine_layout.proofs.array_layout.ArrayLayout.whole_chunks.Goals as goal

pub returns : goal.returns
returns g c =
    let grid = g.G.ChunkGridTraits.grid c.args.self.now.grid in
    subst (λ (counts : List ℕ). AreWhole grid counts c.args.shape.now c.loop-dimension.whole.items) c.grid_shape-grid_shape.ensures.value
    (all_whole grid c.grid_shape-grid_shape.result.now c.args.shape.now c.loop-dimension.whole.items c.loop-dimension.dimension (omega arith) c.loop-dimension.invariant)

pub loop-dimension-preserved : goal.loop-dimension-preserved
loop-dimension-preserved g c =
    whole_next (g.G.ChunkGridTraits.grid c.args.self.now.grid) c.grid_shape-grid_shape.result.now c.args.shape.now c.loop-dimension.whole.items c.push.new.self.items
    c.loop-dimension.dimension c.unwrap_or.result c.chunk_number-first_cut.result c.loop-dimension.invariant c.chunk_number-first_cut.ensures.some c.chunk_number-first_cut.ensures.none
    c.unwrap_or.ensures c.in_ok-push.ensures.items
