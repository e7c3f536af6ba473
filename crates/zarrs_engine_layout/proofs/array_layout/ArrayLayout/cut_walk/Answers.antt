use Rattle.std.proofs.Common.{◌≡◌, ◌∙◌, List, ℕ, length, sym, ap, subst}
use Rattle.std.proofs.lemmas.Result.{IfOk-weaker}
use Rattle.zarrs_engine_layout.specs.WholeChunks.{AreWhole}
use Rattle.zarrs_engine_layout.proofs.CutWalks.{walk_none, walk_some}
use Rattle.zarrs_engine_layout.proofs.array_layout.ArrayLayout.cut_walk.Goals as goal

pub new-requires : goal.new-requires
new-requires g c =
    c.in_ok-whole.ensures.long ∙ sym (ap (λ (l : List ℕ). length l) c.in_ok-grid_shape.ensures.items ∙ c.grid_shape.ensures.dimensions)

pub returns-clause-none : goal.returns-clause-none
returns-clause-none g c =
    let grid = g.G.ChunkGridTraits.grid c.args.self.now.grid in
    let extents : c.in_ok-grid_shape.grid_shape.items ≡ g.G.ChunkGridTraits.grid_extents c.args.self.now.grid = c.in_ok-grid_shape.ensures.items ∙ c.grid_shape.ensures.value in
    let are = subst (λ (counts : List ℕ). AreWhole grid counts c.args.shape.now c.in_ok-whole.whole.items) (sym extents) c.in_ok-whole.ensures in
    IfOk-weaker c.new.result _ _
    (walk_none grid (g.met.G.ChunkGridTraits.lawful c.args.self.now.grid) c.in_ok-grid_shape.grid_shape.items (g.G.ChunkGridTraits.array_extents c.args.self.now.grid) c.args.shape.now c.in_ok-whole.whole.items c.requires (extents ∙ g.met.G.ChunkGridTraits.counted c.args.self.now.grid) are)
    c.new.ensures

pub returns-clause-some : goal.returns-clause-some
returns-clause-some g c =
    let grid = g.G.ChunkGridTraits.grid c.args.self.now.grid in
    let extents : c.in_ok-grid_shape.grid_shape.items ≡ g.G.ChunkGridTraits.grid_extents c.args.self.now.grid = c.in_ok-grid_shape.ensures.items ∙ c.grid_shape.ensures.value in
    let are = subst (λ (counts : List ℕ). AreWhole grid counts c.args.shape.now c.in_ok-whole.whole.items) (sym extents) c.in_ok-whole.ensures in
    IfOk-weaker c.new.result _ _
    (walk_some grid (g.met.G.ChunkGridTraits.lawful c.args.self.now.grid) c.in_ok-grid_shape.grid_shape.items (g.G.ChunkGridTraits.array_extents c.args.self.now.grid) c.args.shape.now c.in_ok-whole.whole.items c.requires (extents ∙ g.met.G.ChunkGridTraits.counted c.args.self.now.grid) are)
    c.new.ensures
