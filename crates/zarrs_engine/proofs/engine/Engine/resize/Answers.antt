use Rattle.std.proofs.Common.{◌≡◌, ◌≢◌, ◌∙◌, false, true, is_some, IfSome, Some, None, List, ℕ, length, refl, rules, ap, subst, sym, arith}
use Rattle.zarrs_codec_chain.specs.Options.{stores_empty_chunks}
use Rattle.zarrs_engine_calls.specs.Cuts.{cut_chunks}
use Rattle.zarrs_chunk_grid.specs.Grids.{Grid}
use Rattle.zarrs_engine_calls.specs.ArgumentRefusals.{resize_refusal}
use Rattle.zarrs_engine_calls.specs.Fronts.{CutsAll}
use Rattle.zarrs_engine_calls.specs.Reach.{MayAskKept}
use Rattle.zarrs_engine_calls.specs.Refusals.{RefusesBy, dimensionality, refusal_of}
use Rattle.zarrs_engine.specs.Engine.{layout_of}
use Rattle.zarrs_engine.specs.Resizes.{HasCut, LeavesFront}
use Rattle.zarrs_engine.proofs.Canon.{cut_canon, cut_refused_canon}
use Rattle.zarrs_engine.proofs.Cuts.{keeps_others, layout_same, others_given, resize_early, resize_length, resize_memory, resize_none, resize_unsupported, resized_all}
use Rattle.zarrs_engine.proofs.engine.Engine.resize.Goals as goal

pub returns-then-len-dimensions : goal.returns-then-len-dimensions
returns-then-len-dimensions g c =
    let layout = layout_of c.args.self.now in
    let wanted = c.args.shape.items in
    let e = c.new-error.result in
    let apart : length wanted ≢ layout.grid.dimensions = λ is. c.if-len-dimensions.true (omega arith) in
    let got : e.got ≡ length wanted = omega arith in
    let expected : e.expected ≡ layout.grid.dimensions = c.new-error.ensures.expected ∙ c.dimensionality-dimensions.ensures in
    let said = resize_length layout wanted apart ∙ ap (λ n. Some (dimensionality n layout.grid.dimensions)) (sym got) ∙ ap (λ n. Some (dimensionality e.got n)) (sym expected) in
    let why = resize_early layout wanted (stores_empty_chunks c.args.options.now) (g.G.ChunkGridTraits.array_extents c.args.self.now.layout.grid) (dimensionality e.got e.expected) (g.S.ReadableStorageTraits.state c.args.self.now.storage) said in
    search (rules, why)

pub resized-requires : goal.resized-requires
resized-requires g c = omega arith

pub returns-in_err-grid : goal.returns-in_err-grid
returns-in_err-grid g c =
    let why = resize_memory (layout_of c.args.self.now) c.args.shape.items (stores_empty_chunks c.args.options.now) (g.G.ChunkGridTraits.array_extents c.args.self.now.layout.grid) (g.S.ReadableStorageTraits.state c.args.self.now.storage) in
    search (rules, why)

pub returns-in_default : goal.returns-in_default
returns-in_default g c =
    let layout = layout_of c.args.self.now in
    let wanted = c.args.shape.items in
    let long : length wanted ≡ layout.grid.dimensions = omega arith in
    let fixed : layout.grid.resizes ≡ false = sym c.in_ok-grid.ensures.resizes ∙ ap is_some c.in_default.is in
    let e = c.unsupported_resize.result in
    let why = resize_early layout wanted (stores_empty_chunks c.args.options.now) (g.G.ChunkGridTraits.array_extents c.args.self.now.layout.grid) (refusal_of e) (g.S.ReadableStorageTraits.state c.args.self.now.storage)
    (subst (λ o. RefusesBy o (refusal_of e)) (sym (resize_unsupported layout wanted long fixed)) c.unsupported_resize.ensures) in
    search (rules, why)

pub cut_along-requires-clause-dimensions : goal.cut_along-requires-clause-dimensions
cut_along-requires-clause-dimensions g c =
    let given = subst (λ o. IfSome o (λ grid. g.G.ChunkGridTraits.array_extents grid ≡ c.args.shape.items)) c.in-Some.is c.in_ok-grid.ensures.shape in
    let layout = layout_of c.args.self.now in
    let long : length c.args.shape.items ≡ layout.grid.dimensions = omega arith in
    ap (λ xs. length xs) (c.array_shape.ensures.value ∙ given) ∙ long

pub cut_along-requires-clause-ask : goal.cut_along-requires-clause-ask
cut_along-requires-clause-ask g c =
    let layout = layout_of c.args.self.now in
    let given = subst (λ o. IfSome o (λ grid. g.G.ChunkGridTraits.array_extents grid ≡ c.args.shape.items)) c.in-Some.is c.in_ok-grid.ensures.shape in
    let extents = g.G.ChunkGridTraits.array_extents c.args.self.now.layout.grid in
    let state = g.S.ReadableStorageTraits.state c.args.self.now.storage in
    let long : length c.args.shape.items ≡ layout.grid.dimensions = omega arith in
    let resizes : layout.grid.resizes ≡ true = sym c.in_ok-grid.ensures.resizes ∙ ap is_some c.in-Some.is in
    subst (λ (s : List ℕ). MayAskKept layout s (cut_chunks layout.grid extents s) state) (sym (c.array_shape.ensures.value ∙ given))
    (c.requires (resize_none layout c.args.shape.items long resizes))

pub returns-in_err-cut_along : goal.returns-in_err-cut_along
returns-in_err-cut_along g c =
    let layout = layout_of c.args.self.now in
    let keep = stores_empty_chunks c.args.options.now in
    let wanted = c.args.shape.items in
    let given = subst (λ o. IfSome o (λ grid. g.G.ChunkGridTraits.array_extents grid ≡ wanted)) c.in-Some.is c.in_ok-grid.ensures.shape in
    let extents = g.G.ChunkGridTraits.array_extents c.args.self.now.layout.grid in
    let old = g.S.ReadableStorageTraits.state c.args.self.now.storage in
    let new = g.S.ReadableStorageTraits.state c.cut_along.new.self.storage in
    let long : length wanted ≡ layout.grid.dimensions = omega arith in
    let resizes : layout.grid.resizes ≡ true = sym c.in_ok-grid.ensures.resizes ∙ ap is_some c.in-Some.is in
    let none = resize_none layout wanted long resizes in
    let r = refusal_of c.in_err-cut_along.field-0.0 in
    let why = subst (λ (s : List ℕ). LeavesFront layout keep s (cut_chunks layout.grid extents s) (resize_refusal layout wanted) r old new) (c.array_shape.ensures.value ∙ given)
    (c.in_err-cut_along.ensures.refused (resize_refusal layout wanted) none) in
    let others = keeps_others c.args.self.now c.cut_along.new.self c.in_err-cut_along.ensures.layout_kept in
    let canonical = cut_refused_canon layout c.args.self.now.layout.lawful keep old new extents None c.array_shape.result.now r (c.in_err-cut_along.ensures.refused None refl) in
    search (rules, why, others, canonical)

pub set_chunk_grid-requires : goal.set_chunk_grid-requires
set_chunk_grid-requires g c =
    let same = subst (λ o. IfSome o (λ grid. g.G.ChunkGridTraits.grid grid ≡ g.G.ChunkGridTraits.grid c.args.self.now.layout.grid)) c.in-Some.is c.in_ok-grid.ensures.grid in
    ap (λ (grid : Grid). grid.dimensions) same ∙ sym (ap (λ own. (g.G.ChunkGridTraits.grid own.grid).dimensions) c.in_ok-cut_along.ensures.layout_kept)

pub returns : goal.returns
returns g c =
    let layout = layout_of c.args.self.now in
    let lawful = c.args.self.now.layout.lawful in
    let keep = stores_empty_chunks c.args.options.now in
    let wanted = c.args.shape.items in
    let grid = c.in-Some.grid in
    let given = subst (λ o. IfSome o (λ grid. g.G.ChunkGridTraits.array_extents grid ≡ wanted)) c.in-Some.is c.in_ok-grid.ensures.shape in
    let same = subst (λ o. IfSome o (λ grid. g.G.ChunkGridTraits.grid grid ≡ g.G.ChunkGridTraits.grid c.args.self.now.layout.grid)) c.in-Some.is c.in_ok-grid.ensures.grid in
    let extension = subst (λ o. IfSome o (λ grid. g.G.ChunkGridTraits.extension grid ≡ g.G.ChunkGridTraits.extension c.args.self.now.layout.grid)) c.in-Some.is c.in_ok-grid.ensures.extension in
    let extents = g.G.ChunkGridTraits.array_extents c.args.self.now.layout.grid in
    let old = g.S.ReadableStorageTraits.state c.args.self.now.storage in
    let mid = g.S.ReadableStorageTraits.state c.cut_along.new.self.storage in
    let new = g.S.ReadableStorageTraits.state c.set_chunk_grid.new.self.storage in
    let long : length wanted ≡ layout.grid.dimensions = omega arith in
    let resizes : layout.grid.resizes ≡ true = sym c.in_ok-grid.ensures.resizes ∙ ap is_some c.in-Some.is in
    let none = resize_none layout wanted long resizes in
    let cut = subst (λ (s : List ℕ). HasCut layout keep s (cut_chunks layout.grid extents s) old mid) (c.array_shape.ensures.value ∙ given) c.in_ok-cut_along.ensures.done in
    let all = subst (λ storage. CutsAll layout keep extents wanted old (g.S.ReadableStorageTraits.state storage)) (sym c.set_chunk_grid.ensures.storage) (resized_all layout lawful keep extents wanted old mid cut) in
    let others = others_given grid c.args.self.now c.cut_along.new.self c.set_chunk_grid.new.self c.in_ok-cut_along.ensures.layout_kept c.set_chunk_grid.ensures same extension in
    record {
      done = (none, all);
      shape = ap g.G.ChunkGridTraits.array_extents c.set_chunk_grid.ensures.grid ∙ given;
      refused = tt;
      canonical = cut_canon layout lawful keep old new extents wanted all;
      layout = layout_same c.args.self.now c.set_chunk_grid.new.self others;
      others = others;
      layout_kept = tt;
    }
