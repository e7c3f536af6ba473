use Rattle.std.proofs.Common.{◌∙◌, [], ◌∷◌, IfNone, IfSome, ap, refl, rules, subst, sym}
use Rattle.zarrs_codec_chain.specs.Options.{stores_empty_chunks}
use Rattle.zarrs_engine_calls.specs.Cuts.{cut_chunks, is_cut}
use Rattle.zarrs_engine_calls.specs.Reach.{MayAskKept}
use Rattle.zarrs_engine_calls.specs.Refusals.{refusal_of}
use Rattle.zarrs_engine_layout.specs.CutWalks.{HasNoCut, IsCutWalk}
use Rattle.zarrs_engine_layout.specs.Layouts.{layout_meaning}
use Rattle.zarrs_engine.specs.Engine.{layout_of}
use Rattle.zarrs_engine.specs.Resizes.{LeavesCut, LeavesFront, PassesChunk}
use Rattle.zarrs_engine.proofs.Cuts.{err_kept, walk_ask, walk_fails, walk_falls, walk_first, walk_last, walk_long, walk_memory, walk_more, walk_none}
use Rattle.zarrs_engine.proofs.engine.Engine.cut_along.Goals as goal

pub returns-in_err-walk-clause-refused : goal.returns-in_err-walk-clause-refused
returns-in_err-walk-clause-refused g c = λ first none.
    let layout = layout_of c.args.self.now in
    let counts = layout.grid.counts (g.G.ChunkGridTraits.array_extents c.args.self.now.layout.grid) in
    let why = walk_memory layout c.args.self.now.layout.lawful (stores_empty_chunks c.args.options.now) c.args.shape.now counts first (g.S.ReadableStorageTraits.state c.args.self.now.storage) in
    search (rules, why)

pub cut_chunk-requires-clause-indices : goal.cut_chunk-requires-clause-indices
cut_chunk-requires-clause-indices g c =
    let i = c.loop-walk.invariant in
    let layout = layout_of c.args.self.now in
    let counts = layout.grid.counts (g.G.ChunkGridTraits.array_extents c.args.self.now.layout.grid) in
    let old = g.S.ReadableStorageTraits.state c.args.self.now.storage in
    let mid = g.S.ReadableStorageTraits.state c.loop-walk.self.storage in
    walk_long layout c.args.self.now.layout.lawful (stores_empty_chunks c.args.options.now) c.args.shape.now counts c.loop-walk.walk c.current.result.now old mid i.cut c.current.ensures.at
    ∙ sym (ap (λ own. (layout_meaning own).grid.dimensions) i.layout_kept)

pub cut_chunk-requires-clause-ask : goal.cut_chunk-requires-clause-ask
cut_chunk-requires-clause-ask g c = λ holds_so.
    let i = c.loop-walk.invariant in
    let layout = layout_of c.args.self.now in
    let shape = c.args.shape.now in
    let counts = layout.grid.counts (g.G.ChunkGridTraits.array_extents c.args.self.now.layout.grid) in
    let index = c.current.result.now in
    let old = g.S.ReadableStorageTraits.state c.args.self.now.storage in
    let mid = g.S.ReadableStorageTraits.state c.loop-walk.self.storage in
    let cut = sym (ap (λ own. is_cut (layout_meaning own).grid shape index) i.layout_kept) ∙ holds_so in
    let ask = walk_ask layout c.args.self.now.layout.lawful (stores_empty_chunks c.args.options.now) shape counts c.loop-walk.walk index old mid c.current.ensures.at c.requires.ask i.cut cut in
    subst (λ own. MayAskKept (layout_meaning own) shape (index ∷ []) mid) (sym i.layout_kept) ask

pub returns-in_err-cut_chunk-clause-refused : goal.returns-in_err-cut_chunk-clause-refused
returns-in_err-cut_chunk-clause-refused g c = λ first none.
    let i = c.loop-walk.invariant in
    let layout = layout_of c.args.self.now in
    let keep = stores_empty_chunks c.args.options.now in
    let shape = c.args.shape.now in
    let extents = g.G.ChunkGridTraits.array_extents c.args.self.now.layout.grid in
    let index = c.current.result.now in
    let old = g.S.ReadableStorageTraits.state c.args.self.now.storage in
    let mid = g.S.ReadableStorageTraits.state c.loop-walk.self.storage in
    let new = g.S.ReadableStorageTraits.state c.cut_chunk.new.self.storage in
    let e = c.in_err-cut_chunk.field-0.0 in
    let refused = subst (λ own. LeavesCut (layout_meaning own) keep shape index (refusal_of e) mid new) i.layout_kept c.in_err-cut_chunk.ensures.refused in
    err_kept c.from_residual-in_err-cut_chunk.result e (λ e. LeavesFront layout keep shape (cut_chunks layout.grid extents shape) first (refusal_of e) old new) c.from_residual-in_err-cut_chunk.ensures.1
    (walk_fails layout c.args.self.now.layout.lawful keep shape (layout.grid.counts extents) c.loop-walk.walk first index (refusal_of e) old mid new none c.current.ensures.at i.cut refused)

pub returns-then-not-advance-clause-done : goal.returns-then-not-advance-clause-done
returns-then-not-advance-clause-done g c =
    let i = c.loop-walk.invariant in
    let layout = layout_of c.args.self.now in
    let keep = stores_empty_chunks c.args.options.now in
    let shape = c.args.shape.now in
    let counts = layout.grid.counts (g.G.ChunkGridTraits.array_extents c.args.self.now.layout.grid) in
    let index = c.current.result.now in
    let old = g.S.ReadableStorageTraits.state c.args.self.now.storage in
    let mid = g.S.ReadableStorageTraits.state c.loop-walk.self.storage in
    let new = g.S.ReadableStorageTraits.state c.cut_chunk.new.self.storage in
    let one = subst (λ own. PassesChunk (layout_meaning own) keep shape index mid new) i.layout_kept c.in_ok-cut_chunk.ensures.done in
    walk_last layout c.args.self.now.layout.lawful keep shape counts c.loop-walk.walk index old mid new c.current.ensures.at i.cut one c.if-not-advance.ensures.last

pub loop-walk-preserved : goal.loop-walk-preserved
loop-walk-preserved g c =
    let i = c.loop-walk.invariant in
    let layout = layout_of c.args.self.now in
    let keep = stores_empty_chunks c.args.options.now in
    let shape = c.args.shape.now in
    let counts = layout.grid.counts (g.G.ChunkGridTraits.array_extents c.args.self.now.layout.grid) in
    let index = c.current.result.now in
    let old = g.S.ReadableStorageTraits.state c.args.self.now.storage in
    let mid = g.S.ReadableStorageTraits.state c.loop-walk.self.storage in
    let new = g.S.ReadableStorageTraits.state c.cut_chunk.new.self.storage in
    let one = subst (λ own. PassesChunk (layout_meaning own) keep shape index mid new) i.layout_kept c.in_ok-cut_chunk.ensures.done in
    let a = c.if-not-advance.ensures in
    record {
      cut = walk_more layout c.args.self.now.layout.lawful keep shape counts c.loop-walk.walk c.advance.new.self index old mid new c.current.ensures.at i.cut one a.same_box a.same_whole a.next a.passes;
      layout_kept = c.in_ok-cut_chunk.ensures.layout_kept ∙ i.layout_kept;
    }

pub loop-walk-smaller : goal.loop-walk-smaller
loop-walk-smaller g c =
    let i = c.loop-walk.invariant in
    let layout = layout_of c.args.self.now in
    let counts = layout.grid.counts (g.G.ChunkGridTraits.array_extents c.args.self.now.layout.grid) in
    let a = c.if-not-advance.ensures in
    walk_falls layout c.args.self.now.layout.lawful (stores_empty_chunks c.args.options.now) c.args.shape.now counts c.loop-walk.walk c.advance.new.self i.cut.same_box a.same_box a.next

pub loop-walk-init : goal.loop-walk-init
loop-walk-init g c =
    let layout = layout_of c.args.self.now in
    let extents = g.G.ChunkGridTraits.array_extents c.args.self.now.layout.grid in
    let w = subst (λ o. IfSome o (IsCutWalk layout.grid extents c.args.shape.now)) c.in-Some.is c.in_ok-walk.ensures.some in
    record {
      cut = walk_first layout c.args.self.now.layout.lawful (stores_empty_chunks c.args.options.now) c.args.shape.now (layout.grid.counts extents) c.in-Some.walk (g.S.ReadableStorageTraits.state c.args.self.now.storage) w.same_box w.dimensions w.left_out w.first;
      layout_kept = refl;
    }

pub returns-in_default-clause-done : goal.returns-in_default-clause-done
returns-in_default-clause-done g c =
    let layout = layout_of c.args.self.now in
    let extents = g.G.ChunkGridTraits.array_extents c.args.self.now.layout.grid in
    let none = subst (λ o. IfNone o (HasNoCut layout.grid extents c.args.shape.now)) c.in_default.is c.in_ok-walk.ensures.none in
    walk_none layout c.args.self.now.layout.lawful (stores_empty_chunks c.args.options.now) c.args.shape.now (layout.grid.counts extents) (g.S.ReadableStorageTraits.state c.args.self.now.storage) none
