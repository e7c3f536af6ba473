use Rattle.std.proofs.Common.{◌≡◌, None, List, ℕ, IfErr, OnOk, refl, ap, subst, sym}
use Rattle.std.proofs.lemmas.Result.{on_err_weaker}
use Rattle.zarrs_codec_chain.specs.Options.{stores_empty_chunks}
use Rattle.zarrs_engine_calls.specs.Acts.{resize}
use Rattle.zarrs_engine_calls.specs.ArgumentRefusals.{resize_refusal}
use Rattle.zarrs_engine_calls.specs.Cuts.{cut_chunks}
use Rattle.zarrs_engine_calls.specs.Reach.{MayAskKept}
use Rattle.zarrs_engine_calls.specs.Refusals.{refusal_of}
use Rattle.zarrs_engine_calls.specs.Step.{ResizesArray, RefusesResize}
use Rattle.zarrs_engine.specs.Engine.{layout_of, state_of}
use Rattle.zarrs_engine.proofs.Cuts.{keeps_others, resize_memory}
use Rattle.zarrs_engine.proofs.Replies.{done_shape, done_step}
use Rattle.zarrs_engine.proofs.engine.Engine.answer_resize.Goals as goal

pub returns-in_default-clause-step : goal.returns-in_default-clause-step
returns-in_default-clause-step g c =
    resize_memory (layout_of c.args.self.now) c.args.shape.now (stores_empty_chunks c.args.options.now) (g.G.ChunkGridTraits.array_extents c.args.self.now.layout.grid) (g.S.ReadableStorageTraits.state c.args.self.now.storage)

pub returns-in_default-clause-others : goal.returns-in_default-clause-others
returns-in_default-clause-others g c = keeps_others _ _ refl

pub resize-requires : goal.resize-requires
resize-requires g c accepted =
    let layout = layout_of c.args.self.now in
    let state = state_of g.S.ReadableStorageTraits.state c.args.self.now in
    let at = c.in-Ok.ensures.items_if_clones_equal (λ x y same. same) in
    subst (λ (i : List ℕ). MayAskKept layout i (cut_chunks layout.grid state.shape i) state.store) (sym at)
    (c.requires (subst (λ (i : List ℕ). resize_refusal layout i ≡ None) at accepted))

pub returns-clause-step : goal.returns-clause-step
returns-clause-step g c =
    let layout = layout_of c.args.self.now in
    let keep = stores_empty_chunks c.args.options.now in
    let old = state_of g.S.ReadableStorageTraits.state c.args.self.now in
    let new = state_of g.S.ReadableStorageTraits.state c.resize.new.self in
    let at = c.in-Ok.ensures.items_if_clones_equal (λ x y same. same) in
    let e = c.resize.ensures in
    done_step layout keep old.shape (resize_refusal layout c.args.shape.now) (resize c.args.shape.now) old.store new.store c.resize.result c.done.result
    (subst (λ (i : List ℕ). OnOk c.resize.result (ResizesArray layout keep old.shape i old.store new.store)) at e.done)
    (subst (λ (i : List ℕ). IfErr c.resize.result (λ e. RefusesResize layout keep old.shape i (refusal_of e) old.store new.store)) at e.refused)
    c.done.ensures.done c.done.ensures.refused

pub returns-clause-shape : goal.returns-clause-shape
returns-clause-shape g c =
    let old = state_of g.S.ReadableStorageTraits.state c.args.self.now in
    let new = state_of g.S.ReadableStorageTraits.state c.resize.new.self in
    let e = c.resize.ensures in
    done_shape c.resize.result c.done.result c.args.shape.now old.shape new.shape
    (subst (λ (i : List ℕ). OnOk c.resize.result (new.shape ≡ i)) (c.in-Ok.ensures.items_if_clones_equal (λ x y same. same)) e.shape)
    (on_err_weaker c.resize.result (ap (λ own. g.G.ChunkGridTraits.array_extents own.grid)) e.layout_kept)
    c.done.ensures.done c.done.ensures.refused
