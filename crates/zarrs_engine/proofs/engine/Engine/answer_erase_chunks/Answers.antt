use Rattle.std.proofs.Common.{List, ℕ, ap, sym, ◌∙◌, subst, Result, IfErr}
use Rattle.zarrs_subset.specs.Regions.{box_of}
use Rattle.zarrs_storage.specs.declared.error.StorageError.{StorageError}
use Rattle.zarrs_engine_calls.specs.Refusals.{Refusal, refusal_of, refusal_of_storage}
use Rattle.zarrs_engine_calls.specs.Step.{RefusesEraseChunks}
use Rattle.zarrs_engine_calls.proofs.RefusalLemmas.{storage_said}
use Rattle.zarrs_engine.specs.Engine.{layout_of}
use Rattle.zarrs_engine_layout.specs.Steps.{RefusesIndices}
use Rattle.zarrs_engine_layout.proofs.Chunks.{refuses_length}
use Rattle.zarrs_engine.proofs.Ranges.{range_refused}
use Rattle.zarrs_engine.proofs.engine.Engine.answer_erase_chunks.Goals as goal

pub returns-then-dimensionality-clause-step : goal.returns-then-dimensionality-clause-step
returns-then-dimensionality-clause-step g c = λ keep shape.
    let layout = layout_of c.args.self.now in
    let range = box_of c.args.chunks.now in
    let e = c.invalid_indices.result in
    range_refused layout range (g.S.ReadableStorageTraits.state c.args.self.now.storage) (refusal_of e)
    (refuses_length layout range.start e
    (λ long. c.if-dimensionality.true (c.dimensionality.ensures.count ∙ long ∙ sym c.dimensionality-2.ensures))
    (subst (λ (i : List ℕ). RefusesIndices i e) c.start.ensures c.invalid_indices.ensures))

pub returns-in-Err-clause-step : goal.returns-in-Err-clause-step
returns-in-Err-clause-step g c = λ keep shape.
    let layout = layout_of c.args.self.now in
    let range = box_of c.args.chunks.now in
    let old = g.S.ReadableStorageTraits.state c.args.self.now.storage in
    let new = g.S.ReadableStorageTraits.state c.erase_chunks.new.self.storage in
    let e = c.in-Err.error in
    let why = subst (λ (r : Result (Unit {0}) StorageError). IfErr r (λ e. RefusesEraseChunks layout range (refusal_of_storage e) old new)) c.in-Err.is c.erase_chunks.ensures.refused in
    subst (λ (r : Refusal). RefusesEraseChunks layout range r old new) (sym (storage_said e) ∙ ap refusal_of (sym c.into.ensures)) why
