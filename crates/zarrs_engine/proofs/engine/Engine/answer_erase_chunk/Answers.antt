use Rattle.std.proofs.Common.{arith, ap, sym, subst, ◌∙◌, Result, IfErr}
use Rattle.zarrs_storage.specs.declared.error.StorageError.{StorageError}
use Rattle.zarrs_engine_calls.specs.Refusals.{Refusal, refusal_of, refusal_of_storage}
use Rattle.zarrs_engine_calls.specs.Step.{RefusesEraseChunk}
use Rattle.zarrs_engine_calls.proofs.RefusalLemmas.{storage_said}
use Rattle.zarrs_engine.specs.Engine.{layout_of}
use Rattle.zarrs_engine_layout.proofs.Chunks.{refuses_length}
use Rattle.zarrs_engine.proofs.Writes.{erase_refused}
use Rattle.zarrs_engine.proofs.engine.Engine.answer_erase_chunk.Goals as goal

pub returns-then-chunk_indices-dimensionality-clause-step : goal.returns-then-chunk_indices-dimensionality-clause-step
returns-then-chunk_indices-dimensionality-clause-step g c = λ keep shape.
    let layout = layout_of c.args.self.now in
    let index = c.args.chunk_indices.now in
    let e = c.invalid_indices.result in
    erase_refused layout index (g.S.ReadableStorageTraits.state c.args.self.now.storage) (refusal_of e)
    (refuses_length layout index e (λ long. c.if-chunk_indices-dimensionality.true (omega (arith, long, c.dimensionality.ensures))) c.invalid_indices.ensures)

pub returns-in-Err-clause-step : goal.returns-in-Err-clause-step
returns-in-Err-clause-step g c = λ keep shape.
    let layout = layout_of c.args.self.now in
    let index = c.args.chunk_indices.now in
    let old = g.S.ReadableStorageTraits.state c.args.self.now.storage in
    let new = g.S.ReadableStorageTraits.state c.erase_chunk.new.self.storage in
    let e = c.in-Err.error in
    let why = subst (λ (r : Result (Unit {0}) StorageError). IfErr r (λ e. RefusesEraseChunk layout index (refusal_of_storage e) old new)) c.in-Err.is c.erase_chunk.ensures.refused in
    subst (λ (r : Refusal). RefusesEraseChunk layout index r old new) (sym (storage_said e) ∙ ap refusal_of (sym c.into.ensures)) why
