use Rattle.std.proofs.Common.{◌≡◌, length, rules, subst, sym}
use Rattle.zarrs_chunk_grid.proofs.Chunks.{box_is_there}
use Rattle.zarrs_engine_calls.specs.Refusals.{Refusal, refusal_of_storage}
use Rattle.zarrs_engine_calls.specs.Step.{RefusesEraseChunk}
use Rattle.zarrs_engine_calls.proofs.RefusalLemmas.{storage_said}
use Rattle.zarrs_engine.specs.Engine.{layout_of}
use Rattle.zarrs_engine.specs.PartialEncoders.{engine_of, indices_of}
use Rattle.zarrs_engine.proofs.partial_encoder.ChunkPartialEncoder.erase.Goals as goal

pub erase_chunk-requires : goal.erase_chunk-requires
erase_chunk-requires g c =
    let encoder = c.args.self.now in
    subst (λ index. length index ≡ (layout_of (engine_of encoder)).grid.dimensions) (sym c.deref.ensures.value)
    (box_is_there (layout_of (engine_of encoder)).grid (indices_of encoder) encoder.boxed).long

pub returns-in_err-erase_chunk-clause-erases : goal.returns-in_err-erase_chunk-clause-erases
returns-in_err-erase_chunk-clause-erases g c =
    let layout = layout_of (engine_of c.args.self.now) in
    let old = g.S.ReadableStorageTraits.state (engine_of c.args.self.now).storage in
    let new = g.S.ReadableStorageTraits.state c.erase_chunk.new.self.storage in
    let e = c.in_err-erase_chunk.field-0.0 in
    let erased = subst (λ index. RefusesEraseChunk layout index (refusal_of_storage e) old new) c.deref.ensures.value c.in_err-erase_chunk.ensures.refused in
    let why = subst (λ (r : Refusal). RefusesEraseChunk layout (indices_of c.args.self.now) r old new) (sym (storage_said e)) erased in
    let canonical = c.in_err-erase_chunk.ensures.canonical in
    let parts = c.in_err-erase_chunk.ensures.layout_kept in
    search (rules, why, canonical, parts)
