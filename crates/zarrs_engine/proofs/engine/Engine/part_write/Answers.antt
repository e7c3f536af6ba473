use Rattle.std.proofs.Common.{◌≡◌, ◌∙◌, ℕ, List, Option, Some, None, rules, ap, subst, sym}
use Rattle.std.proofs.lemmas.Bool.{false≢true}
use Rattle.zarrs_subset.specs.Regions.{Box, box_of}
use Rattle.zarrs_chunk_grid.proofs.Chunks.{box_is_there}
use Rattle.zarrs_data_type.specs.ArrayData.{data_of}
use Rattle.zarrs_codec_chain.specs.Options.{stores_empty_chunks}
use Rattle.zarrs_engine_calls.specs.Content.{value_at}
use Rattle.zarrs_engine_calls.specs.declared.error.ArrayError.{ArrayError}
use Rattle.zarrs_engine_calls.specs.Refusals.{refusal_of}
use Rattle.zarrs_engine_calls.specs.Patches.{IsNotEncoded, RefusesPartly}
use Rattle.zarrs_engine.specs.Engine.{layout_of}
use Rattle.zarrs_engine.proofs.Encoded.{key_said}
use Rattle.zarrs_engine.proofs.PatchRefusals.{encoded_partly, key_partly}
use Rattle.zarrs_engine.proofs.Puts.{each_error}
use Rattle.zarrs_engine.proofs.engine.Engine.part_write.Goals as goal

pub stored_at-requires-clause-long : goal.stored_at-requires-clause-long
stored_at-requires-clause-long g c = (box_is_there (layout_of c.args.self.now).grid c.args.chunk.now.indices.now c.requires.chunk.boxed).long

pub returns-in_err-encoded-clause-refused : goal.returns-in_err-encoded-clause-refused
returns-in_err-encoded-clause-refused g c =
    let layout = layout_of c.args.self.now in
    let keep = stores_empty_chunks c.args.options.now in
    let state = g.S.ReadableStorageTraits.state c.args.self.now.storage in
    let index = c.args.chunk.now.indices.now in
    let r = refusal_of c.in_err-encoded.field-0.0 in
    let of_key = key_said layout index (box_is_there layout.grid index c.requires.chunk.boxed).long state r c.in_err-encoded.ensures.refused in
    let why = key_partly layout keep index (box_of c.args.part.now) (data_of c.args.part_data.now) state r of_key in
    search (rules, why)

pub returns-in_default-clause-refused : goal.returns-in_default-clause-refused
returns-in_default-clause-refused g c =
    let layout = layout_of c.args.self.now in
    let keep = stores_empty_chunks c.args.options.now in
    let state = g.S.ReadableStorageTraits.state c.args.self.now.storage in
    let index = c.args.chunk.now.indices.now in
    let part = box_of c.args.part.now in
    let held = data_of c.args.part_data.now in
    let at : None ≡ value_at state (layout.key index) = sym c.in_default.is ∙ c.in_ok-encoded.ensures.value in
    each_error c.partial_encode.result (λ (e : ArrayError). IsNotEncoded layout keep (box_of c.args.chunk.now.region).shape None part held (refusal_of e))
    (λ (e : ArrayError). RefusesPartly layout keep index part held 0 state (refusal_of e))
    (λ e not. encoded_partly layout keep index part held state (refusal_of e)
    (subst (λ (b : Box). IsNotEncoded layout keep b.shape (value_at state (layout.key index)) part held (refusal_of e)) c.requires.chunk.region
    (subst (λ (o : Option (List ℕ)). IsNotEncoded layout keep (box_of c.args.chunk.now.region).shape o part held (refusal_of e)) at not)))
    c.partial_encode.ensures.refused

pub returns-clause-refused : goal.returns-clause-refused
returns-clause-refused g c =
    let layout = layout_of c.args.self.now in
    let keep = stores_empty_chunks c.args.options.now in
    let state = g.S.ReadableStorageTraits.state c.args.self.now.storage in
    let index = c.args.chunk.now.indices.now in
    let part = box_of c.args.part.now in
    let held = data_of c.args.part_data.now in
    let at : Some c.deref.result.now ≡ value_at state (layout.key index) = ap Some c.deref.ensures ∙ sym c.in-Some.is ∙ c.in_ok-encoded.ensures.value in
    each_error c.partial_encode-2.result (λ (e : ArrayError). IsNotEncoded layout keep (box_of c.args.chunk.now.region).shape (Some c.deref.result.now) part held (refusal_of e))
    (λ (e : ArrayError). RefusesPartly layout keep index part held 0 state (refusal_of e))
    (λ e not. encoded_partly layout keep index part held state (refusal_of e)
    (subst (λ (b : Box). IsNotEncoded layout keep b.shape (value_at state (layout.key index)) part held (refusal_of e)) c.requires.chunk.region
    (subst (λ (o : Option (List ℕ)). IsNotEncoded layout keep (box_of c.args.chunk.now.region).shape o part held (refusal_of e)) at not)))
    c.partial_encode-2.ensures.refused

pub returns-in_default-clause-refusing : goal.returns-in_default-clause-refusing
returns-in_default-clause-refusing g c = λ said. absurd (false≢true (c.in_ok-encoded.ensures.refusing said))

pub returns-clause-refusing : goal.returns-clause-refusing
returns-clause-refusing g c = λ said. absurd (false≢true (c.in_ok-encoded.ensures.refusing said))
