use Rattle.std.proofs.Common.{◌≡◌, Option, None, OnErr, OnOk, Result, sym, subst, inr, rules}
use Rattle.std.specs.Prelude.{IsSome}
use Rattle.std.specs.Option.{option_or}
use Rattle.zarrs_subset.specs.Regions.{Box, box_of}
use Rattle.zarrs_data_type_region.proofs.Kept.{keeps_itself}
use Rattle.zarrs_engine_calls.specs.ArgumentRefusals.{part_refusal}
use Rattle.zarrs_engine_calls.specs.declared.error.ArrayError.{ArrayError}
use Rattle.zarrs_engine_calls.specs.Refusals.{Refusal, refusal_of}
use Rattle.zarrs_engine_layout.proofs.ChunkParts.{chunk_accepted}
use Rattle.zarrs_engine.specs.Engine.{layout_of}
use Rattle.zarrs_engine.specs.Into.{HasContent, RefusesRetrieveInto, RetrievesInto, target_refusal}
use Rattle.zarrs_engine.specs.PartialDecoders.{RefusesPartInto}
use Rattle.zarrs_engine.proofs.PartialDecoders.{part_ask, part_region}
use Rattle.zarrs_engine.proofs.Puts.{each_error}
use Rattle.zarrs_engine.proofs.partial_decoder.ChunkPartialDecoder.partial_decode_into.Goals as goal

pub returns-in_err-region : goal.returns-in_err-region
returns-in_err-region g c =
    let decoder = c.args.self.now in
    let part = c.args.chunk_subset.now in
    let kept = keeps_itself c.args.target.now in
    let covered = λ (lies : part_refusal (layout_of decoder.engine.now) decoder.chunk_indices.items (box_of part) ≡ None).
    part_region (layout_of decoder.engine.now) decoder.engine.now.layout.lawful decoder.chunk_indices.items decoder.boxed (box_of part) part.same_length lies
    (g.G.ChunkGridTraits.array_extents decoder.engine.now.layout.grid) in
    search (rules, covered, kept)

pub retrieve_array_subset_into-requires : goal.retrieve_array_subset_into-requires
retrieve_array_subset_into-requires g c covered =
    let decoder = c.args.self.now in
    let part = c.args.chunk_subset.now in
    let region = c.in_ok-region.ensures in
    part_ask (layout_of decoder.engine.now) decoder.engine.now.layout.lawful decoder.chunk_indices.items decoder.boxed (box_of part) part.same_length region.accepted
    (box_of c.in_ok-region.region) region.answer (g.S.ReadableStorageTraits.state decoder.engine.now.storage)
    (c.requires (chunk_accepted (layout_of decoder.engine.now) decoder.chunk_indices.items decoder.boxed) region.accepted)

-- what is refused by the region is refused by the part, which lies in its chunk
refused_later : {A E : Type 0} (result : Result A E) (P : Type 0) (first later : Option Refusal) → first ≡ None → OnErr result (IsSome later → P) → OnErr result (IsSome (option_or first later) → P)
refused_later result P first later none kept = subst (λ x. OnErr result (IsSome (option_or x later) → P)) (sym none) kept

pub returns : goal.returns
returns g c =
    let decoder = c.args.self.now in
    let layout = layout_of decoder.engine.now in
    let state = g.S.ReadableStorageTraits.state decoder.engine.now.storage in
    let shape = g.G.ChunkGridTraits.array_extents decoder.engine.now.layout.grid in
    let index = decoder.chunk_indices.items in
    let part = c.args.chunk_subset.now in
    let t = c.args.target.now in
    let read = c.retrieve_array_subset_into in
    let new = read.new.target in
    let region = c.in_ok-region.ensures in
    record {
      kept = read.ensures.kept;
      accepted = search rules;
      covered = λ lies. part_region layout decoder.engine.now.layout.lawful index decoder.boxed (box_of part) part.same_length lies shape;
      cells = subst (λ (b : Box). OnOk read.result (RetrievesInto layout shape b state t new)) region.answer read.ensures.cells;
      content = subst (λ (b : Box). OnOk read.result (HasContent layout b state t new)) region.answer read.ensures.content;
      refused =
          each_error read.result (λ (e : ArrayError). RefusesRetrieveInto layout shape (box_of c.in_ok-region.region) t (refusal_of e) state)
          (λ (e : ArrayError). RefusesPartInto layout shape index (box_of part) t (refusal_of e) state)
          (λ e why. inr (region.accepted, subst (λ (b : Box). RefusesRetrieveInto layout shape b t (refusal_of e) state) region.answer why)) read.ensures.refused;
      kept_bytes =
          refused_later read.result _ _ _ region.accepted
          (subst (λ (b : Box). OnErr read.result (IsSome (target_refusal layout shape b t) → new.bytes.now ≡ t.bytes.now)) region.answer read.ensures.kept_bytes);
      kept_masks =
          refused_later read.result _ _ _ region.accepted
          (subst (λ (b : Box). OnErr read.result (IsSome (target_refusal layout shape b t) → new.masks.now ≡ t.masks.now)) region.answer read.ensures.kept_masks);
    }
