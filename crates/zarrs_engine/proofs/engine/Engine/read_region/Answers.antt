use Rattle.std.proofs.Common.{◌∙◌, ℕ, List, [], ◌∷◌, ap, inl, inr, rules, subst, sym}
use Rattle.std.proofs.lemmas.List.{length-replicate}
use Rattle.zarrs_subset.specs.Boxes.{position_count}
use Rattle.zarrs_subset.specs.Regions.{box_of, positions}
use Rattle.zarrs_data_type.specs.Cell.{Cell}
use Rattle.zarrs_data_type.specs.ArrayData.{ArrayData}
use Rattle.zarrs_data_type.specs.RegionData.{region_data}
use Rattle.zarrs_engine_calls.specs.ArgumentRefusals.{size_refusal}
use Rattle.zarrs_engine_calls.specs.Reads.{ReadsRegion}
use Rattle.zarrs_engine_calls.specs.Refusals.{refusal_of}
use Rattle.zarrs_engine_calls.specs.StateRefusals.{RefusesRegionRead}
use Rattle.zarrs_engine.specs.Engine.{layout_of}
use Rattle.zarrs_engine.specs.RegionReads.{ReadsOver}
use Rattle.zarrs_engine_layout.specs.Covers.{CoverRegion}
use Rattle.zarrs_engine_layout.proofs.OneChunk.{not_empty, only_position}
use Rattle.zarrs_engine_calls.specs.Reach.{MayReadParts}
use Rattle.zarrs_engine_calls.proofs.Contents.{member}
use Rattle.zarrs_engine.proofs.RegionReads.{read_all, read_none}
use Rattle.zarrs_engine.proofs.engine.Engine.read_region.Goals as goal

pub read_in_chunk-requires-clause-cover : goal.read_in_chunk-requires-clause-cover
read_in_chunk-requires-clause-cover g c =
    let layout = layout_of c.args.self.now in
    let chunks = c.args.chunks.now in
    let count = sym c.in-Ok-eq1.ensures.ok ∙ c.in-Ok-eq1.field-0-test in
    let only = only_position (box_of chunks).start (box_of chunks).shape chunks.same_length count ∙ ap (λ l. l ∷ []) (sym c.start.ensures) in
    subst (λ (l : List (List ℕ)). CoverRegion layout.grid (box_of c.args.region.now) l) only c.requires.cover

pub read_in_chunk-requires-clause-some : goal.read_in_chunk-requires-clause-some
read_in_chunk-requires-clause-some g c =
    not_empty (box_of c.args.region.now) (λ none. let empty = c.is_empty.ensures.1 none in let some = c.if-not-is_empty.true in cc)

pub read_in_chunk-requires-clause-ask : goal.read_in_chunk-requires-clause-ask
read_in_chunk-requires-clause-ask g c =
    let layout = layout_of c.args.self.now in
    let state = g.S.ReadableStorageTraits.state c.args.self.now.storage in
    let chunks = c.args.chunks.now in
    let count = sym c.in-Ok-eq1.ensures.ok ∙ c.in-Ok-eq1.field-0-test in
    let only = only_position (box_of chunks).start (box_of chunks).shape chunks.same_length count ∙ ap (λ l. l ∷ []) (sym c.start.ensures) in
    let ask = subst (λ (l : List (List ℕ)). MayReadParts layout (box_of c.args.region.now) l state) only c.requires.ask in
    ask c.start.result.now (member c.start.result.now)

pub returns-in-Ok-eq1 : goal.returns-in-Ok-eq1
returns-in-Ok-eq1 g c =
    let layout = layout_of c.args.self.now in
    let state = g.S.ReadableStorageTraits.state c.args.self.now.storage in
    let region = box_of c.args.region.now in
    let chunks = c.args.chunks.now in
    let count = sym c.in-Ok-eq1.ensures.ok ∙ c.in-Ok-eq1.field-0-test in
    let only = only_position (box_of chunks).start (box_of chunks).shape chunks.same_length count ∙ ap (λ l. l ∷ []) (sym c.start.ensures) in
    subst (λ (l : List (List ℕ)). ReadsOver layout region l state c.read_in_chunk.result) (sym only) c.read_in_chunk.ensures

pub returns-in_err-filled : goal.returns-in_err-filled
returns-in_err-filled g c =
    let layout = layout_of c.args.self.now in
    let state = g.S.ReadableStorageTraits.state c.args.self.now.storage in
    let region = box_of c.args.region.now in
    let chunks = positions (box_of c.args.chunks.now) in
    let why : RefusesRegionRead layout (size_refusal layout region.shape) region chunks state (refusal_of c.in_err-filled.field-0.0) = inl c.in_err-filled.ensures.refused in
    search (rules, why)

pub read_along-requires-clause-none : goal.read_along-requires-clause-none
read_along-requires-clause-none g c =
    let layout = layout_of c.args.self.now in
    let state = g.S.ReadableStorageTraits.state c.args.self.now.storage in
    let region = box_of c.args.region.now in
    read_none layout c.args.self.now.layout.lawful region state (region_data c.in_ok-filled.filled) c.requires.cover.long c.in_ok-filled.ensures.answer (length-replicate {A = Cell} (position_count region.shape) layout.fill)

pub returns-in_err-held : goal.returns-in_err-held
returns-in_err-held g c =
    let layout = layout_of c.args.self.now in
    let state = g.S.ReadableStorageTraits.state c.args.self.now.storage in
    let region = box_of c.args.region.now in
    let chunks = positions (box_of c.args.chunks.now) in
    let why : RefusesRegionRead layout (size_refusal layout region.shape) region chunks state (refusal_of c.in_err-held.field-0.0) =
    inr (c.in_ok-filled.ensures.accepted, c.in_err-held.ensures.refused) in
    search (rules, why)

pub returns : goal.returns
returns g c =
    let layout = layout_of c.args.self.now in
    let state = g.S.ReadableStorageTraits.state c.args.self.now.storage in
    let region = box_of c.args.region.now in
    let chunks = positions (box_of c.args.chunks.now) in
    let held = region_data c.in_ok-held.held in
    let read = read_all layout c.args.self.now.layout.lawful region chunks state held c.requires.cover c.in_ok-held.ensures.all in
    record {
      read = subst (λ (d : ArrayData). ReadsRegion layout region chunks d state) (sym c.in_ok-made.ensures) read;
      accepted = c.in_ok-filled.ensures.accepted;
      refused = tt;
    }
