-- Reads of one state agree.
use Rattle.std.proofs.Common.{◌≡◌, ℕ, Bool, true, false, not, List, Option, Some, None, refl, sym, ◌∙◌, ap, subst, inl, inr, arith}
use Rattle.std.specs.Cmp.Lexicographic.{pointwise}
use Rattle.std.specs.Option.{option_or}
use Rattle.std.specs.Prelude.{nat_eq}
use Rattle.std.proofs.lemmas.Bool.{cases_Bool}
use Rattle.std.proofs.lemmas.Slice.Eq.{bytes_eq-Decides}
use Rattle.zarrs_subset.specs.Regions.{Box, place_in}
use Rattle.zarrs_subset.proofs.Bytes.{place_in_below}
use Rattle.zarrs_chunk_grid.specs.Grids.{box_at, index_at, is_covered}
use Rattle.zarrs_chunk_grid.proofs.Chunks.{box_long}
use Rattle.zarrs_storage.specs.Store.{StoreState}
use Rattle.zarrs_data_type.specs.Kind.{is_variable}
use Rattle.zarrs_data_type.specs.Cell.{Cell}
use Rattle.zarrs_data_type.specs.ArrayData.{ArrayData}
use Rattle.zarrs_data_type.specs.Cells.{cells}
use Rattle.zarrs_engine_calls.specs.Layout.{Layout, IsLawful}
use Rattle.zarrs_engine_calls.specs.ArgumentRefusals.{dimensions_refusal, into_refusal, region_refusal}
use Rattle.zarrs_engine_calls.specs.ChunkBoxes.{chunks_met, is_whole_of}
use Rattle.zarrs_engine_calls.specs.Content.{value_at, content, decoded_cells, chunk_cell, cell_at_place}
use Rattle.zarrs_engine_calls.specs.Reads.{ReadsKnown}
use Rattle.zarrs_engine_calls.specs.Refusals as refusal
use Rattle.zarrs_engine_calls.specs.Refusals.{Refusal, refuse_if}
use Rattle.zarrs_engine_calls.specs.Step.{RetrievesPart}
use Rattle.zarrs_engine_calls.proofs.Contents.{content_covered, in_chunk}
use Rattle.zarrs_engine_calls.proofs.Shapes.{slice_there}
use Rattle.zarrs_data_type.specs.States.{target_box}
use Rattle.zarrs_data_type.specs.Targets.{takes_type}
use Rattle.zarrs_engine.specs.PartialDecoders.{region_of_part}
use Rattle.zarrs_engine.specs.ReadLaws.{DecodedPartsAgree, DecodesAt, TargetReadsAgree}
use Rattle.zarrs_engine.proofs.Into.{has_content}
use Rattle.zarrs_engine.proofs.PartReads.{whole_box}

-- ---- where a chunk decodes, the content has a cell

module _ (layout : Layout) (lawful : IsLawful layout) (state : StoreState) (position : List ℕ) (covered : is_covered layout.grid position ≡ true) where
  abbrev Known : Type 0
  Known = (cell : Cell) × (content layout (value_at state) position ≡ Some cell)

  module _ (box : Box) (is_box : box_at layout.grid (index_at layout.grid position) ≡ box) where
    content_is : (value : Option (List ℕ)) → value_at state (layout.key (index_at layout.grid position)) ≡ value → content layout (value_at state) position ≡ chunk_cell layout value box position
    content_is value at =
        content_covered layout (value_at state) position covered
        ∙ ap (λ t. chunk_cell layout t (box_at layout.grid (index_at layout.grid position)) position) at
        ∙ ap (λ b. chunk_cell layout value b position) is_box

  decoded_known : (encoded : List ℕ) (found : List Cell) → value_at state (layout.key (index_at layout.grid position)) ≡ Some encoded
      → decoded_cells layout (box_at layout.grid (index_at layout.grid position)) encoded ≡ Some found → Known
  decoded_known encoded found at decodes =
      let index = index_at layout.grid position in
      let box = box_at layout.grid index in
      let holds = in_chunk layout lawful index position covered refl in
      let below = place_in_below box position (box_long layout.grid index) holds in
      let count = lawful.chain.decoded_len _ _ _ _ found decodes in
      let there = slice_there found (place_in box position) (omega (arith, count)) in (
        there.0,
        content_is box refl (Some encoded) at ∙ ap (λ o. cell_at_place o (place_in box position)) decodes ∙ there.1,
      )

  known_at : DecodesAt layout state position → Known
  known_at sound =
      let index = index_at layout.grid position in
      let box = box_at layout.grid index in
      elim (value_at state (layout.key index)) as (λ t. value_at state (layout.key index) ≡ t → Known) [
        | None ↦ λ at. (layout.fill, content_is box refl None at)
        | Some encoded ↦ λ at. elim (decoded_cells layout box encoded) as (λ d. decoded_cells layout box encoded ≡ d → Known) [
          | None ↦ λ is. absurd (sound (record { encoded = encoded; stands = at; undecoded = is }))
          | Some found ↦ λ is. decoded_known encoded found at is
        ] refl
      ] refl

-- ---- reads into targets

both_none : (a b : Option Refusal) → option_or a b ≡ None → (a ≡ None) × (b ≡ None)
both_none None b is = (refl, is)
both_none (Some x) b is = absurd (let clash : Some x ≡ None = is in cc)

not_refused : (b : Bool) (r : Refusal) → refuse_if (not b) r ≡ None → b ≡ true
not_refused true r is = refl
not_refused false r is = absurd (let clash : Some r ≡ None = is in cc)

-- an accepted target has the region's shape
module _ (layout : Layout) (shape : List ℕ) (region : Box) (fit : Bool) (target : List ℕ) where
  same_shape : into_refusal layout shape region fit target ≡ None → target ≡ region.shape
  same_shape none =
      let other = refusal.data_shape target region.shape in
      let shaped = refuse_if (not (pointwise nat_eq target region.shape)) other in
      let fits = option_or (refuse_if (not fit) refusal.codec) (option_or shaped (region_refusal layout shape region)) in
      let dimensions = both_none (dimensions_refusal layout shape region) (option_or (refuse_if (is_variable layout.kind) refusal.codec) fits) none in
      let kinds = both_none (refuse_if (is_variable layout.kind) refusal.codec) fits dimensions.1 in
      let rest = both_none (refuse_if (not fit) refusal.codec) (option_or shaped (region_refusal layout shape region)) kinds.1 in
      let last = both_none shaped (region_refusal layout shape region) rest.1 in
      (bytes_eq-Decides target region.shape).0 (not_refused (pointwise nat_eq target region.shape) other last.0)

pub targets_agree : TargetReadsAgree
targets_agree layout lawful shape region held old new state read into =
    let r = read.1 in
    let same = same_shape layout shape region (takes_type old.cell_size old.depth layout.kind) (target_box old).shape into.accepted in
    let has = has_content layout region (chunks_met layout.grid region) into.held state old new same into.reads into.written in (
      r.given,
      r.are_cells,
      λ position holds sound.
          let known = known_at layout lawful state position (r.covered position holds) sound in
          r.reads.each position known.0 holds known.1 ∙ ap Some (sym (has position known.0 holds known.1)),
    )

-- ---- reads of parts

record PartRead (layout : Layout) (region : Box) (cut : ArrayData) (state : StoreState) : Type 0 where
  found : List Cell
  are_cells : cells layout.kind cut ≡ Some found
  reads : ReadsKnown (content layout (value_at state)) region found

part_read : (layout : Layout) (index : List ℕ) (part : Box) (cut : ArrayData) (state : StoreState) → RetrievesPart layout index part cut state → PartRead layout (region_of_part layout index part) cut state
part_read layout index part cut state r =
    let box = box_at layout.grid index in
    elim (cases_Bool (is_whole_of box.shape part)) [
      | inl is ↦
          let w = r.whole is in
          subst (λ (b : Box). PartRead layout b cut state) (sym (whole_box box part (box_long layout.grid index) is)) (record {
            found = w.chunk;
            are_cells = w.is_chunk;
            reads = record { count = w.reads.count; each = λ position cell holds at. sym (w.reads.each position holds) ∙ at };
          })
      | inr is ↦
          let p = r.proper is in
          record { found = p.given; are_cells = p.are_cells; reads = p.reads }
    ]

pub parts_agree : DecodedPartsAgree
parts_agree layout lawful shape region held index part cut state read decoded =
    let r = read.1 in
    let p = part_read layout index part cut state decoded in (
      r.given,
      p.found,
      r.are_cells,
      p.are_cells,
      λ position holds inside sound.
          let known = known_at layout lawful state position (r.covered position holds) sound in
          r.reads.each position known.0 holds known.1 ∙ sym (p.reads.each position known.0 inside known.1),
    )
