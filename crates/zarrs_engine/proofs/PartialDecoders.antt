-- Regions of one chunk: which chunks they meet, and that chunks cover them.
use Rattle.std.proofs.Common.{◌≡◌, ◌<◌, ◌+◌, ◌-◌, ◌||◌, ◌↔◌, not, cond, ℕ, Bool, IsTrue, true, false, Option, is_some, option_map, List, [], ◌∷◌, length, slice_index, Some, None, Contains, refl, sym, ◌∙◌, ap, subst, inl, inr, arith}
use Rattle.std.proofs.lemmas.Bool.{cases_Bool, eq-eqb, false≢true}
use Rattle.std.proofs.lemmas.Grind.{same_number_lists}
use Rattle.std.proofs.lemmas.List.{get_or-replicate, length-replicate}
use Rattle.std.proofs.lemmas.List.FromFn.{length-map-range_with_len}
use Rattle.std.proofs.lemmas.Option.{slice_get-get_or}
use Rattle.zarrs_subset.specs.Regions.{Box, IsLong, InBox, Holds, box_from, empty_box, positions}
use Rattle.zarrs_subset.proofs.Bytes.{along_holds, holds_along}
use Rattle.zarrs_subset.proofs.Positions.{positions_in}
use Rattle.zarrs_chunk_grid.specs.Axes.{number_at}
use Rattle.zarrs_chunk_grid.specs.Grids.{Grid, IsGrid, amount_met, each_dimension, first_met, has_box, index_at, is_covered, met}
use Rattle.zarrs_chunk_grid.proofs.Chunks.{index_long}
use Rattle.zarrs_chunk_grid.proofs.MetChunks.{at_dimension}
use Rattle.zarrs_storage.specs.Store.{StoreState}
use Rattle.zarrs_engine_calls.specs.Layout.{Layout, IsLawful}
use Rattle.zarrs_engine_calls.specs.ArgumentRefusals.{part_refusal, region_refusal}
use Rattle.zarrs_engine_calls.specs.ChunkBoxes.{chunks_met, is_covered_box, is_empty, last_of}
use Rattle.zarrs_engine_calls.specs.Reach.{MayReadPart, MayReadParts}
use Rattle.zarrs_engine_calls.specs.Refusals as refusal
use Rattle.zarrs_engine_calls.specs.Refusals.{refuse_if}
use Rattle.zarrs_engine_calls.proofs.Contents.{only_member}
use Rattle.zarrs_engine_calls.proofs.Covers.{covered_box, last_at, last_held, some_extent}
use Rattle.zarrs_engine_calls.proofs.RefusalLemmas.{second_refusal}
use Rattle.zarrs_engine_layout.specs.Covers.{CoverRegion}
use Rattle.zarrs_engine_layout.proofs.ChunkParts.{part_lies}
use Rattle.zarrs_engine_layout.proofs.RegionRefusals.{no_extent}
use Rattle.zarrs_engine.specs.PartialDecoders.{region_of_part}
use Rattle.zarrs_engine.proofs.PartReads.{cover_part}

-- ---- a region that one chunk covers meets no other

module _ (grid : Grid) (lawful : IsGrid grid) (index : List ℕ) (region : Box) (cover : CoverRegion grid region (index ∷ [])) where
  -- the boxes that are met, by whether the region is empty
  abbrev met_box : Box
  met_box = box_from (each_dimension grid.dimensions (first_met grid region)) (each_dimension grid.dimensions (amount_met grid region))

  met_none : is_empty region ≡ true → met grid region ≡ empty_box grid.dimensions
  unfolding met
  met_none empty = ap (λ b. cond b (empty_box grid.dimensions) met_box) empty

  met_some : is_empty region ≡ false → met grid region ≡ met_box
  unfolding met
  met_some some = ap (λ b. cond b (empty_box grid.dimensions) met_box) some

  long_met : IsLong met_box
  long_met = length-map-range_with_len (first_met grid region) 0 grid.dimensions ∙ sym (length-map-range_with_len (amount_met grid region) 0 grid.dimensions)

  index_of : (position : List ℕ) → Holds region position → index_at grid position ≡ index
  index_of position holds = only_member index (index_at grid position) (cover.listed position holds)

  module _ (some : is_empty region ≡ false) where
    first_held : Holds region region.start
    first_held = along_holds region region.start cover.long (record {
      same_length = refl;
      from = λ k below. omega arith;
      below = λ k below. let e = some_extent region.shape k some (let long = cover.long in omega arith) in omega arith;
    })

    number_first : (k : ℕ) → k < grid.dimensions → first_met grid region k ≡ slice_index index k
    unfolding index_at
    number_first k below =
        sym (at_dimension grid.dimensions (first_met grid region) k below) ∙ ap (λ (xs : List ℕ). slice_index xs k) (index_of region.start first_held)

    number_last : (k : ℕ) → k < grid.dimensions → number_at (grid.axis k) (slice_index region.start k + slice_index region.shape k - 1) ≡ slice_index index k
    unfolding index_at
    number_last k below =
        let within : k < length region.start = (let dimensions = cover.dimensions in omega arith) in
        ap (number_at (grid.axis k)) (sym (last_at region.start region.shape k cover.long within))
        ∙ sym (at_dimension grid.dimensions (λ j. number_at (grid.axis j) (slice_index (last_of region) j)) k below)
        ∙ ap (λ (xs : List ℕ). slice_index xs k) (index_of (last_of region) (last_held grid lawful region cover.long some))

    met_index : (i : List ℕ) → InBox met_box i → i ≡ index
    met_index i inside =
        let count = length-map-range_with_len (first_met grid region) 0 grid.dimensions in
        let index_count : length index ≡ grid.dimensions = sym (ap length (index_of region.start first_held)) ∙ index_long grid region.start in
        same_number_lists i index (inside.same_length ∙ count ∙ sym index_count) (λ k below.
        let within : k < grid.dimensions = (let same = inside.same_length in omega arith) in
        let first = number_first k within in
        let last = number_last k within in
        let start = at_dimension grid.dimensions (first_met grid region) k within in
        let amount = at_dimension grid.dimensions (amount_met grid region) k within in
        let from = inside.from k (omega arith) in
        let upto = inside.below k (omega arith) in
        omega arith)

  none_met : is_empty region ≡ true → (i : List ℕ) → InBox (empty_box grid.dimensions) i → i ≡ index
  none_met empty i inside =
      let at = no_extent region.shape empty in
      let k = at.0 in
      let here = at.1 in
      let long = cover.long in
      let dimensions = cover.dimensions in
      let within : k < grid.dimensions = omega arith in
      let count = length-replicate {A = ℕ} grid.dimensions 0 in
      let value = get_or-replicate {A = ℕ} grid.dimensions k 0 0 within in
      let upto = inside.below k (omega arith) in
      absurd (omega arith)

  in_list : (box : Box) → IsLong box → (i : List ℕ) → Contains (positions box) i → InBox box i
  in_list box long i among =
      holds_along box i long (positions_in box.start box.shape among.0 i long (slice_get-get_or (positions box) among.0 i among.1 ∙ ap Some among.2))

  pub met_only : (i : List ℕ) → Contains (chunks_met grid region) i → i ≡ index
  met_only i among = elim (cases_Bool (is_empty region)) [
    | inl empty ↦ none_met empty i (in_list (empty_box grid.dimensions) refl i (subst (λ (b : Box). Contains (positions b) i) (met_none empty) among))
    | inr some ↦ met_index some i (in_list met_box long_met i (subst (λ (b : Box). Contains (positions b) i) (met_some some) among))
  ]

-- ---- parts of one chunk

-- a region that chunks cover is not refused
pub cover_accepted : (layout : Layout) → IsLawful layout → (shape : List ℕ) (region : Box) (chunks : List (List ℕ)) → CoverRegion layout.grid region chunks → region_refusal layout shape region ≡ None
cover_accepted layout lawful shape region chunks cover =
    let one = ap (λ b. refuse_if (not b) (refusal.array_subset region shape)) (eq-eqb _ _ cover.dimensions) in
    let covers : is_covered_box layout.grid region ≡ true =
    elim (cases_Bool (is_empty region)) [
      | inl empty ↦ ap (λ b. b || is_covered layout.grid (last_of region)) empty
      | inr some ↦
          ap (λ b. b || is_covered layout.grid (last_of region)) some
          ∙ (covered_box layout.grid lawful.grid region cover.long some).1 cover.covered
    ] in
    second_refusal _ _ one ∙ ap (λ b. refuse_if (not b) (refusal.array_subset region shape)) covers

module _ (layout : Layout) (lawful : IsLawful layout) (index : List ℕ) (has : has_box layout.grid index ≡ true) (part : Box) (long : IsLong part) (lies : part_refusal layout index part ≡ None) where
  part_covered : CoverRegion layout.grid (region_of_part layout index part) (index ∷ [])
  part_covered = cover_part layout lawful index has part long (part_lies layout index part lies)

  pub part_region : (shape : List ℕ) → region_refusal layout shape (region_of_part layout index part) ≡ None
  part_region shape = cover_accepted layout lawful shape (region_of_part layout index part) (index ∷ []) part_covered

  -- the one key may be asked, and no other one is
  pub part_ask : (region : Box) → region ≡ region_of_part layout index part → (state : StoreState) → MayReadPart layout (region_of_part layout index part) index state → MayReadParts layout region (chunks_met layout.grid region) state
  part_ask region is state ask i among =
      let one = met_only layout.grid lawful.grid index (region_of_part layout index part) part_covered i (subst (λ (b : Box). Contains (chunks_met layout.grid b) i) is among) in
      subst (λ (j : List ℕ). MayReadPart layout region j state) (sym one) (subst (λ (b : Box). MayReadPart layout b index state) (sym is) ask)

-- ---- whether a chunk is present

-- a value is present exactly if it has a size
pub present_if : (value : Option (List ℕ)) (size : Option ℕ) (is : Bool) → size ≡ option_map length value → is ≡ is_some size → IsTrue is ↔ ((encoded : List ℕ) × (value ≡ Some encoded))
present_if None size is sized said =
    let none : is ≡ false = said ∙ ap (λ (o : Option ℕ). is_some o) sized in
    (λ yes. absurd (false≢true (sym none ∙ yes)), λ held. absurd (let clash : None ≡ Some held.0 = held.1 in cc))
present_if (Some encoded) size is sized said =
    (λ yes. (encoded, refl), λ held. said ∙ ap (λ (o : Option ℕ). is_some o) sized)
