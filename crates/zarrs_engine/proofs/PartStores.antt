-- Writes over parts of chunks and over ranges of chunks.
use Rattle.std.proofs.Common.{◌≡◌, ◌≢◌, ◌↔◌, ◌==◌, IsTrue, ◌<◌, ◌≤◌, ◌+◌, ◌-◌, ◌*◌, ◌^◌, not, ℕ, zero, suc, Bool, true}
use Rattle.std.proofs.Common.{false, cond, List, [], ◌∷◌, length, slice_index, Contains, OnOk, Result, Ok, Err, Option}
use Rattle.std.proofs.Common.{Some, None, refl, sym, ◌∙◌, ap, subst, inl, inr, arith}
use Rattle.std.specs.Option.{option_or}
use Rattle.std.specs.List.{range_with_len}
use Rattle.std.proofs.lemmas.List.{length-map}
use Rattle.std.proofs.lemmas.List.FromFn.{length-range_with_len}
use Rattle.std.proofs.lemmas.Bool.{cases_Bool, eq-eqb, eqb-true, false≢true, le-leb, lt-leb}
use Rattle.std.proofs.lemmas.Grind.{same_number_lists}
use Rattle.std.proofs.Math.Nat.{mul-le-mul_left}
use Rattle.zarrs_subset.specs.Boxes.{position_count}
use Rattle.zarrs_subset.specs.Regions.{Box, Holds, IsLong, box_from, empty_box, positions}
use Rattle.zarrs_subset.proofs.Bytes.{along_holds, holds_along, place_in_below}
use Rattle.zarrs_subset.proofs.Counts.{count_some, count_zero}
use Rattle.zarrs_subset.proofs.Overlaps.{length-zip_with}
use Rattle.zarrs_subset.proofs.Positions.{length-positions, positions_in}
use Rattle.std.proofs.lemmas.Option.{slice_get-get_or}
use Rattle.zarrs_chunk_grid.specs.Grids.{Grid, IsChunkRange, box_at, chunks_box, each_dimension, extent_along, has_box, range_box, start_along}
use Rattle.zarrs_chunk_grid.proofs.Chunks.{box_is_there, holds_chunk}
use Rattle.zarrs_chunk_grid.proofs.MetChunks.{at_dimension, range_fills}
use Rattle.zarrs_storage.specs.Store.{StoreState}
use Rattle.zarrs_data_type.specs.ArrayData.{ArrayData}
use Rattle.zarrs_data_type.specs.Cells.{HasCells}
use Rattle.zarrs_data_type_bytes.proofs.Cells.{HasCells-cells}
use Rattle.zarrs_engine_calls.specs.Layout.{Layout, IsLawful}
use Rattle.zarrs_engine_calls.specs.ArgumentRefusals.{box_data_refusal, cells_refusal, chunk_refusal, dimensions_refusal}
use Rattle.zarrs_engine_calls.specs.ArgumentRefusals.{part_refusal, range_refusal, size_refusal, store_chunk_refusal}
use Rattle.zarrs_engine_calls.specs.ArgumentRefusals.{store_chunks_refusal, store_part_refusal}
use Rattle.zarrs_engine_calls.specs.ChunkBoxes.{CoversBox, is_empty, is_whole_of, last_of, part_box}
use Rattle.zarrs_engine_calls.specs.Fronts.{StoresAll}
use Rattle.zarrs_engine_calls.specs.Reach.{MayAskParts}
use Rattle.zarrs_engine_calls.specs.Refusals as refusal
use Rattle.zarrs_engine_calls.specs.Refusals.{Refusal, RefusesBy, box_refusal, is_too_large, refuse_if}
use Rattle.zarrs_engine_calls.specs.Step.{RefusesStore, RefusesStoreChunks, RefusesStorePart, StoresChunks, StoresPart}
use Rattle.zarrs_engine_calls.proofs.Covers.{last_at, some_extent}
use Rattle.zarrs_engine_calls.proofs.RefusalLemmas.{first_refusal, no_chunk, refused_first, refused_second, second_refusal}
use Rattle.zarrs_engine_layout.specs.Covers.{CoverRegion}
use Rattle.zarrs_engine.specs.RegionWrites.{LeavesPart, StoresOneMore}
use Rattle.zarrs_engine_layout.proofs.ChunkParts.{chunk_accepted, chunk_has, chunk_missing}
use Rattle.zarrs_engine.proofs.PartReads.{is_proper, is_whole, part_cover}
use Rattle.zarrs_engine_layout.proofs.ChunkRanges.{no_position, range_first}
use Rattle.zarrs_engine_layout.proofs.OneChunk.{not_empty}
use Rattle.zarrs_engine.proofs.RegionFronts.{stored_all, stored_fails, stored_more, stored_none}
use Rattle.zarrs_engine.proofs.Writes.{refused_early}

-- ---- a part of one chunk

module _ (layout : Layout) (index : List ℕ) (part : Box) (held : ArrayData) where
  abbrev first_length : Option Refusal
  first_length = refuse_if (not (length index == layout.grid.dimensions)) (refusal.dimensionality (length index) layout.grid.dimensions)

  length_accepted : length index ≡ layout.grid.dimensions → first_length ≡ None
  length_accepted long = ap (λ b. refuse_if (not b) (refusal.dimensionality (length index) layout.grid.dimensions)) (eq-eqb _ _ long)

  part_first : length index ≡ layout.grid.dimensions → chunk_refusal layout index ≡ None → part_refusal layout index part ≡ None
      → store_part_refusal layout index part held ≡ box_data_refusal layout (is_whole_of (box_at layout.grid index).shape part) part.shape held
  part_first long there inside =
      second_refusal first_length _ (length_accepted long) ∙ second_refusal (chunk_refusal layout index) _ there ∙ second_refusal (part_refusal layout index part) _ inside

  -- the arguments refuse it
  pub stores_early : (keep : Bool) (state : StoreState) (r : Refusal) → RefusesBy (store_part_refusal layout index part held) r → RefusesStorePart layout keep index part held r state state
  stores_early keep state r why = refused_early _ _ _ _ state why

  module _ (r : Refusal) where
    -- another number of indices
    pub part_length : (length index ≢ layout.grid.dimensions) → RefusesBy (Some (refusal.dimensionality (length index) layout.grid.dimensions)) r → RefusesBy (store_part_refusal layout index part held) r
    part_length wrong why =
        let apart : (length index == layout.grid.dimensions) ≡ false = elim (cases_Bool (length index == layout.grid.dimensions)) [
          | inl is ↦ absurd (wrong (eqb-true _ _ is))
          | inr is_not ↦ is_not
        ] in
        let said = ap (λ b. refuse_if (not b) (refusal.dimensionality (length index) layout.grid.dimensions)) apart in
        refused_first first_length _ r (subst (λ (o : Option Refusal). RefusesBy o r) (sym said) why)

    -- no such chunk
    pub part_chunk : length index ≡ layout.grid.dimensions → RefusesBy (chunk_refusal layout index) r → RefusesBy (store_part_refusal layout index part held) r
    part_chunk long why = refused_second first_length _ r (length_accepted long) (refused_first (chunk_refusal layout index) _ r why)

    -- the part passes the chunk
    pub part_passing : length index ≡ layout.grid.dimensions → chunk_refusal layout index ≡ None → RefusesBy (part_refusal layout index part) r → RefusesBy (store_part_refusal layout index part held) r
    part_passing long there why =
        refused_second first_length _ r (length_accepted long) (refused_second (chunk_refusal layout index) _ r there (refused_first (part_refusal layout index part) _ r why))

    -- the data is not stored over the part
    pub part_data : length index ≡ layout.grid.dimensions → chunk_refusal layout index ≡ None → part_refusal layout index part ≡ None
        → RefusesBy (box_data_refusal layout (is_whole_of (box_at layout.grid index).shape part) part.shape held) r → RefusesBy (store_part_refusal layout index part held) r
    part_data long there inside why = subst (λ (o : Option Refusal). RefusesBy o r) (sym (part_first long there inside)) why

  module _ (keep : Bool) (long : length index ≡ layout.grid.dimensions) (there : chunk_refusal layout index ≡ None) (inside : part_refusal layout index part ≡ None)
      (fits : box_data_refusal layout (is_whole_of (box_at layout.grid index).shape part) part.shape held ≡ None)
      (given : HasCells layout.kind held (position_count part.shape)) where
    abbrev pub region : Box
    region = part_box (box_at layout.grid index) part

    -- the chunk took the part
    pub part_stored : IsLawful layout → CoverRegion layout.grid region (index ∷ []) → (old new : StoreState) → StoresOneMore layout keep region held index old new → StoresPart layout keep index part held old new
    part_stored lawful cover old new one =
        let found = HasCells-cells layout.kind held (position_count part.shape) given in
        let none = stored_none layout keep region held (index ∷ []) found.0 old found.1 found.2 in
        let all = stored_more layout keep region held (index ∷ []) lawful 0 index old old new none refl one in
        (part_first long there inside ∙ fits, stored_all layout keep region held (index ∷ []) 1 old new refl cover.listed all)

    -- or did not
    pub part_left : (r : Refusal) (old new : StoreState) → LeavesPart layout keep region held index r old new → RefusesStorePart layout keep index part held r old new
    part_left r old new left =
        let found = HasCells-cells layout.kind held (position_count part.shape) given in
        let none = stored_none layout keep region held (index ∷ []) found.0 old found.1 found.2 in
        stored_fails layout keep region held (index ∷ []) (store_part_refusal layout index part held) 0 index r old old new (part_first long there inside ∙ fits) none refl left

-- the same, from what the steps of the call leave
module _ (layout : Layout) (lawful : IsLawful layout) (index : List ℕ) (part chunk region : Box) (part_long : IsLong part) (chunk_is : chunk ≡ box_at layout.grid index) (region_is : region ≡ part_box chunk part)
    (there : chunk_refusal layout index ≡ None) (inside : part_refusal layout index part ≡ None) (held : ArrayData) where
  pub stored_at : region ≡ part_box (box_at layout.grid index) part
  stored_at = region_is ∙ ap (λ (b : Box). part_box b part) chunk_is

  stored_cover : CoverRegion layout.grid (part_box (box_at layout.grid index) part) (index ∷ [])
  stored_cover = subst (λ (b : Box). CoverRegion layout.grid b (index ∷ [])) stored_at (part_cover layout lawful index part chunk region part_long chunk_is region_is there inside)

  index_length : length index ≡ layout.grid.dimensions
  index_length = (box_is_there layout.grid index (chunk_has layout index there)).long

  pub stored_ask_part : (state : StoreState) → MayAskParts layout (part_box (box_at layout.grid index) part) (index ∷ []) state → MayAskParts layout region (index ∷ []) state
  stored_ask_part state ask = subst (λ (b : Box). MayAskParts layout b (index ∷ []) state) (sym stored_at) ask

  module _ (whole : Bool) (test : IsTrue whole ↔ (region ≡ chunk)) where
    whole_is : (b : Bool) → (IsTrue b ↔ (region ≡ chunk)) → b ≡ is_whole_of (box_at layout.grid index).shape part
    whole_is true t = sym (is_whole layout lawful index part chunk region part_long chunk_is region_is there inside (t.0 refl))
    whole_is false t = sym (is_proper layout lawful index part chunk region part_long chunk_is region_is there inside (λ same. false≢true (t.1 same)))

    data_is : box_data_refusal layout whole region.shape held ≡ box_data_refusal layout (is_whole_of (box_at layout.grid index).shape part) part.shape held
    data_is =
        ap (λ b. box_data_refusal layout b region.shape held) (whole_is whole test)
        ∙ ap (λ (b : Box). box_data_refusal layout (is_whole_of (box_at layout.grid index).shape part) b.shape held) stored_at

    pub accepted_part : box_data_refusal layout whole region.shape held ≡ None → store_part_refusal layout index part held ≡ None
    accepted_part fits = part_first layout index part held index_length there inside ∙ sym data_is ∙ fits

    pub data_refuses : (r : Refusal) → RefusesBy (box_data_refusal layout whole region.shape held) r → RefusesBy (store_part_refusal layout index part held) r
    data_refuses r why = part_data layout index part held r index_length there inside (subst (λ (o : Option Refusal). RefusesBy o r) data_is why)

    module _ (keep : Bool) (fits : box_data_refusal layout whole region.shape held ≡ None) (given : HasCells layout.kind held (position_count region.shape)) (old new : StoreState) where
      given_part : HasCells layout.kind held (position_count part.shape)
      given_part = subst (λ (b : Box). HasCells layout.kind held (position_count b.shape)) stored_at given

      pub takes_part : StoresOneMore layout keep region held index old new → StoresPart layout keep index part held old new
      takes_part one =
          part_stored layout index part held keep index_length there inside (sym data_is ∙ fits) given_part lawful stored_cover old new
          (subst (λ (b : Box). StoresOneMore layout keep b held index old new) stored_at one)

      pub takes_none : (r : Refusal) → LeavesPart layout keep region held index r old new → RefusesStorePart layout keep index part held r old new
      takes_none r left =
          part_left layout index part held keep index_length there inside (sym data_is ∙ fits) given_part r old new
          (subst (λ (b : Box). LeavesPart layout keep b held index r old new) stored_at left)

-- ---- a range of one chunk

each_length : (d : ℕ) (f : ℕ → ℕ) → length (each_dimension d f) ≡ d
each_length d f = length-map (range_with_len 0 d) f ∙ length-range_with_len 0 d

one_factor : (n m : ℕ) → n * m ≡ 1 → n ≡ 1
one_factor zero m is = absurd (let none : 0 * m ≡ 0 = omega arith in omega (arith, none))
one_factor (suc zero) m is = refl
one_factor (suc (suc n)) zero is = absurd (let none : suc (suc n) * 0 ≡ 0 = omega arith in omega (arith, none))
one_factor (suc (suc n)) (suc m) is =
    let low : 1 ≤ suc m = omega arith in
    let more : suc (suc n) * 1 ≤ suc (suc n) * suc m = mul-le-mul_left (suc (suc n)) low in
    absurd (omega arith)

one_each : (shape : List ℕ) → position_count shape ≡ 1 → (k : ℕ) → k < length shape → slice_index shape k ≡ 1
one_each [] one k below = absurd (omega arith)
one_each (e ∷ shape) one zero below = one_factor e (position_count shape) one
one_each (e ∷ shape) one (suc k) below =
    let first = one_factor e (position_count shape) one in
    let times = ap (λ n. n * position_count shape) first in
    let more : position_count shape ≡ 1 = omega (arith, one, times) in
    one_each shape more k (omega arith)

module _ (grid : Grid) (range : Box) (long : IsLong range) (dimensions : length range.start ≡ grid.dimensions) (one : position_count range.shape ≡ 1) where
  one_last : last_of range ≡ range.start
  one_last =
      let count = length-zip_with (λ s e. s + e - 1) range.start range.shape long in
      same_number_lists (last_of range) range.start count (λ k below.
      let inside : k < length range.start = omega (arith, count) in
      let at = last_at range.start range.shape k long inside in
      let unit = one_each range.shape one k (omega (arith, long)) in
      omega arith)

  one_box : range_box grid range ≡ box_at grid range.start
  unfolding box_at
  one_box =
      let d = grid.dimensions in
      let span = λ (k : ℕ). (grid.axis k).edge (slice_index range.start k + slice_index range.shape k) - (grid.axis k).edge (slice_index range.start k) in
      let a_long = each_length d span in
      let b_long = each_length d (extent_along grid range.start) in
      ap (λ shape. box_from (each_dimension d (start_along grid range.start)) shape)
      (same_number_lists (each_dimension d span) (each_dimension d (extent_along grid range.start)) (a_long ∙ sym b_long) (λ k below.
      let inside : k < d = omega (arith, a_long) in
      let unit = one_each range.shape one k (omega (arith, long, dimensions)) in
      at_dimension d span k inside
      ∙ ap (λ n. (grid.axis k).edge (slice_index range.start k + n) - (grid.axis k).edge (slice_index range.start k)) unit
      ∙ sym (at_dimension d (extent_along grid range.start) k inside)))

-- ---- the arguments of a store over a range

module _ (layout : Layout) (range : Box) (held : ArrayData) where
  abbrev pub number : ℕ
  number = position_count range.shape

  -- too many chunks
  pub range_many : 2 ^ 64 ≤ number → store_chunks_refusal layout range held ≡ Some refusal.size_overflow
  range_many many =
      ap (λ b. cond b (Some refusal.size_overflow) (cond (number == 0) (cells_refusal layout 0 held) (cond (number == 1) (store_chunk_refusal layout range.start held)
      (option_or (range_refusal layout range) (cells_refusal layout (position_count (range_box layout.grid range).shape) held))))) (le-leb (2 ^ 64) number many)

  module _ (small : number < 2 ^ 64) where
    counted : store_chunks_refusal layout range held ≡ cond (number == 0) (cells_refusal layout 0 held) (cond (number == 1) (store_chunk_refusal layout range.start held)
        (option_or (range_refusal layout range) (cells_refusal layout (position_count (range_box layout.grid range).shape) held)))
    counted =
        ap (λ b. cond b (Some refusal.size_overflow) (cond (number == 0) (cells_refusal layout 0 held) (cond (number == 1) (store_chunk_refusal layout range.start held)
        (option_or (range_refusal layout range) (cells_refusal layout (position_count (range_box layout.grid range).shape) held))))) (lt-leb (2 ^ 64) number small)

    -- no chunk
    pub range_none : number ≡ 0 → store_chunks_refusal layout range held ≡ box_data_refusal layout false range.shape held
    range_none none =
        counted
        ∙ ap (λ b. cond b (cells_refusal layout 0 held) (cond (number == 1) (store_chunk_refusal layout range.start held)
        (option_or (range_refusal layout range) (cells_refusal layout (position_count (range_box layout.grid range).shape) held)))) (eq-eqb number 0 none)
        ∙ ap (λ n. cells_refusal layout n held) (sym none)

    module _ (some : number ≢ 0) where
      not_zero : (number == 0) ≡ false
      not_zero = elim (cases_Bool (number == 0)) [ inl is ↦ absurd (some (eqb-true number 0 is)) | inr is_not ↦ is_not ]

      after : store_chunks_refusal layout range held ≡ cond (number == 1) (store_chunk_refusal layout range.start held)
          (option_or (range_refusal layout range) (cells_refusal layout (position_count (range_box layout.grid range).shape) held))
      after =
          counted
          ∙ ap (λ b. cond b (cells_refusal layout 0 held) (cond (number == 1) (store_chunk_refusal layout range.start held)
          (option_or (range_refusal layout range) (cells_refusal layout (position_count (range_box layout.grid range).shape) held)))) not_zero

      -- the first index has another length
      pub range_missing : has_box layout.grid range.start ≡ false → store_chunks_refusal layout range held ≡ Some (refusal.indices range.start)
      range_missing none =
          let many = option_or (range_refusal layout range) (cells_refusal layout (position_count (range_box layout.grid range).shape) held) in
          after ∙ elim (cases_Bool (number == 1)) [
            | inl is ↦ ap (λ b. cond b (store_chunk_refusal layout range.start held) many) is ∙ first_refusal (box_refusal layout range.start) _ (refusal.indices range.start) (no_chunk layout range.start none)
            | inr is_not ↦
                ap (λ b. cond b (store_chunk_refusal layout range.start held) many) is_not
                ∙ first_refusal (range_refusal layout range) _ (refusal.indices range.start) (first_refusal (chunk_refusal layout range.start) _ (refusal.indices range.start) (chunk_missing layout range.start none))
          ]

      module _ (long : IsLong range) (dimensions : length range.start ≡ layout.grid.dimensions) where
        filled : is_empty range ≡ false
        filled = not_empty range (λ at. some (count_zero range.shape at.0 at.1 at.2))

        box_is : chunks_box layout.grid range ≡ range_box layout.grid range
        box_is = ap (λ b. cond b (empty_box (length range.shape)) (range_box layout.grid range)) filled

        one_chunk : (index : List ℕ) → store_chunk_refusal layout index held ≡ option_or (option_or (chunk_refusal layout index) (chunk_refusal layout index)) (box_data_refusal layout true (box_at layout.grid index).shape held)
        one_chunk index = elim (cases_Bool (has_box layout.grid index)) [
          | inr none ↦
              first_refusal (box_refusal layout index) _ (refusal.indices index) (no_chunk layout index none)
              ∙ sym (first_refusal (option_or (chunk_refusal layout index) (chunk_refusal layout index)) _ (refusal.indices index) (first_refusal (chunk_refusal layout index) _ (refusal.indices index) (chunk_missing layout index none)))
          | inl has ↦
              let cells = cells_refusal layout (position_count (box_at layout.grid index).shape) held in
              let there = chunk_accepted layout index has in
              let size = size_refusal layout (box_at layout.grid index).shape in
              let box : box_refusal layout index ≡ size = ap (λ b. cond (not b) (Some (refusal.indices index)) (cond (is_too_large layout (box_at layout.grid index).shape) (Some refusal.size_overflow) None)) has in
              ap (λ o. option_or o cells) box
              ∙ sym (second_refusal (option_or (chunk_refusal layout index) (chunk_refusal layout index)) _ (second_refusal (chunk_refusal layout index) _ there ∙ there))
        ]

        -- the chunks, then the data
        pub range_then : store_chunks_refusal layout range held ≡ option_or (range_refusal layout range) (box_data_refusal layout (number == 1) (chunks_box layout.grid range).shape held)
        range_then =
            let many = option_or (range_refusal layout range) (cells_refusal layout (position_count (range_box layout.grid range).shape) held) in
            let wanted = λ (b : Bool) (box : Box). option_or (range_refusal layout range) (box_data_refusal layout b box.shape held) in
            after ∙ elim (cases_Bool (number == 1)) [
              | inl is ↦
                  let one = eqb-true number 1 is in
                  let at = box_is ∙ one_box layout.grid range long dimensions one in
                  let last = one_last layout.grid range long dimensions one in
                  ap (λ b. cond b (store_chunk_refusal layout range.start held) many) is
                  ∙ one_chunk range.start
                  ∙ ap (λ i. option_or (option_or (chunk_refusal layout range.start) (chunk_refusal layout i)) (box_data_refusal layout true (box_at layout.grid range.start).shape held)) (sym last)
                  ∙ ap (wanted true) (sym at)
                  ∙ ap (λ b. wanted b (chunks_box layout.grid range)) (sym is)
              | inr is_not ↦
                  ap (λ b. cond b (store_chunk_refusal layout range.start held) many) is_not
                  ∙ ap (wanted false) (sym box_is)
                  ∙ ap (λ b. wanted b (chunks_box layout.grid range)) (sym is_not)
            ]

        -- the dimensions are right, and there is a chunk
        pub range_said : (shape : List ℕ) → range_first layout shape range ≡ range_refusal layout range
        range_said shape =
            second_refusal (dimensions_refusal layout shape range) _ (ap (λ b. refuse_if (not b) (refusal.array_subset range shape)) (eq-eqb _ _ dimensions))
            ∙ ap (λ b. cond b None (range_refusal layout range)) filled

-- ---- the store over a range

module _ (layout : Layout) (keep : Bool) (range : Box) (held : ArrayData) (state : StoreState) where
  pub chunks_early : (r : Refusal) → RefusesBy (store_chunks_refusal layout range held) r → RefusesStoreChunks layout keep range held r state state
  chunks_early r why = refused_early _ _ _ _ state why

  -- a range without a chunk, and no cell
  pub chunks_none : IsLong range → position_count range.shape ≡ 0 → is_empty range ≡ true → store_chunks_refusal layout range held ≡ None → HasCells layout.kind held (position_count range.shape) → StoresChunks layout keep range held state state
  chunks_none long none empty accepted given =
      let box = chunks_box layout.grid range in
      let is : box ≡ empty_box (length range.shape) = ap (λ b. cond b (empty_box (length range.shape)) (range_box layout.grid range)) empty in
      let count : position_count box.shape ≡ 0 = ap (λ (b : Box). position_count b.shape) is ∙ no_position range.shape empty in
      let box_long : IsLong box = ap (λ (b : Box). length b.start) is ∙ sym (ap (λ (b : Box). length b.shape) is) in
      let found = HasCells-cells layout.kind held (position_count range.shape) given in
      let begin = stored_none layout keep box held (positions range) found.0 state found.1 (found.2 ∙ none ∙ sym count) in
      let length_is = length-positions range.start range.shape long ∙ none in (
        accepted,
        stored_all layout keep box held (positions range) 0 state state (sym length_is) (λ position holds.
            let below = place_in_below box position box_long holds in
            absurd (omega (arith, count))) begin,
      )

-- the same, from what the steps of the call leave
pub two_ok : {T E P Q R : Type 0} (r : Result T E) → (P → Q → R) → OnOk r P → OnOk r Q → OnOk r R
two_ok (Ok x) f p q = f p q
two_ok (Err e) f p q = tt

pub none_empty : (box : Box) → position_count box.shape ≡ 0 → is_empty box ≡ true
none_empty box none = elim (cases_Bool (is_empty box)) [
  | inl is ↦ is
  | inr some ↦ absurd (let count = count_some box.shape (λ k below zero_at. let e = some_extent box.shape k some below in omega arith) in omega arith)
]

module _ (layout : Layout) (lawful : IsLawful layout) (keep : Bool) (range region : Box) (held : ArrayData) (long : IsLong range) (dimensions : length range.start ≡ layout.grid.dimensions)
    (small : position_count range.shape < 2 ^ 64) (some : position_count range.shape ≢ 0) where
  -- no such chunks
  pub range_refuses : (shape : List ℕ) (state : StoreState) (r : Refusal) → RefusesBy (range_first layout shape range) r → RefusesStoreChunks layout keep range held r state state
  range_refuses shape state r why =
      let said = subst (λ (o : Option Refusal). RefusesBy o r) (range_said layout range held small some long dimensions shape) why in
      chunks_early layout keep range held state r
      (subst (λ (o : Option Refusal). RefusesBy o r) (sym (range_then layout range held small some long dimensions)) (refused_first (range_refusal layout range) _ r said))

  module _ (shape : List ℕ) (region_is : region ≡ chunks_box layout.grid range) (cover : CoverRegion layout.grid region (positions range)) (there : range_first layout shape range ≡ None) where
    accepted : range_refusal layout range ≡ None
    accepted = sym (range_said layout range held small some long dimensions shape) ∙ there

    filled_range : is_empty range ≡ false
    filled_range = not_empty range (λ at. some (count_zero range.shape at.0 at.1 at.2))

    region_box : region ≡ range_box layout.grid range
    region_box = region_is ∙ ap (λ b. cond b (empty_box (length range.shape)) (range_box layout.grid range)) filled_range

    last_there : (a b : Option Refusal) → option_or a b ≡ None → b ≡ None
    last_there None b h = h
    last_there (Some x) b h = absurd (cc)

    is_range : IsChunkRange layout.grid range
    is_range =
        let last = box_is_there layout.grid (last_of range) (chunk_has layout (last_of range) (last_there _ _ accepted)) in
        record {
          start_long = dimensions;
          shape_long = sym long ∙ dimensions;
          some = λ k below. some_extent range.shape k filled_range (omega (arith, long, dimensions));
          numbered = λ k below.
              let n = last.numbered k below in
              let at = last_at range.start range.shape k long (omega (arith, dimensions)) in
              let e = some_extent range.shape k filled_range (omega (arith, long, dimensions)) in
              omega arith;
        }

    -- the region has each chunk of the range whole
    within : (index : List ℕ) → Contains (positions range) index → CoversBox region (box_at layout.grid index)
    within index among = λ position holds.
        let inside_chunk = holds_chunk layout.grid lawful.grid index position (box_is_there layout.grid index (cover.boxed index among)) holds in
        let at = slice_get-get_or (positions range) among.0 index among.1 ∙ ap Some among.2 in
        let inside = holds_along range index long (positions_in range.start range.shape among.0 index long at) in
        let filled = (range_fills layout.grid lawful.grid range is_range position).1 (index, inside, inside_chunk) in
        let box_long : IsLong (range_box layout.grid range) = ap (λ (b : Box). length b.start) (sym region_box) ∙ cover.long ∙ ap (λ (b : Box). length b.shape) region_box in
        subst (λ (b : Box). Holds b position) (sym region_box) (along_holds (range_box layout.grid range) position box_long filled)

    -- so no chunk is asked for
    pub range_ask : (state : StoreState) → MayAskParts layout region (positions range) state
    range_ask state = λ index among part. absurd (part (within index among))

    module _ (one : Bool) (one_is : one ≡ (position_count range.shape == 1)) where
      then_data : store_chunks_refusal layout range held ≡ box_data_refusal layout one region.shape held
      then_data =
          range_then layout range held small some long dimensions
          ∙ second_refusal (range_refusal layout range) _ accepted
          ∙ ap (λ b. box_data_refusal layout b (chunks_box layout.grid range).shape held) (sym one_is)
          ∙ ap (λ (b : Box). box_data_refusal layout one b.shape held) (sym region_is)

      -- the data is not stored
      pub range_data : (state : StoreState) (r : Refusal) → RefusesBy (box_data_refusal layout one region.shape held) r → RefusesStoreChunks layout keep range held r state state
      range_data state r why = chunks_early layout keep range held state r (subst (λ (o : Option Refusal). RefusesBy o r) (sym then_data) why)

      module _ (fits : box_data_refusal layout one region.shape held ≡ None) (old new : StoreState) where
        pub range_first_none : store_chunks_refusal layout range held ≡ None
        range_first_none = then_data ∙ fits

        pub range_stored : StoresAll layout keep region held (positions range) old new → StoresChunks layout keep range held old new
        range_stored all = (range_first_none, subst (λ (b : Box). StoresAll layout keep b held (positions range) old new) region_is all)

        pub range_left : (r : Refusal) → RefusesStore layout keep (store_chunks_refusal layout range held) region held (positions range) r old new → RefusesStoreChunks layout keep range held r old new
        range_left r left = subst (λ (b : Box). RefusesStore layout keep (store_chunks_refusal layout range held) b held (positions range) r old new) region_is left
