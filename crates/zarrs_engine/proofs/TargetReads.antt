-- Reads of regions into data over a larger box, one chunk after another.
use Rattle.std.proofs.Common.{◌≡◌, ◌||◌, ◌&&◌, ℕ, ◌+◌, ◌<◌, Bool, true, false, cond, List, [], ◌∷◌, ◌++◌, length, map, take, slice_get, Option, None, Some, Contains, refl, sym, ap, ◌∙◌, subst, inl, inr, arith}
use Rattle.std.specs.List.{list_any, range_with_len}
use Rattle.std.specs.Str.{bytes_eq}
use Rattle.std.proofs.lemmas.Bool.{cases_Bool, false≢true}
use Rattle.std.proofs.lemmas.List.{take_all, take_more}
use Rattle.std.proofs.lemmas.List.Elements.{Contains-push_cases}
use Rattle.std.proofs.lemmas.List.FromFn.{get_or-map-range_with_len, length-map-range_with_len}
use Rattle.std.proofs.lemmas.List.Sums.{AllPass-from_list_all}
use Rattle.std.proofs.lemmas.Option.{get_or_from_slice_get, slice_get-get_or, slice_get_within}
use Rattle.zarrs_subset.specs.Boxes.{offset_by, offset_from, position_count}
use Rattle.zarrs_subset.specs.Regions.{Box, Holds, IsLong, in_box, place_in, seen_from, LiesInBox}
use Rattle.zarrs_subset.proofs.Bytes.{holds_along, place_in_below}
use Rattle.zarrs_subset.proofs.Inside.{holds_inside}
use Rattle.zarrs_chunk_grid.specs.Grids.{box_at, has_box, index_at, is_covered}
use Rattle.zarrs_chunk_grid.proofs.Chunks.{box_long}
use Rattle.zarrs_engine_layout.proofs.OneChunk.{first_held}
use Rattle.zarrs_storage.specs.Store.{StoreState}
use Rattle.zarrs_data_type.specs.Kind.{fixed_size}
use Rattle.zarrs_data_type.specs.Cell.{Cell, are_values, is_value, none}
use Rattle.zarrs_data_type.specs.ArrayData.{ArrayData}
use Rattle.zarrs_data_type.specs.Cells.{cell_at, fits}
use Rattle.zarrs_data_type_bytes.proofs.Cells.{IsSized, cells-from}
use Rattle.zarrs_data_type_bytes.proofs.Parts.{at_place}
use Rattle.zarrs_data_type.specs.Targets.{FillsBox, KeepsOutside}
use Rattle.zarrs_codec_chain.specs.Parts.{DecodesInto, DecodesPartAt, place_at}
use Rattle.zarrs_codec_chain.proofs.Stays.{cell_stays}
use Rattle.zarrs_codec_chain.proofs.SubchunkSteps.{seen_again}
use Rattle.zarrs_engine_calls.specs.Layout.{Layout, IsLawful}
use Rattle.zarrs_engine_calls.specs.ChunkBoxes.{CoversBox}
use Rattle.zarrs_engine_calls.specs.Content.{value_at, cell_at_place, chunk_cell, content, decoded_cells}
use Rattle.zarrs_engine_calls.specs.Fronts.{is_in_chunks}
use Rattle.zarrs_engine_calls.specs.Reads.{IsBroken, ReadsRegion}
use Rattle.zarrs_engine_calls.proofs.Contents.{absent_fill, content_in_box, reads_decoded}
use Rattle.zarrs_engine_layout.specs.Covers.{CoverRegion}
use Rattle.zarrs_engine_layout.specs.Shared.{AreApart, AreShared}
use Rattle.zarrs_engine_layout.proofs.SharedBoxes.{shared_long}
use Rattle.zarrs_engine.specs.TargetReads.{HasFillElsewhere, HasPositions, HasReadInto, HasReadSoFar, IsRead, ReadsOneMoreInto}
use Rattle.zarrs_codec_chain.proofs.MovedBoxes.{in_overlap, moved_box, moved_holds, moved_in, moved_place, moved_same, moved_to, origin_place, part_holds}
use Rattle.zarrs_engine.proofs.RegionReads.{any_of, in_more}

some_is : {A : Type 0} {x y : A} → Some x ≡ Some y → x ≡ y
some_is e = cc

-- what two boxes share has an extent for each start
pub is_long : (region chunk shared part : Box) → IsLong region → IsLong chunk → AreShared region chunk shared part → IsLong shared
is_long region chunk shared part long chunk_long are = subst IsLong (sym are.shared_is) (shared_long region chunk long chunk_long (sym are.in_region.same_length ∙ are.in_chunk.same_length))

-- ---- what one chunk has of some positions

module _ (layout : Layout) (lawful : IsLawful layout) (state : StoreState) where
  -- a cell of a list of values
  value_found : (cs : List Cell) (i : ℕ) (cell : Cell) → are_values layout.kind cs ≡ true → slice_get cs i ≡ Some cell → is_value layout.kind cell ≡ true
  value_found cs i cell values at =
      subst (λ c. is_value layout.kind c ≡ true) (get_or_from_slice_get cs i cell none at)
      (AllPass-from_list_all (λ c. is_value layout.kind c) cs values i none (slice_get_within cs i cell at))

  module _ (box own : Box) (long : IsLong box) (own_long : IsLong own) (lies : LiesInBox own box) where
    in_parent : (position : List ℕ) → Holds own position → Holds box position
    in_parent position holds = holds_inside own box position own_long long lies holds

    -- positions that were filled
    pub filled_positions : (region : Box) (old new : ArrayData) → IsLong region → own.shape ≡ region.shape → ((position : List ℕ) → Holds region position → content layout (value_at state) position ≡ Some layout.fill)
        → FillsBox layout.kind box own layout.fill old new → HasPositions layout region state box own new
    filled_positions region old new region_long same fill fills = λ position holds.
        let q = moved_to own region position in
        let there = moved_holds own region own_long region_long same position holds in
        let is : cell_at layout.kind new (place_in box q) ≡ layout.fill =
        fills q (in_parent q there) ∙ ap (λ b. cond b layout.fill (cell_at layout.kind old (place_in box q))) there in
        record {
          value = ap (is_value layout.kind) is ∙ lawful.filled;
          same = λ cell found. is ∙ some_is (sym (fill position holds) ∙ found);
        }

    module _ (index : List ℕ) (has : has_box layout.grid index ≡ true) where
      abbrev chunk : Box
      chunk = box_at layout.grid index

      -- a chunk that was decoded
      pub decoded_positions : (encoded : List ℕ) (new : ArrayData) → own.shape ≡ chunk.shape → value_at state (layout.key index) ≡ Some encoded
          → DecodesInto layout.kind box own (decoded_cells layout chunk encoded) new → HasPositions layout chunk state box own new
      decoded_positions encoded new same stands d = λ position holds.
          let q = moved_to own chunk position in
          let cell = cell_at layout.kind new (place_in box q) in
          let there = moved_holds own chunk own_long (box_long layout.grid index) same position holds in
          let found : slice_get d.whole (place_in chunk position) ≡ Some cell =
          ap (slice_get d.whole) (sym (moved_place own chunk own_long (box_long layout.grid index) same position holds)) ∙ sym (d.has q there) in
          let read = reads_decoded layout (value_at state) lawful index has encoded d.whole stands d.decoded_is in
          record {
            value = value_found d.whole (place_in chunk position) cell (lawful.chain.decoded_values _ _ _ _ d.whole d.decoded_is) found;
            same = λ other is. some_is (sym found ∙ sym (read.each position holds) ∙ is);
          }

      -- a part of a chunk that was decoded
      pub part_positions : (region shared part : Box) (encoded : List ℕ) (new : ArrayData) → IsLong region → AreShared region chunk shared part → own.shape ≡ shared.shape → value_at state (layout.key index) ≡ Some encoded
          → DecodesPartAt layout.kind chunk.shape part (decoded_cells layout chunk encoded) box own new → HasPositions layout shared state box own new
      part_positions region shared part encoded new region_long are same stands d = λ position holds.
          let k = layout.kind in
          let chunk_long = box_long layout.grid index in
          let shared_long = is_long region chunk shared part region_long chunk_long are in
          let here : Holds chunk position = holds_inside shared chunk position shared_long chunk_long are.in_chunk holds in
          let part_is : part ≡ seen_from shared chunk.start = are.part_is in
          let seen = offset_from chunk.start position in
          let in_part : Holds part seen = subst (λ (b : Box). Holds b seen) (sym part_is) (part_holds chunk shared chunk_long shared_long are.in_chunk position holds) in
          let got = d seen in_part in
          let at : place_at box own part seen ≡ place_in box (moved_to own shared position) =
          ap (λ (b : Box). place_at box own b seen) part_is
          ∙ ap (λ q. place_in box (offset_by own.start q))
          (seen_again shared.start chunk.start position (sym are.in_chunk.same_length) (holds_along shared position shared_long holds).same_length
          (λ j lt. are.in_chunk.starts j (omega (arith, are.in_chunk.same_length)))) in
          let cell_is : cell_at k new (place_in box (moved_to own shared position)) ≡ cell_at k new (place_at box own part seen) = ap (cell_at k new) (sym at) in
          record {
            value = ap (is_value k) cell_is ∙ got.value;
            same = λ cell is.
                let chunk_is : content layout (value_at state) position ≡ cell_at_place (decoded_cells layout chunk encoded) (place_in chunk position) =
                content_in_box layout (value_at state) lawful index has position here ∙ ap (λ t. chunk_cell layout t chunk position) stands in
                let whole = whole_of (decoded_cells layout chunk encoded) (place_in chunk position) cell (sym chunk_is ∙ is) in
                cell_is ∙ some_is (got.same whole.0 whole.1 ∙ ap (slice_get whole.0) (origin_place chunk position chunk_long here) ∙ whole.2);
          }
        where
          whole_of : (o : Option (List Cell)) (i : ℕ) (cell : Cell) → cell_at_place o i ≡ Some cell → (cs : List Cell) × (o ≡ Some cs) × (slice_get cs i ≡ Some cell)
          whole_of None i cell is = absurd (cc)
          whole_of (Some cs) i cell is = (cs, refl, is)

-- ---- one chunk after another

or_second : (b c : Bool) → b ≡ false → b || c ≡ true → c ≡ true
or_second true c out is = absurd (false≢true (sym out))
or_second false c out is = is

neither : (b c : Bool) → b || c ≡ false → (b ≡ false) × (c ≡ false)
neither true c is = absurd (false≢true (sym is))
neither false c is = (refl, is)

or_none : (b c : Bool) → c ≡ false → b || c ≡ true → b ≡ true
or_none true c out is = refl
or_none false c out is = sym out ∙ is

module _ (layout : Layout) (lawful : IsLawful layout) (region : Box) (state : StoreState) (box own : Box) where
  -- no chunk was read yet
  pub into_none : (held : ArrayData) → HasReadInto layout region [] state box own held
  into_none held = record {
    each = λ position holds among. absurd (false≢true (sym (none_among (is_covered layout.grid position)) ∙ among));
    whole = λ index among. let b = among.1 in absurd (omega arith);
  }
    where
      none_among : (b : Bool) → b && false ≡ false
      none_among true = refl
      none_among false = refl

  pub so_far_none : (filled : Bool) (held : ArrayData) → (filled ≡ true → HasFillElsewhere layout region [] box own held) → HasReadSoFar layout filled region [] state box own held
  so_far_none filled held rest = record { read = into_none held; rest = rest }

  module _ (filled : Bool) (index : List ℕ) (has : has_box layout.grid index ≡ true) where
    abbrev chunk_box : Box
    chunk_box = box_at layout.grid index

    -- a position that neither these chunks have nor the next one
    not_among : (chunks : List (List ℕ)) (position : List ℕ) → is_in_chunks layout (chunks ++ index ∷ []) position ≡ false
        → (is_in_chunks layout chunks position ≡ false) × (in_box chunk_box position ≡ false)
    not_among chunks position out = neither (is_in_chunks layout chunks position) (in_box chunk_box position) (sym (in_more layout lawful chunks index has position) ∙ out)

    sound_more : (chunks : List (List ℕ)) (held : ArrayData) → HasReadInto layout region chunks state box own held → (CoversBox region chunk_box → IsBroken layout index state → ⊥)
        → (i : List ℕ) → Contains (chunks ++ index ∷ []) i → CoversBox region (box_at layout.grid i) → IsBroken layout i state → ⊥
    sound_more chunks held r sound i among = elim (Contains-push_cases chunks index i among) [
      | inl early ↦ r.whole i early
      | inr is ↦ λ covers broken. sound (subst (λ j. CoversBox region (box_at layout.grid j)) (sym is) covers) (subst (λ j. IsBroken layout j state) (sym is) broken)
    ]

    -- the chunk has no position of the region
    pub into_apart : (held : ArrayData) → AreApart region chunk_box → ReadsOneMoreInto layout filled region index state box own held held
    into_apart held apart = λ chunks r. record {
      read = record {
        each = λ position holds among.
            r.read.each position holds (or_none (is_in_chunks layout chunks position) (in_box chunk_box position) (apart position holds) (sym (in_more layout lawful chunks index has position) ∙ among));
        whole = sound_more chunks held r.read (λ covers.
            let corner = first_held layout.grid lawful.grid index has in
            absurd (false≢true (sym (apart chunk_box.start (covers chunk_box.start corner)) ∙ corner)));
      };
      rest = λ is position holds out. r.rest is position holds (not_among chunks position out).0;
    }

    -- the chunk is absent, and its positions are fill already
    pub into_absent : (held : ArrayData) → filled ≡ true → value_at state (layout.key index) ≡ None → ReadsOneMoreInto layout filled region index state box own held held
    into_absent held is absent = λ chunks r. record {
      read = record {
        each = λ position holds among.
            elim (cases_Bool (is_in_chunks layout chunks position)) [
              | inl before ↦ r.read.each position holds before
              | inr after ↦
                  let here = or_second (is_in_chunks layout chunks position) (in_box chunk_box position) after (sym (in_more layout lawful chunks index has position) ∙ among) in
                  let fill = r.rest is position holds after in
                  let known = absent_fill layout (value_at state) lawful index has absent position here in
                  record {
                    value = ap (is_value layout.kind) fill ∙ lawful.filled;
                    same = λ cell found. fill ∙ some_is (sym known ∙ found);
                  }
            ];
        whole = sound_more chunks held r.read (λ covers broken. let clash : None ≡ Some broken.encoded = sym absent ∙ broken.stands in cc);
      };
      rest = λ on position holds out. r.rest on position holds (not_among chunks position out).0;
    }

    -- what it has of the region was read, and the other bytes stayed
    pub into_more : (size : ℕ) (shared part : Box) (old new : ArrayData) → fixed_size layout.kind ≡ Some size → IsLong region → IsLong box → IsLong own → own.shape ≡ region.shape → LiesInBox own box
        → AreShared region chunk_box shared part → HasPositions layout shared state box (moved_box own region shared) new → (CoversBox region chunk_box → IsBroken layout index state → ⊥)
        → KeepsOutside size box (moved_box own region shared) old new → ReadsOneMoreInto layout filled region index state box own old new
    into_more size shared part old new fixed long box_is_long own_long same inside are has_shared sound keeps = λ chunks r.
        let chunk_long = box_long layout.grid index in
        let shared_long = is_long region chunk_box shared part long chunk_long are in
        let both : (position : List ℕ) → Holds region position → in_box shared position ≡ in_box chunk_box position =
        λ position holds.
        ap (λ (b : Box). in_box b position) are.shared_is
        ∙ in_overlap region chunk_box position long chunk_long (sym are.in_region.same_length ∙ are.in_chunk.same_length)
        ∙ ap (λ b. b && in_box chunk_box position) holds in
        let stays : (position : List ℕ) → Holds region position → in_box chunk_box position ≡ false
        → cell_at layout.kind new (place_in box (moved_to own region position)) ≡ cell_at layout.kind old (place_in box (moved_to own region position)) =
        λ position holds out.
        let q = moved_to own region position in
        let parent = holds_inside own box q own_long box_is_long inside (moved_holds own region own_long long same position holds) in
        let outside = moved_in own region shared own_long long shared_long same are.in_region position holds ∙ both position holds ∙ out in
        cell_stays layout.kind size box (moved_box own region shared) old new fixed keeps q parent outside in
        record {
          read = record {
            each = λ position holds among.
                elim (cases_Bool (in_box chunk_box position)) [
                  | inl here ↦
                      let there : Holds shared position = both position holds ∙ here in
                      subst (λ (x : List ℕ). IsRead layout state position (cell_at layout.kind new (place_in box x))) (moved_same own region shared own_long long shared_long same are.in_region position there)
                      (has_shared position there)
                  | inr out ↦
                      let before = or_none (is_in_chunks layout chunks position) (in_box chunk_box position) out (sym (in_more layout lawful chunks index has position) ∙ among) in
                      subst (IsRead layout state position) (sym (stays position holds out)) (r.read.each position holds before)
                ];
            whole = sound_more chunks old r.read sound;
          };
          rest = λ is position holds out.
              let apart = not_among chunks position out in
              stays position holds apart.1 ∙ r.rest is position holds apart.0;
        }

  -- ---- the loop over the chunks

  pub into_next : (filled : Bool) (chunks : List (List ℕ)) (n m : ℕ) (index : List ℕ) (old new : ArrayData) → m ≡ n + 1 → slice_get chunks n ≡ Some index → HasReadSoFar layout filled region (take n chunks) state box own old
      → ReadsOneMoreInto layout filled region index state box own old new → HasReadSoFar layout filled region (take m chunks) state box own new
  into_next filled chunks n m index old new is at r one =
      let next : take (n + 1) chunks ≡ take n chunks ++ index ∷ [] =
      take_more chunks n index (slice_get_within chunks n index at) ∙ ap (λ x. take n chunks ++ x ∷ []) (get_or_from_slice_get chunks n index index at) in
      subst (λ (done : List (List ℕ)). HasReadSoFar layout filled region done state box own new) (sym (ap (λ k. take k chunks) is ∙ next)) (one (take n chunks) r)

  pub into_last : (chunks : List (List ℕ)) (n : ℕ) (held : ArrayData) → n ≡ length chunks → HasReadInto layout region (take n chunks) state box own held → HasReadInto layout region chunks state box own held
  into_last chunks n held all r =
      let whole : take n chunks ≡ chunks = ap (λ n. take n chunks) all ∙ take_all (length chunks) chunks (omega arith) in
      subst (λ (done : List (List ℕ)). HasReadInto layout region done state box own held) whole r

-- ---- all of them

module _ (layout : Layout) (region : Box) (chunks : List (List ℕ)) (state : StoreState) (cover : CoverRegion layout.grid region chunks) where
  -- the cell of each position was read
  pub each_read : (box own : Box) (held : ArrayData) → HasReadInto layout region chunks state box own held → HasPositions layout region state box own held
  each_read box own held r = λ position holds.
      let among : is_in_chunks layout chunks position ≡ true =
      ap (λ b. b && list_any (bytes_eq (index_at layout.grid position)) chunks) (cover.covered position holds) ∙ any_of chunks (index_at layout.grid position) (cover.listed position holds) in
      r.each position holds among

  -- data that is a list of such cells is what a read of the region returns
  pub reads_from : (held : ArrayData) → IsSized layout.kind → fits layout.kind held (position_count region.shape) ≡ true
      → ((position : List ℕ) → Holds region position → IsRead layout state position (cell_at layout.kind held (place_in region position)))
      → ((index : List ℕ) → Contains chunks index → CoversBox region (box_at layout.grid index) → IsBroken layout index state → ⊥) → ReadsRegion layout region chunks held state
  reads_from held sized fit each sound =
      let k = layout.kind in
      let n = position_count region.shape in
      let given = map (λ i. cell_at k held i) (range_with_len 0 n) in
      let count = length-map-range_with_len (λ i. cell_at k held i) 0 n in
      record {
        given = given;
        are_cells = cells-from k held n sized fit (λ i lt.
            let at = at_place region cover.long i lt in
            subst (λ j. is_value k (cell_at k held j) ≡ true) at.2 (each at.0 at.1).value);
        reads = record {
          count = count;
          each = λ position cell holds is.
              let i = place_in region position in
              let lt : i < n = place_in_below region position cover.long holds in
              slice_get-get_or given i none (omega (arith, count))
              ∙ ap Some (get_or-map-range_with_len (λ j. cell_at k held j) 0 n i i none lt (omega arith))
              ∙ ap Some ((each position holds).same cell is);
        };
        long = cover.long;
        covered = cover.covered;
        whole = sound;
      }
