-- The cells of a chunk after a part of them was written into its shard.
use Rattle.std.proofs.Common.{◌≡◌, ℕ, zero, suc, ◌+◌, ◌*◌, ◌<◌, ◌^◌, Bool, true, false, cond, ◌&&◌, List, [], ◌∷◌, length, map, replicate, get_or, Option, None, Some, refl, sym, ap, subst, ◌∙◌, arith}
use Rattle.std.specs.Prelude.{max, nat_lt, nat_le, option_map, unwrap_or, slice_get}
use Rattle.std.specs.List.{range_with_len}
use Rattle.std.proofs.lemmas.Bool.{ltb-true, lt-ltb, and_parts, and_from, false≢true}
use Rattle.std.proofs.lemmas.List.{length-map, get_or-map, length-replicate, get_or-replicate, ext_get_or}
use Rattle.std.proofs.lemmas.List.FromFn.{length-map-range_with_len, get_or-map-range_with_len}
use Rattle.std.proofs.lemmas.List.Sums.{AllPass-from_list_all}
use Rattle.std.proofs.lemmas.Option.{slice_get-get_or}
use Rattle.zarrs_data_type.specs.Kind.{Kind}
use Rattle.zarrs_data_type.specs.Cell.{Cell, none, is_value, are_values, values_only}
use Rattle.zarrs_subset.specs.Boxes.{position_count, InShape, place, unravel, offset_by, offset_from, is_within, in_range, overlap_start, overlap_extents}
use Rattle.zarrs_subset.specs.Rearranged.{made_of}
use Rattle.zarrs_subset.specs.Regions.{Box, Holds, in_box, place_in, cell_in, box_at_origin, TakesPart}
use Rattle.zarrs_subset.proofs.Kernel.{place_below}
use Rattle.zarrs_subset.proofs.Overlaps.{in_box-overlap, length-overlap_extents, length-zip_with}
use Rattle.zarrs_subset.proofs.Positions.{unravel_in, place-unravel, unravel-place, in_box-offset_by, offset_from-in}
use Rattle.zarrs_subset.proofs.RearrangedCells.{length-made_of, get_or-made_of, made_at, made_from, made_of-same, all-made_of}
use Rattle.zarrs_metadata_parts.specs.Extension.{◌>>=◌}
use Rattle.zarrs_codec_shard.specs.PartialShards.{PartialChange, put, erase, after, is_met, updated_subchunk, change_at, first_changes, changed_parts, all_absent, updated_cells, stored_parts, stored_end, changed_text, write_of, sharded_partly, stored_cells, IsUpdated, UpdatesShard}
use Rattle.zarrs_codec_shard.specs.Sharded.{SubchunkMeaning, IsLawfulSubchunk, part_of, cells_of_part, cells_of_parts, sharded_fits}
use Rattle.zarrs_codec_shard.specs.Shards.{shard_parts}
use Rattle.zarrs_codec_shard.specs.Steps.{given_if, all_present}
use Rattle.zarrs_codec_shard.specs.Subchunks.{is_cut_by, quotients, remainders, corner, subchunk_count, subchunk_of, subchunk_at, assembled}
use Rattle.zarrs_codec_shard.proofs.Cuts.{position_divided, position_inside, assembled_again, length-assembled, subchunk_len, subchunk_all, subchunk_of-assembled}
use Rattle.zarrs_codec_shard.proofs.Grids.{cut_len}
use Rattle.zarrs_codec_shard.proofs.Missing.{bind_parts, given_if-parts, given_if-true, values_only_parts, length-all_present, all_present-at, all_present-from}
use Rattle.zarrs_codec_shard.proofs.PartialBytes.{written_parts}
use Rattle.zarrs_codec_shard.proofs.ShardLaws.{length-shard_parts, part_again}
use Rattle.zarrs_codec_shard.proofs.SubchunkBoxes.{long_corner, place_in_chunk}
use Rattle.zarrs_data_type_bytes.proofs.FixedSizes.{some_is}

-- a position of the box of a chunk is one of the chunk
holds_in : (s p : List ℕ) → Holds (box_at_origin s) p → InShape s p
holds_in [] [] is = tt
holds_in [] (i ∷ p) is = absurd (false≢true is)
holds_in (n ∷ s) [] is = absurd (false≢true is)
holds_in (n ∷ s) (i ∷ p) is =
    let q = and_parts (in_range 0 n i) (is_within (replicate (length s) 0) s p) is in
    let r = and_parts (nat_le 0 i) (nat_lt i (0 + n)) q.0 in
    ((let lt : i < 0 + n = ltb-true i (0 + n) r.1 in omega arith), holds_in s p q.1)

-- the part of number j afterwards
changed_at : (parts : List (Option (List ℕ))) (changes : List (Option (Option (List ℕ)))) (j : ℕ) → length changes ≡ length parts → j < length parts
    → get_or (changed_parts parts changes) j None ≡ unwrap_or (get_or changes j None) (get_or parts j None)
changed_at [] changes j len lt = absurd (omega arith)
changed_at (p ∷ parts) [] j len lt = absurd (omega arith)
changed_at (p ∷ parts) (None ∷ changes) zero len lt = refl
changed_at (p ∷ parts) (Some q ∷ changes) zero len lt = refl
changed_at (p ∷ parts) (None ∷ changes) (suc j) len lt = changed_at parts changes j (omega arith) (omega arith)
changed_at (p ∷ parts) (Some q ∷ changes) (suc j) len lt = changed_at parts changes j (omega arith) (omega arith)

changed_count : (parts : List (Option (List ℕ))) (changes : List (Option (Option (List ℕ)))) → length (changed_parts parts changes) ≡ length parts
changed_count [] changes = refl
changed_count (p ∷ parts) [] = refl
changed_count (p ∷ parts) (None ∷ changes) = ap suc (changed_count parts changes)
changed_count (p ∷ parts) (Some q ∷ changes) = ap suc (changed_count parts changes)

absent_at : (parts : List (Option (List ℕ))) (j : ℕ) → all_absent parts ≡ true → get_or parts j None ≡ None
absent_at [] zero all = refl
absent_at [] (suc j) all = refl
absent_at (None ∷ parts) zero all = refl
absent_at (Some b ∷ parts) zero all = absurd (false≢true all)
absent_at (None ∷ parts) (suc j) all = absent_at parts j all
absent_at (Some b ∷ parts) (suc j) all = absurd (false≢true all)

-- two boxes that share no position
out_of_box : (S X T Y p : List ℕ) → length S ≡ length X → length T ≡ length Y → length S ≡ length T → nat_lt 0 (position_count (overlap_extents S X T Y)) ≡ false
    → is_within S X p ≡ true → is_within T Y p ≡ false
out_of_box S X T Y p own_len other_len same_len unmet own = go (is_within T Y p) refl
  where
    go : (b : Bool) → is_within T Y p ≡ b → is_within T Y p ≡ false
    go false is = is
    go true is =
        let E = overlap_extents S X T Y in
        let both : is_within (overlap_start S T) E p ≡ true = in_box-overlap S X T Y p own_len other_len same_len ∙ and_from (is_within S X p) (is_within T Y p) own is in
        let len : length (overlap_start S T) ≡ length E = length-zip_with (λ s t. max s t) S T same_len ∙ sym (length-overlap_extents S X T Y own_len other_len same_len) in
        let below = place_below E (offset_from (overlap_start S T) p) (offset_from-in (overlap_start S T) E p len both) in
        absurd (false≢true (sym unmet ∙ lt-ltb 0 (position_count E) (omega arith)))

-- a part of a chunk, in its dimensions
pub record IsPartOf (s : List ℕ) (part : Box) (given : List Cell) : Type 0 where
  pub start : length part.start ≡ length s
  pub shape : length part.shape ≡ length s
  pub count : length given ≡ position_count part.shape

-- a cell afterwards
abbrev now_cell : (s : List ℕ) (part : Box) (given held : List Cell) → List ℕ → Cell
now_cell s part given held p = cond (in_box part p) (get_or given (place_in part p) none) (get_or held (place s p) none)

module _ (s sub : List ℕ) (part : Box) (given held : List Cell) (cut : is_cut_by s sub ≡ true) (is_part : IsPartOf s part given) where
  in_part : (p : List ℕ) → in_box part p ≡ true → place_in part p < length given
  in_part p is =
      let below = place_below part.shape (offset_from part.start p) (offset_from-in part.start part.shape p (is_part.start ∙ sym is_part.shape) is) in
      let len = is_part.count in
      omega arith

  -- a subchunk that the part meets
  met_is : (j : ℕ) → j < subchunk_count s sub → updated_subchunk s sub part given j (subchunk_at s sub held j) ≡ subchunk_at s sub (updated_cells s part given held) j
  met_is j lt =
      let i = unravel (quotients s sub) j in
      let in_grid = unravel_in (quotients s sub) j lt in
      made_of-same
      (λ q. let p = offset_by (corner sub i) q in cond (in_box part p) (get_or given (place_in part p) none) (get_or (subchunk_at s sub held j) (place sub q) none))
      (λ q. get_or (updated_cells s part given held) (place s (offset_by (corner sub i) q)) none)
      sub
      (λ q in_sub.
      let p = offset_by (corner sub i) q in
      ap (λ c. cond (in_box part p) (get_or given (place_in part p) none) c)
      (made_at (λ r. get_or held (place s (offset_by (corner sub i) r)) none) sub q none in_sub)
      ∙ sym (made_at (now_cell s part given held) s p none (position_inside s sub i q cut in_grid in_sub)))

  -- and one that it does not meet
  unmet_is : (j : ℕ) → j < subchunk_count s sub → is_met s sub part j ≡ false → subchunk_at s sub held j ≡ subchunk_at s sub (updated_cells s part given held) j
  unmet_is j lt unmet =
      let i = unravel (quotients s sub) j in
      let in_grid = unravel_in (quotients s sub) j lt in
      let start = corner sub i in
      let long = long_corner s sub i cut in_grid in
      made_of-same (λ q. get_or held (place s (offset_by start q)) none) (λ q. get_or (updated_cells s part given held) (place s (offset_by start q)) none) sub
      (λ q in_sub.
      let p = offset_by start q in
      let out : in_box part p ≡ false =
      out_of_box start sub part.start part.shape p long (is_part.start ∙ sym is_part.shape) (long ∙ (cut_len s sub cut).0 ∙ sym is_part.start) unmet
      (in_box-offset_by start sub q long in_sub) in
      sym (made_at (now_cell s part given held) s p none (position_inside s sub i q cut in_grid in_sub)
      ∙ ap (λ b. cond b (get_or given (place_in part p) none) (get_or held (place s p) none)) out))

  module _ (k : Kind) (held_len : length held ≡ position_count s) (given_values : are_values k given ≡ true) (held_values : are_values k held ≡ true) where
    now_values : are_values k (updated_cells s part given held) ≡ true
    now_values =
        all-made_of (λ c. is_value k c) (now_cell s part given held) s
        (λ p inside. go p inside (in_box part p) refl)
      where
        go : (p : List ℕ) → InShape s p → (b : Bool) → in_box part p ≡ b → is_value k (cond b (get_or given (place_in part p) none) (get_or held (place s p) none)) ≡ true
        go p inside true is = AllPass-from_list_all (λ c. is_value k c) given given_values (place_in part p) none (in_part p is)
        go p inside false is =
            let below = place_below s p inside in
            AllPass-from_list_all (λ c. is_value k c) held held_values (place s p) none (omega arith)

    -- the cells afterwards are those of the part, and elsewhere as they were
    takes_part : TakesPart (box_at_origin s) part given held (updated_cells s part given held)
    takes_part p holds = go (in_box part p) refl
      where
        inside : InShape s p
        inside = holds_in s p holds

        here : cell_in (box_at_origin s) (updated_cells s part given held) p ≡ Some (now_cell s part given held p)
        here =
            let below = place_below s p inside in
            ap (λ n. slice_get (updated_cells s part given held) n) (place_in_chunk s p inside)
            ∙ slice_get-get_or (updated_cells s part given held) (place s p) none (omega (arith, length-made_of (now_cell s part given held) s))
            ∙ ap (λ c. Some c) (made_at (now_cell s part given held) s p none inside)

        go : (b : Bool) → in_box part p ≡ b → cell_in (box_at_origin s) (updated_cells s part given held) p ≡ cond (in_box part p) (cell_in part given p) (cell_in (box_at_origin s) held p)
        go true is =
            here ∙ ap (λ b. Some (cond b (get_or given (place_in part p) none) (get_or held (place s p) none))) is
            ∙ sym (slice_get-get_or given (place_in part p) none (in_part p is))
            ∙ sym (ap (λ b. cond b (cell_in part given p) (cell_in (box_at_origin s) held p)) is)
        go false is =
            let below = place_below s p inside in
            here ∙ ap (λ b. Some (cond b (get_or given (place_in part p) none) (get_or held (place s p) none))) is
            ∙ sym (ap (λ n. slice_get held n) (place_in_chunk s p inside) ∙ slice_get-get_or held (place s p) none (omega arith))
            ∙ sym (ap (λ b. cond b (cell_in part given p) (cell_in (box_at_origin s) held p)) is)

-- ---- what is stored

module _ (m : SubchunkMeaning) (k : Kind) (f : Cell) (s sub : List ℕ) where
  -- each part holds the cells of its subchunk
  pub record IsHeld (parts : List (Option (List ℕ))) (cs : List Cell) : Type 0 where
    pub count : length parts ≡ subchunk_count s sub
    pub len : length cs ≡ position_count s
    pub values : are_values k cs ≡ true
    pub each : (j : ℕ) → j < subchunk_count s sub → cells_of_part m f sub (get_or parts j None) ≡ Some (subchunk_at s sub cs j)

  fill_values : (n : ℕ) → is_value k f ≡ true → are_values k (replicate n f) ≡ true
  fill_values zero is = refl
  fill_values (suc n) is = and_from (is_value k f) (are_values k (replicate n f)) is (fill_values n is)

  fill_held : is_cut_by s sub ≡ true → is_value k f ≡ true → IsHeld (replicate (subchunk_count s sub) None) (replicate (position_count s) f)
  fill_held cut value = record {
    count = length-replicate (subchunk_count s sub) None;
    len = length-replicate (position_count s) f;
    values = fill_values (position_count s) value;
    each = λ j lt.
        let i = unravel (quotients s sub) j in
        let in_grid = unravel_in (quotients s sub) j lt in
        let F : List ℕ → Cell = λ q. get_or (replicate (position_count s) f) (place s (offset_by (corner sub i) q)) none in
        ap (cells_of_part m f sub) (get_or-replicate (subchunk_count s sub) j None None lt)
        ∙ ap (λ l. Some l) (made_from F sub (replicate (position_count sub) f) none (length-replicate (position_count sub) f)
        (λ n below.
        let p = offset_by (corner sub i) (unravel sub n) in
        get_or-replicate (position_count sub) n f none below
        ∙ sym (get_or-replicate (position_count s) (place s p) f none (place_below s p (position_inside s sub i (unravel sub n) cut in_grid (unravel_in sub n below))))));
  }

  module _ (law : IsLawfulSubchunk k (position_count sub) m) where
    part_len : (o : Option (List ℕ)) (cs : List Cell) → cells_of_part m f sub o ≡ Some cs → length cs ≡ position_count sub
    part_len None cs is = ap length (sym (some_is is)) ∙ length-replicate (position_count sub) f
    part_len (Some b) cs is = law.decoded_len b cs is

    shard_held : (shard : List ℕ) (parts : List (Option (List ℕ))) (cs : List Cell) → is_cut_by s sub ≡ true → shard_parts false (subchunk_count s sub) shard ≡ Some parts
        → cells_of_parts m k f s sub parts ≡ Some cs → IsHeld parts cs
    shard_held shard parts cs cut read is =
        let g = quotients s sub in
        let count = length-shard_parts false (subchunk_count s sub) shard parts read in
        let mapped = length-map parts (cells_of_part m f sub) in
        let r = bind_parts (all_present (map (cells_of_part m f sub) parts)) (λ xs. values_only k (assembled s sub xs)) cs is in
        let v = values_only_parts k (assembled s sub r.0) cs r.2 in
        record {
          count = count;
          len = ap length (sym v.1) ∙ length-assembled s sub r.0;
          values = v.0;
          each = λ j lt.
              let i = unravel g j in
              let in_grid = unravel_in g j lt in
              let here : cells_of_part m f sub (get_or parts j None) ≡ Some (get_or r.0 j []) =
              sym (get_or-map (cells_of_part m f sub) parts j None None (omega arith))
              ∙ all_present-at (map (cells_of_part m f sub) parts) r.0 j None [] r.1 (omega arith) in
              let at : place g i ≡ j = place-unravel g j lt in
              let long : length (get_or r.0 (place g i) []) ≡ position_count sub = ap (λ x. length (get_or r.0 x [])) at ∙ part_len (get_or parts j None) (get_or r.0 j []) here in
              here ∙ ap (λ l. Some l)
              (sym (ap (λ l. subchunk_at s sub l j) (sym v.1) ∙ subchunk_of-assembled s sub r.0 i cut in_grid long ∙ ap (λ x. get_or r.0 x []) at));
        }

    stored_held : (stored : Option (List ℕ)) (parts : List (Option (List ℕ))) (held : List Cell) → sharded_fits m s sub ≡ true → is_value k f ≡ true
        → stored_parts (subchunk_count s sub) stored ≡ Some parts → stored_cells m k f s sub stored ≡ Some held → IsHeld parts held
    stored_held None parts held fit value read is =
        let cut = (and_parts (is_cut_by s sub) m.fits fit).0 in
        subst (λ ps. IsHeld ps held) (some_is read) (subst (λ cs. IsHeld (replicate (subchunk_count s sub) None) cs) (some_is is) (fill_held cut value))
    stored_held (Some shard) parts held fit value read is =
        let cut = (and_parts (is_cut_by s sub) m.fits fit).0 in
        let p = given_if-parts (sharded_fits m s sub) _ held is in
        shard_held shard parts held cut read (sym (ap (λ o. o >>= cells_of_parts m k f s sub) read) ∙ p.1)

    -- ---- afterwards

    module _ (empty : Bool) (part : Box) (given held : List Cell) (fit : sharded_fits m s sub ≡ true) (is_part : IsPartOf s part given) (given_values : are_values k given ≡ true)
        (parts : List (Option (List ℕ))) (h : IsHeld parts held) (changes : List (Option (Option (List ℕ))))
        (changes_are : first_changes m empty f s sub part given parts (subchunk_count s sub) ≡ Some changes) where
      is_cut : is_cut_by s sub ≡ true
      is_cut = (and_parts (is_cut_by s sub) m.fits fit).0

      pub change_count : length changes ≡ subchunk_count s sub
      change_count =
          let T = λ (j : ℕ). change_at m empty f s sub part given parts j in
          length-all_present (map T (range_with_len 0 (subchunk_count s sub))) changes changes_are ∙ length-map-range_with_len T 0 (subchunk_count s sub)

      -- a subchunk that changes
      met_part : (j : ℕ) (c : Option (Option (List ℕ))) → j < subchunk_count s sub
          → (cells_of_part m f sub (get_or parts j None) >>= λ old. option_map Some (part_of m empty f (updated_subchunk s sub part given j old))) ≡ Some c
          → cells_of_part m f sub (unwrap_or c (get_or parts j None)) ≡ Some (subchunk_at s sub (updated_cells s part given held) j)
      met_part j c lt is =
          let i = unravel (quotients s sub) j in
          let in_grid = unravel_in (quotients s sub) j lt in
          let old = subchunk_at s sub held j in
          let new = updated_subchunk s sub part given j old in
          let same = met_is s sub part given held is_cut is_part j lt in
          let there : option_map Some (part_of m empty f new) ≡ Some c =
          sym (ap (λ o. o >>= λ x. option_map Some (part_of m empty f (updated_subchunk s sub part given j x))) (h.each j lt)) ∙ is in
          let values : are_values k new ≡ true =
          ap (are_values k) same
          ∙ subchunk_all s sub is_cut (updated_cells s part given held) (length-made_of (now_cell s part given held) s) (λ x. is_value k x)
          (now_values s sub part given held is_cut is_part k h.len given_values h.values) i in_grid in
          let len : length new ≡ position_count sub =
          ap length same ∙ subchunk_len s sub is_cut (updated_cells s part given held) (length-made_of (now_cell s part given held) s) i in
          go (part_of m empty f new) refl there values len same
        where
          go : (o : Option (Option (List ℕ))) → part_of m empty f (updated_subchunk s sub part given j (subchunk_at s sub held j)) ≡ o → option_map Some o ≡ Some c
              → are_values k (updated_subchunk s sub part given j (subchunk_at s sub held j)) ≡ true → length (updated_subchunk s sub part given j (subchunk_at s sub held j)) ≡ position_count sub
              → updated_subchunk s sub part given j (subchunk_at s sub held j) ≡ subchunk_at s sub (updated_cells s part given held) j
              → cells_of_part m f sub (unwrap_or c (get_or parts j None)) ≡ Some (subchunk_at s sub (updated_cells s part given held) j)
          go None made e values len same = cc
          go (Some o) made e values len same =
              ap (λ x. cells_of_part m f sub (unwrap_or x (get_or parts j None))) (sym (some_is e))
              ∙ part_again m false empty k f s sub law (updated_subchunk s sub part given j (subchunk_at s sub held j)) o values len made
              ∙ ap (λ l. Some l) same

      pub now_each : (j : ℕ) → j < subchunk_count s sub → cells_of_part m f sub (get_or (changed_parts parts changes) j None) ≡ Some (subchunk_at s sub (updated_cells s part given held) j)
      now_each j lt =
          let T = λ (i : ℕ). change_at m empty f s sub part given parts i in
          let n = subchunk_count s sub in
          let here : change_at m empty f s sub part given parts j ≡ Some (get_or changes j None) =
          sym (get_or-map-range_with_len T 0 n j j None lt (omega arith))
          ∙ all_present-at (map T (range_with_len 0 n)) changes j None None changes_are (omega (arith, length-map-range_with_len T 0 n)) in
          ap (cells_of_part m f sub) (changed_at parts changes j (change_count ∙ sym h.count) (let len = h.count in omega arith))
          ∙ go (is_met s sub part j) refl here
        where
          go : (b : Bool) → is_met s sub part j ≡ b
              → cond b (cells_of_part m f sub (get_or parts j None) >>= λ old. option_map Some (part_of m empty f (updated_subchunk s sub part given j old))) (Some None) ≡ Some (get_or changes j None)
              → cells_of_part m f sub (unwrap_or (get_or changes j None) (get_or parts j None)) ≡ Some (subchunk_at s sub (updated_cells s part given held) j)
          go true is made = met_part j (get_or changes j None) lt made
          go false is made =
              ap (λ x. cells_of_part m f sub (unwrap_or x (get_or parts j None))) (sym (some_is made))
              ∙ h.each j lt ∙ ap (λ l. Some l) (unmet_is s sub part given held is_cut is_part j lt is)

      -- the shard with the changed parts
      pub now_decoded : (shard : List ℕ) → shard_parts false (subchunk_count s sub) shard ≡ Some (changed_parts parts changes)
          → stored_cells m k f s sub (Some shard) ≡ Some (updated_cells s part given held)
      now_decoded shard read =
          let g = quotients s sub in
          let now = updated_cells s part given held in
          let n = subchunk_count s sub in
          let len = length-made_of (now_cell s part given held) s in
          let count : length (changed_parts parts changes) ≡ n = changed_count parts changes ∙ h.count in
          let mapped = length-map (changed_parts parts changes) (cells_of_part m f sub) in
          let all : all_present (map (cells_of_part m f sub) (changed_parts parts changes)) ≡ Some (made_of (subchunk_of s sub now) g) =
          all_present-from (map (cells_of_part m f sub) (changed_parts parts changes)) (made_of (subchunk_of s sub now) g) (length-made_of (subchunk_of s sub now) g ∙ sym count ∙ sym mapped)
          (λ j d e lt.
          let below : j < position_count g = omega arith in
          get_or-map (cells_of_part m f sub) (changed_parts parts changes) j None d (omega arith)
          ∙ now_each j below
          ∙ ap Some (sym (get_or-made_of (subchunk_of s sub now) g j e below))) in
          given_if-true (sharded_fits m s sub) _ fit
          ∙ ap (λ o. o >>= cells_of_parts m k f s sub) read
          ∙ ap (λ o. o >>= λ xs. values_only k (assembled s sub xs)) all
          ∙ ap (values_only k) (assembled_again s sub is_cut now len)
          ∙ given_if-true (are_values k now) _ (now_values s sub part given held is_cut is_part k h.len given_values h.values)

      -- no shard, if each part is absent
      pub now_erased : all_absent (changed_parts parts changes) ≡ true → Some (replicate (position_count s) f) ≡ Some (updated_cells s part given held)
      now_erased absent =
          let g = quotients s sub in
          let now = updated_cells s part given held in
          let F = now_cell s part given held in
          let fill = replicate (position_count sub) f in
          let len = length-made_of F s in
          ap (λ l. Some l)
          (ext_get_or none (replicate (position_count s) f) now (length-replicate (position_count s) f ∙ sym len)
          (λ n lt.
          let below : n < position_count s = omega (arith, length-replicate {A = Cell} (position_count s) f) in
          let p = unravel s n in
          let inside = unravel_in s n below in
          let a = position_divided s sub p is_cut inside in
          let i = quotients p sub in
          let r = remainders p sub in
          let j = place g i in
          let in_grid : j < subchunk_count s sub = place_below g i a.in_grid in
          let whole : fill ≡ subchunk_of s sub now i =
          some_is (ap (cells_of_part m f sub) (sym (absent_at (changed_parts parts changes) j absent)) ∙ now_each j in_grid)
          ∙ ap (subchunk_of s sub now) (unravel-place g i a.in_grid) in
          get_or-replicate (position_count s) n f none below
          ∙ sym (get_or-replicate (position_count sub) (place sub r) f none (place_below sub r a.in_part))
          ∙ ap (λ l. get_or l (place sub r) none) whole
          ∙ made_at (λ q. get_or now (place s (offset_by (corner sub i) q)) none) sub r none a.in_part
          ∙ ap (λ x. get_or now (place s x) none) a.again
          ∙ ap (λ x. get_or now x none) (place-unravel s n below)))

    updates : (empty : Bool) (stored : Option (List ℕ)) (part : Box) (given held : List Cell) (change : PartialChange) → is_value k f ≡ true → are_values k given ≡ true → IsPartOf s part given
        → sharded_partly m empty f s sub stored part given ≡ Some change → stored_cells m k f s sub stored ≡ Some held → IsUpdated s part given held (stored_cells m k f s sub (after change stored))
    updates empty stored part given held change value given_values is_part made is =
        let n = subchunk_count s sub in
        let a = given_if-parts (sharded_fits m s sub && nat_lt (n * 16) (2 ^ 64)) _ change made in
        let fit = (and_parts (sharded_fits m s sub) (nat_lt (n * 16) (2 ^ 64)) a.0).0 in
        let b = bind_parts (stored_parts n stored) (λ parts. first_changes m empty f s sub part given parts n >>= λ changes. write_of n stored parts changes) change a.1 in
        let c = bind_parts (first_changes m empty f s sub part given b.0 n) (λ changes. write_of n stored b.0 changes) change b.2 in
        let h = stored_held stored b.0 held fit value b.1 is in
        let cut = (and_parts (is_cut_by s sub) m.fits fit).0 in
        record {
          made = updated_cells s part given held;
          made_is = go b.0 c.0 fit h c.1 b.1 (all_absent (changed_parts b.0 c.0)) refl c.2;
          count = length-made_of (now_cell s part given held) s;
          takes = takes_part s sub part given held cut is_part k h.len given_values h.values;
        }
      where
        go : (parts : List (Option (List ℕ))) (changes : List (Option (Option (List ℕ)))) → sharded_fits m s sub ≡ true → IsHeld parts held
            → first_changes m empty f s sub part given parts (subchunk_count s sub) ≡ Some changes → stored_parts (subchunk_count s sub) stored ≡ Some parts
            → (b : Bool) → all_absent (changed_parts parts changes) ≡ b
            → cond b (Some erase) (given_if (nat_lt (stored_end (subchunk_count s sub) stored + length (changed_text (subchunk_count s sub) stored changes)) (2 ^ 64))
            (Some (put (stored_end (subchunk_count s sub) stored) (changed_text (subchunk_count s sub) stored changes)))) ≡ Some change
            → stored_cells m k f s sub (after change stored) ≡ Some (updated_cells s part given held)
        go parts changes fit h changes_are parts_are true absent is =
            ap (λ x. stored_cells m k f s sub (after x stored)) (sym (some_is is))
            ∙ now_erased empty part given held fit is_part given_values parts h changes changes_are absent
        go parts changes fit h changes_are parts_are false absent is =
            let n = subchunk_count s sub in
            let end = stored_end n stored in
            let text = changed_text n stored changes in
            let w = given_if-parts (nat_lt (end + length text) (2 ^ 64)) (Some (put end text)) change is in
            let small : end + length text < 2 ^ 64 = ltb-true (end + length text) (2 ^ 64) w.0 in
            let count = change_count empty part given held fit is_part given_values parts h changes changes_are in
            ap (λ x. stored_cells m k f s sub (after x stored)) (sym (some_is w.1))
            ∙ now_decoded empty part given held fit is_part given_values parts h changes changes_are _
            (written_parts n stored parts changes parts_are count small)

    pub shard-updates : (empty : Bool) → UpdatesShard m empty k f s sub
    shard-updates empty = λ stored part given held change value given_values given_len start shape made is.
        updates empty stored part given held change value given_values (record { start = start; shape = shape; count = given_len }) made is
