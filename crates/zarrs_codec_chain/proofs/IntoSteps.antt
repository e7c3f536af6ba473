-- A shard in a target, one subchunk after another.
use Rattle.std.proofs.Common.{◌≡◌, ℕ, ◌+◌, ◌-◌, ◌^◌, ◌<◌, Bool, true, false, cond, List, [], ◌∷◌, length, replicate, slice_get, Option, None, Some, inl, inr, refl, sym, ap, ◌∙◌, subst, arith}
use Rattle.std.specs.Prelude.{slice_index, slice_index_or}
use Rattle.std.proofs.lemmas.Bool.{cases_lt, false≢true}
use Rattle.std.proofs.lemmas.List.{get_or-replicate, length-replicate}
use Rattle.zarrs_data_type.specs.ArrayData.{ArrayData}
use Rattle.zarrs_data_type.specs.Cells.{cell_at}
use Rattle.zarrs_codec_shard.specs.Sharded.{SubchunkMeaning, cells_of_part, sharded_decoded}
use Rattle.zarrs_codec_shard.specs.Shards.{shard_parts}
use Rattle.zarrs_codec_shard.specs.Subchunks.{assembled, corner, is_cut_by, quotients, remainders, subchunk_box, subchunk_count}
use Rattle.zarrs_codec_shard.proofs.Cuts.{position_divided}
use Rattle.zarrs_codec_shard.proofs.Grids.{corner_long}
use Rattle.zarrs_codec_shard.proofs.ShardLaws.{length-shard_parts}
use Rattle.zarrs_codec_shard.proofs.SubchunkBoxes.{lies_in_chunk, long_corner, only_own}
use Rattle.zarrs_subset.specs.Boxes.{position_count, InShape, place, unravel, offset_by, offset_from, zip_with}
use Rattle.zarrs_subset.specs.Regions.{Box, Holds, IsLong, LiesInBox, LiesInShape, box_at_origin, box_from, in_box, place_in, shifted_box}
use Rattle.zarrs_subset.proofs.Bytes.{holds_along}
use Rattle.zarrs_subset.proofs.Kernel.{place_below}
use Rattle.zarrs_subset.proofs.Overlaps.{length-zip_with}
use Rattle.zarrs_subset.proofs.Parts.{zip_with-at}
use Rattle.zarrs_subset.proofs.Positions.{offset_by-from, offset_from-in, place-unravel, unravel-place, unravel_in}
use Rattle.zarrs_subset.proofs.Shifts.{holds-shifted, part_in_chunk}
use Rattle.zarrs_data_type.specs.Targets.{FillsBox, KeepsOutside}
use Rattle.zarrs_data_type_region.proofs.TargetBoxes.{lies_at_origin, origin_long}
use Rattle.zarrs_data_type.specs.Cell.{Cell, are_values, is_value, none}
use Rattle.zarrs_data_type.specs.Kind.{Kind, fixed_size}
use Rattle.zarrs_subset.proofs.Inside.{holds_inside}
use Rattle.zarrs_codec_chain.specs.Parts.{DecodesInto}
use Rattle.zarrs_codec_chain.specs.ShardInto.{DecodesPartInto}
use Rattle.zarrs_codec_chain.specs.ShardParts.{DecodesAs, IsCellOf}
use Rattle.zarrs_codec_chain.proofs.AllDecode.{all_there, whole_of}
use Rattle.zarrs_codec_chain.proofs.Stays.{cell_stays}
use Rattle.zarrs_codec_chain.proofs.SubchunkSteps.{cell_of_whole, length-offset_from, own_holds, own_place}
use Rattle.zarrs_data_type_bytes.proofs.FixedSizes.{some_is}

-- ---- boxes of subchunks in an array

-- the box of a subchunk of the chunk that fills `region`
abbrev pub own_box : Box → (sub : List ℕ) → ℕ → Box
own_box region sub j = shifted_box (subchunk_box region.shape sub j) region.start

lies_shape : (box : Box) (s : List ℕ) → LiesInBox box (box_at_origin s) → LiesInShape box s
lies_shape box s lies =
    let n = length-replicate {A = ℕ} (length s) 0 in
    let none : ℕ = 0 in
    record {
      same_length = lies.same_length ∙ n;
      ends = λ k lt. omega (arith, lies.ends k (omega arith), get_or-replicate (length s) k none none lt);
    }

shifted_place : (S O p : List ℕ) → length O ≡ length S → length p ≡ length S → offset_from (zip_with (λ s t. s + t) S O) (offset_by O p) ≡ offset_from S p
shifted_place [] [] [] same long = refl
shifted_place [] (o ∷ O) p same long = absurd (omega arith)
shifted_place [] [] (i ∷ p) same long = absurd (omega arith)
shifted_place (s ∷ S) [] p same long = absurd (omega arith)
shifted_place (s ∷ S) (o ∷ O) [] same long = absurd (omega arith)
shifted_place (s ∷ S) (o ∷ O) (i ∷ p) same long =
    let first : o + i - (s + o) ≡ i - s = omega arith in
    ap (λ x. x ∷ offset_from (zip_with (λ a b. a + b) S O) (offset_by O p)) first ∙ ap (λ l. (i - s) ∷ l) (shifted_place S O p (omega arith) (omega arith))

-- where the box of a subchunk ends, in a region whose ends fit
module _ (region : Box) (sub : List ℕ) (cut : is_cut_by region.shape sub ≡ true) (long : IsLong region) (j : ℕ) (lt : j < subchunk_count region.shape sub) where
  at_grid : InShape (quotients region.shape sub) (unravel (quotients region.shape sub) j)
  at_grid = unravel_in (quotients region.shape sub) j lt

  pub region_start : length region.start ≡ length (subchunk_box region.shape sub j).start
  region_start = long ∙ sym (corner_long region.shape sub (unravel (quotients region.shape sub) j) cut at_grid)

  pub region_ends : (k : ℕ) → k < length region.start → slice_index region.start k + slice_index region.shape k < 2 ^ 64
      → slice_index (subchunk_box region.shape sub j).start k + slice_index (subchunk_box region.shape sub j).shape k + slice_index region.start k < 2 ^ 64
  region_ends k below end =
      omega (arith, (lies_shape (subchunk_box region.shape sub j) region.shape (lies_in_chunk region.shape sub (unravel (quotients region.shape sub) j) cut at_grid)).ends k (omega (arith, long)), end)

module _ (parent : List ℕ) (region : Box) (sub : List ℕ) (cut : is_cut_by region.shape sub ≡ true) (long : IsLong region) (lies : LiesInShape region parent) where
  abbrev s : List ℕ
  s = region.shape

  abbrev grid : List ℕ
  grid = quotients region.shape sub

  -- a position of the region as one of the chunk
  abbrev seen : List ℕ → List ℕ
  seen position = offset_from region.start position

  seen_in : (p : List ℕ) → Holds region p → InShape s (seen p)
  seen_in p holds = offset_from-in region.start region.shape p long holds

  again : (p : List ℕ) → Holds region p → offset_by region.start (seen p) ≡ p
  again p holds = offset_by-from region.start region.shape p long holds

  seen_len : (p : List ℕ) → Holds region p → length (seen p) ≡ length region.start
  seen_len p holds = let at = holds_along region p long holds in length-offset_from region.start p (sym at.same_length) ∙ at.same_length

  in_grid : (j : ℕ) → j < subchunk_count s sub → InShape grid (unravel grid j)
  in_grid j lt = unravel_in grid j lt

  box_lies : (j : ℕ) → j < subchunk_count s sub → LiesInShape (subchunk_box s sub j) s
  box_lies j lt = lies_shape (subchunk_box s sub j) s (lies_in_chunk s sub (unravel grid j) cut (in_grid j lt))

  box_long : (j : ℕ) → j < subchunk_count s sub → IsLong (subchunk_box s sub j)
  box_long j lt = long_corner s sub (unravel grid j) cut (in_grid j lt)

  start_len : (j : ℕ) → j < subchunk_count s sub → length region.start ≡ length (subchunk_box s sub j).start
  start_len j lt = long ∙ sym (corner_long s sub (unravel grid j) cut (in_grid j lt))

  pub own_in_region : (j : ℕ) → j < subchunk_count s sub → LiesInBox (own_box region sub j) region
  own_in_region j lt =
      let b = subchunk_box s sub j in
      let in_s = box_lies j lt in
      let same = start_len j lt in
      let len = length-zip_with (λ a c. a + c) b.start region.start (sym same) in
      let at : (k : ℕ) → k < length region.start → slice_index (own_box region sub j).start k ≡ slice_index b.start k + slice_index region.start k =
      λ k below. zip_with-at (λ a c. a + c) b.start region.start k (omega arith) below in
      record {
        same_length = len ∙ sym same;
        starts = λ k below. omega (arith, at k below);
        ends = λ k below. omega (arith, at k below, in_s.ends k (omega (arith, long)));
      }

  own_in : (j : ℕ) → j < subchunk_count s sub → (p : List ℕ) → Holds (own_box region sub j) p → Holds region p
  own_in j lt p holds = part_in_chunk region (subchunk_box s sub j) p long (box_long j lt) (box_lies j lt) holds

  in_parent : (p : List ℕ) → Holds region p → Holds (box_at_origin parent) p
  in_parent p holds = holds_inside region (box_at_origin parent) p long (origin_long parent) (lies_at_origin region parent lies) holds

  -- a position of it has its number
  own_number : (j : ℕ) → j < subchunk_count s sub → (p : List ℕ) → Holds (own_box region sub j) p → place grid (quotients (seen p) sub) ≡ j
  own_number j lt p holds =
      let there = own_in j lt p holds in
      let moved : Holds (own_box region sub j) (offset_by region.start (seen p)) = subst (Holds (own_box region sub j)) (sym (again p there)) holds in
      let here = (holds-shifted (subchunk_box s sub j) region.start (seen p) (box_long j lt) (start_len j lt) (seen_len p there ∙ start_len j lt)).0 moved in
      ap (place grid) (only_own s sub (unravel grid j) (seen p) cut (in_grid j lt) (seen_in p there) here) ∙ place-unravel grid j lt

  -- two of them have no position in common
  pub own_apart : (j n : ℕ) → j < subchunk_count s sub → n < subchunk_count s sub → (j ≡ n → ⊥) → (p : List ℕ) → Holds (own_box region sub j) p
      → Holds (box_at_origin parent) p × (in_box (own_box region sub n) p ≡ false)
  own_apart j n j_lt n_lt differ p holds = (in_parent p (own_in j j_lt p holds), go (in_box (own_box region sub n) p) refl)
    where
      go : (b : Bool) → in_box (own_box region sub n) p ≡ b → in_box (own_box region sub n) p ≡ false
      go true is = absurd (differ (sym (own_number j j_lt p holds) ∙ own_number n n_lt p is))
      go false is = is

  -- outside the region there is no position of it
  pub own_outside : (n : ℕ) → n < subchunk_count s sub → (p : List ℕ) → in_box region p ≡ false → in_box (own_box region sub n) p ≡ false
  own_outside n lt p out = go (in_box (own_box region sub n) p) refl
    where
      go : (b : Bool) → in_box (own_box region sub n) p ≡ b → in_box (own_box region sub n) p ≡ false
      go true is = absurd (false≢true (sym out ∙ own_in n lt p is))
      go false is = is

  -- each position of the region is one of its subchunk
  pub own_of_position : (p : List ℕ) → Holds region p → Holds (own_box region sub (place grid (quotients (seen p) sub))) p
  own_of_position p holds =
      let q = quotients (seen p) sub in
      let inside = seen_in p holds in
      let d = position_divided s sub (seen p) cut inside in
      let j = place grid q in
      let lt : j < subchunk_count s sub = place_below grid q d.in_grid in
      let is : unravel grid j ≡ q = unravel-place grid q d.in_grid in
      let own : Holds (subchunk_box s sub j) (seen p) = subst (λ i. Holds (box_from (corner sub i) sub) (seen p)) (sym is) (own_holds s sub q (seen p) cut inside refl) in
      let moved = (holds-shifted (subchunk_box s sub j) region.start (seen p) (box_long j lt) (start_len j lt) (seen_len p holds ∙ start_len j lt)).1 own in
      subst (Holds (own_box region sub j)) (again p holds) moved

  -- at its place in it
  pub own_place_of : (p : List ℕ) → Holds region p → place_in (own_box region sub (place grid (quotients (seen p) sub))) p ≡ place sub (remainders (seen p) sub)
  own_place_of p holds =
      let q = quotients (seen p) sub in
      let inside = seen_in p holds in
      let d = position_divided s sub (seen p) cut inside in
      let j = place grid q in
      let lt : j < subchunk_count s sub = place_below grid q d.in_grid in
      let is : unravel grid j ≡ q = unravel-place grid q d.in_grid in
      let C = corner sub (unravel grid j) in
      ap (place sub)
      (ap (offset_from (zip_with (λ a b. a + b) C region.start)) (sym (again p holds))
      ∙ shifted_place C region.start (seen p) (start_len j lt) (seen_len p holds ∙ start_len j lt)
      ∙ ap (λ i. offset_from (corner sub i) (seen p)) is
      ∙ own_place s sub q (seen p) cut inside refl)

  module _ (k : Kind) (size : ℕ) (fixed_is : fixed_size k ≡ Some size) (decoded : List ℕ → Option (List Cell)) (fill : Cell) (parts : List (Option (List ℕ))) where
    -- the subchunk of this number is in the data
    abbrev Has : ℕ → ArrayData → Type 0
    Has j held = DecodesPartInto k decoded fill (box_at_origin parent) (own_box region sub j) (slice_index_or parts j None) held

    part_stays : (o : Option (List ℕ)) (own other : Box) (old new : ArrayData) → KeepsOutside size (box_at_origin parent) other old new
        → ((p : List ℕ) → Holds own p → Holds (box_at_origin parent) p × (in_box other p ≡ false))
        → DecodesPartInto k decoded fill (box_at_origin parent) own o old → DecodesPartInto k decoded fill (box_at_origin parent) own o new
    part_stays None own other old new keeps apart before =
        λ p holds. let a = apart p holds in cell_stays k size (box_at_origin parent) other old new fixed_is keeps p a.0 a.1 ∙ before p holds
    part_stays (Some b) own other old new keeps apart before = record {
      whole = before.whole;
      decoded_is = before.decoded_is;
      has = λ p holds. let a = apart p holds in ap Some (cell_stays k size (box_at_origin parent) other old new fixed_is keeps p a.0 a.1) ∙ before.has p holds;
    }

    -- one more of them
    pub parts_more : (n : ℕ) (old new : ArrayData) → n < subchunk_count s sub → KeepsOutside size (box_at_origin parent) (own_box region sub n) old new
        → ((j : ℕ) → j < n → Has j old) → Has n new → (j : ℕ) → j < n + 1 → Has j new
    parts_more n old new n_lt keeps before here j lt = elim (cases_lt j n) [
      | inl below ↦
          part_stays (slice_index_or parts j None) (own_box region sub j) (own_box region sub n) old new keeps
          (own_apart j n (omega arith) n_lt (λ e. omega arith)) (before j below)
      | inr past ↦ let at : n ≡ j = omega arith in subst (λ i. Has i new) at here
    ]

    -- ---- all of them

    module _ (m : SubchunkMeaning) (at_start : Bool) (encoded : List ℕ) (fits : m.fits ≡ true) (decodes_as : DecodesAs m decoded)
        (parts_are : shard_parts at_start (subchunk_count s sub) encoded ≡ Some parts)
        (counted : (b : List ℕ) (cs : List Cell) → decoded b ≡ Some cs → length cs ≡ position_count sub)
        (valued : (b : List ℕ) (cs : List Cell) → decoded b ≡ Some cs → are_values k cs ≡ true) (fill_value : is_value k fill ≡ true) where
      from_part : (o : Option (List ℕ)) (own : Box) (held : ArrayData) → DecodesPartInto k decoded fill (box_at_origin parent) own o held → (cs : List Cell) × (cells_of_part m fill sub o ≡ Some cs)
      from_part None own held d = (replicate (position_count sub) fill, refl)
      from_part (Some b) own held d = (d.whole, decodes_as b ∙ d.decoded_is)

      pub all_into : (held : ArrayData) → ((j : ℕ) → j < subchunk_count s sub → Has j held)
          → DecodesInto k (box_at_origin parent) region (sharded_decoded m at_start k fill s sub encoded) held
      all_into held each =
          let parts_len = length-shard_parts at_start (subchunk_count s sub) encoded parts parts_are in
          let all = all_there fill sub m parts (λ j lt. from_part (slice_index_or parts j None) (own_box region sub j) held (each j (omega (arith, parts_len)))) in
          let is = whole_of k decoded fill s sub cut parts m at_start encoded fits decodes_as parts_are counted valued fill_value all.0 all.1 in
          record {
            whole = assembled s sub all.0;
            decoded_is = is;
            has = λ p holds.
                let q = quotients (seen p) sub in
                let inside = seen_in p holds in
                let d = position_divided s sub (seen p) cut inside in
                let j = place grid q in
                let lt : j < subchunk_count s sub = place_below grid q d.in_grid in
                cell_of_whole k decoded fill s sub m at_start encoded parts decodes_as parts_are (assembled s sub all.0) is (seen p) inside cut counted (Some (cell_at k held (place_in (box_at_origin parent) p)))
                (part_cell (slice_index_or parts j None) j (place sub (remainders (seen p) sub)) p held (own_of_position p holds) (own_place_of p holds) (each j lt));
          }
        where
          part_cell : (o : Option (List ℕ)) (j r : ℕ) (p : List ℕ) (held : ArrayData) → Holds (own_box region sub j) p → place_in (own_box region sub j) p ≡ r
              → DecodesPartInto k decoded fill (box_at_origin parent) (own_box region sub j) o held → IsCellOf decoded fill r o (Some (cell_at k held (place_in (box_at_origin parent) p)))
          part_cell None j r p held own at d = ap Some (d p own)
          part_cell (Some b) j r p held own at d = λ cs decodes. d.has p own ∙ ap (λ l. slice_get l (place_in (own_box region sub j) p)) (some_is (sym d.decoded_is ∙ decodes)) ∙ ap (slice_get cs) at

-- ---- the same, of what the code has

pub same_keeps : (size other_size : ℕ) (parent other_parent : List ℕ) (own other_own : Box) (old new : ArrayData) → other_size ≡ size → other_parent ≡ parent → other_own ≡ own
    → KeepsOutside other_size (box_at_origin other_parent) other_own old new → KeepsOutside size (box_at_origin parent) own old new
same_keeps size other_size parent other_parent own other_own old new sizes parents owns keeps =
    subst (λ b. KeepsOutside size (box_at_origin parent) b old new) owns
    (subst (λ x. KeepsOutside size (box_at_origin x) other_own old new) parents (subst (λ n. KeepsOutside n (box_at_origin other_parent) other_own old new) sizes keeps))

pub same_decodes : (k : Kind) (decoded : List ℕ → List ℕ → Option (List Cell)) (fill : Cell) (parent other_parent : List ℕ) (own other_own : Box) (part other_part : Option (List ℕ)) (held : ArrayData)
    → other_parent ≡ parent → other_own ≡ own → other_part ≡ part
    → DecodesPartInto k (decoded other_own.shape) fill (box_at_origin other_parent) other_own other_part held → DecodesPartInto k (decoded own.shape) fill (box_at_origin parent) own part held
same_decodes k decoded fill parent other_parent own other_own part other_part held parents owns parts_same is =
    subst (λ o. DecodesPartInto k (decoded own.shape) fill (box_at_origin parent) own o held) parts_same
    (subst (λ b. DecodesPartInto k (decoded b.shape) fill (box_at_origin parent) b other_part held) owns
    (subst (λ x. DecodesPartInto k (decoded other_own.shape) fill (box_at_origin x) other_own other_part held) parents is))

-- a box that was filled
pub filled_part : (k : Kind) (parent : List ℕ) (region : Box) (fill : Cell) (old new : ArrayData) → IsLong region → LiesInShape region parent → FillsBox k (box_at_origin parent) region fill old new
    → (p : List ℕ) → Holds region p → cell_at k new (place_in (box_at_origin parent) p) ≡ fill
filled_part k parent region fill old new long lies fills p holds =
    let inside = holds_inside region (box_at_origin parent) p long (origin_long parent) (lies_at_origin region parent lies) holds in
    fills p inside ∙ ap (λ b. cond b fill (cell_at k old (place_in (box_at_origin parent) p))) holds

-- the box that the code has of a subchunk
pub own_box_is : (region subset own : Box) (sub start : List ℕ) (n : ℕ) → subset ≡ subchunk_box region.shape sub n → start ≡ region.start → own ≡ shifted_box subset start → own ≡ own_box region sub n
own_box_is region subset own sub start n subset_is start_is is = is ∙ ap (λ b. shifted_box b start) subset_is ∙ ap (shifted_box (subchunk_box region.shape sub n)) start_is
