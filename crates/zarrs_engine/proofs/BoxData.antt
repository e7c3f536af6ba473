-- The data of a box, of data over a larger one.
use Rattle.std.proofs.Common.{◌≡◌, ℕ, zero, suc, ◌+◌, ◌*◌, ◌<◌, true, cond, eqb, List, [], length, map, get_or, Option, None, Some, inl, inr, refl, sym, ap, ◌∙◌, arith}
use Rattle.std.specs.Prelude.{slice_index, slice_range}
use Rattle.std.specs.List.{flat_map, range_with_len}
use Rattle.std.proofs.lemmas.Bool.{and_from, cases_Bool, eq-eqb}
use Rattle.std.proofs.lemmas.List.FromFn.{get_or-map-range_with_len, get_or-range_with_len, length-map-range_with_len, length-range_with_len}
use Rattle.zarrs_subset.specs.Boxes.{position_count, offset_by, unravel}
use Rattle.zarrs_subset.specs.Pieces.{piece_at, pieces}
use Rattle.zarrs_subset.specs.Regions.{Box, IsLong, in_box, place_in, LiesInBox}
use Rattle.zarrs_subset.proofs.Bytes.{place_in_below}
use Rattle.zarrs_subset.proofs.Positions.{in_box-offset_by, unravel_in}
use Rattle.zarrs_subset.proofs.Inside.{holds_inside}
use Rattle.zarrs_data_type.specs.Kind.{Kind, element_size, fixed_size, inner_of}
use Rattle.zarrs_data_type.specs.Kind as type
use Rattle.zarrs_data_type.specs.Cell.{Cell, bytes, none, some}
use Rattle.zarrs_data_type.specs.ArrayData.{ArrayData, fixed, variable, optional}
use Rattle.zarrs_data_type.specs.Cells.{cell_at, fits}
use Rattle.zarrs_data_type.specs.Parts.{TakesEach}
use Rattle.zarrs_data_type_bytes.proofs.Cells.{fitting-fixed}
use Rattle.zarrs_data_type_bytes.proofs.Pieces.{length-fixed_cell, length-flat_map_same, pieces-flat_map}
use Rattle.zarrs_data_type.specs.Targets.{HasLevels, KeepsOutside, depth_of}
use Rattle.zarrs_data_type_region.proofs.TypeSizes.{element_is}
use Rattle.zarrs_codec_chain.proofs.Stays.{cell_stays}
use Rattle.zarrs_codec_chain.proofs.MovedBoxes.{own_unravel}
use Rattle.zarrs_data_type_bytes.proofs.FixedSizes.{optional_is, some_is}

-- ---- data of so many levels fits the type

plain_fit : (k : Kind) (size depth n : ℕ) (d : ArrayData) → element_size k ≡ Some size → 0 ≡ depth → HasLevels depth size n d → fits k d n ≡ true
plain_fit k size zero n (fixed b) is plain has = fitting-fixed k size b n is has
plain_fit k size zero n (variable strings) is plain has = absurd has
plain_fit k size zero n (optional mask inner) is plain has = absurd has
plain_fit k size (suc depth) n d is plain has = absurd (omega arith)

pub levels_fit : (k : Kind) (size depth n : ℕ) (d : ArrayData) → fixed_size k ≡ Some size → depth_of k ≡ depth → HasLevels depth size n d → fits k d n ≡ true
levels_fit (type.optional u) size zero n d is deep has = absurd (omega arith)
levels_fit (type.optional u) size (suc depth) n (fixed b) is deep has = absurd has
levels_fit (type.optional u) size (suc depth) n (variable strings) is deep has = absurd has
levels_fit (type.optional u) size (suc depth) n (optional mask inner) is deep has =
    and_from (eqb (length mask) n) (fits u inner n) (eq-eqb (length mask) n has.0) (levels_fit u size depth n inner is (omega arith) has.1)
levels_fit type.bool size depth n d is deep has = plain_fit type.bool size depth n d is deep has
levels_fit type.int8 size depth n d is deep has = plain_fit type.int8 size depth n d is deep has
levels_fit type.int16 size depth n d is deep has = plain_fit type.int16 size depth n d is deep has
levels_fit type.int32 size depth n d is deep has = plain_fit type.int32 size depth n d is deep has
levels_fit type.int64 size depth n d is deep has = plain_fit type.int64 size depth n d is deep has
levels_fit type.uint8 size depth n d is deep has = plain_fit type.uint8 size depth n d is deep has
levels_fit type.uint16 size depth n d is deep has = plain_fit type.uint16 size depth n d is deep has
levels_fit type.uint32 size depth n d is deep has = plain_fit type.uint32 size depth n d is deep has
levels_fit type.uint64 size depth n d is deep has = plain_fit type.uint64 size depth n d is deep has
levels_fit (type.raw len) size depth n d is deep has = plain_fit (type.raw len) size depth n d is deep has
levels_fit type.string size depth n d is deep has = cc
levels_fit type.bytes size depth n d is deep has = cc

-- ---- the data of a box

-- where the position of this number of `own` lies in `box`
abbrev pub place_at : (box own : Box) → ℕ → ℕ
place_at box own i = place_in box (offset_by own.start (unravel own.shape i))

-- the data of `own`, of data over `box` with cells of this size
abbrev pub box_data : ℕ → (box own : Box) → ArrayData → ArrayData
box_data size box own (fixed b) = fixed (flat_map (λ i. piece_at size b (place_at box own i)) (range_with_len 0 (position_count own.shape)))
box_data size box own (variable strings) = variable strings
box_data size box own (optional mask inner) =
    optional (map (λ i. slice_index mask (place_at box own i)) (range_with_len 0 (position_count own.shape))) (box_data size box own inner)

-- parts of one size, put together
module _ (f : ℕ → List ℕ) (size n : ℕ) (sized : (i : ℕ) → i < n → length (f i) ≡ size) where
  each_sized : (i d : ℕ) → i < length (range_with_len 0 n) → length (f (get_or (range_with_len 0 n) i d)) ≡ size
  each_sized i d lt =
      let below : i < n = omega (arith, length-range_with_len 0 n) in
      ap (λ j. length (f j)) (get_or-range_with_len 0 n i d below ∙ omega arith) ∙ sized i below

  joined_len : length (flat_map f (range_with_len 0 n)) ≡ n * size
  joined_len = length-flat_map_same f size (range_with_len 0 n) each_sized ∙ ap (λ m. m * size) (length-range_with_len 0 n)

  joined_piece : (i : ℕ) → i < n → piece_at size (flat_map f (range_with_len 0 n)) i ≡ f i
  joined_piece i lt =
      let all = flat_map f (range_with_len 0 n) in
      let pieces_are : pieces size n all ≡ map f (range_with_len 0 n) =
      ap (λ m. pieces size m all) (sym (length-range_with_len 0 n)) ∙ pieces-flat_map f size (range_with_len 0 n) each_sized in
      sym (get_or-map-range_with_len (piece_at size all) 0 n i i [] lt (omega arith)) ∙ ap (λ l. get_or l i []) pieces_are ∙ get_or-map-range_with_len f 0 n i i [] lt (omega arith)

-- a cell of so many bytes, and one under a mask
abbrev sized_cell : Option ℕ → List ℕ → ℕ → Cell
sized_cell o b i = elim o [ None ↦ none | Some e ↦ bytes (slice_range b (i * e) (i * e + e)) ]

abbrev masked_cell : Option Kind → ℕ → ArrayData → ℕ → Cell
masked_cell o m d i = cond (eqb m 0) none (elim o [ None ↦ none | Some u ↦ some (cell_at u d i) ])

sized_same : (o : Option ℕ) (size : ℕ) (b c : List ℕ) (i j : ℕ) → ((e : ℕ) → o ≡ Some e → e ≡ size) → piece_at size b i ≡ piece_at size c j → sized_cell o b i ≡ sized_cell o c j
sized_same None size b c i j is same = refl
sized_same (Some e) size b c i j is same =
    let width = is e refl in
    ap (λ z. bytes (piece_at z b i)) width ∙ ap bytes same ∙ ap (λ z. bytes (piece_at z c j)) (sym width)

masked_same : (o : Option Kind) (m : ℕ) (d e : ArrayData) (i j : ℕ) → ((u : Kind) → o ≡ Some u → cell_at u d i ≡ cell_at u e j) → masked_cell o m d i ≡ masked_cell o m e j
masked_same None m d e i j same = refl
masked_same (Some u) m d e i j same = ap (λ c. cond (eqb m 0) none (some c)) (same u refl)

module _ (size : ℕ) (box own : Box) (long : IsLong box) (own_long : IsLong own) (lies : LiesInBox own box) where
  abbrev n : ℕ
  n = position_count own.shape

  place_below : (i : ℕ) → i < n → place_at box own i < position_count box.shape
  place_below i lt =
      let holds = in_box-offset_by own.start own.shape (unravel own.shape i) own_long (unravel_in own.shape i lt) in
      place_in_below box (offset_by own.start (unravel own.shape i)) long (holds_inside own box (offset_by own.start (unravel own.shape i)) own_long long lies holds)

  pub box_levels : (depth : ℕ) (d : ArrayData) → HasLevels depth size (position_count box.shape) d → HasLevels depth size n (box_data size box own d)
  box_levels zero (fixed b) has = joined_len (λ i. piece_at size b (place_at box own i)) size n (λ i lt. length-fixed_cell b size (position_count box.shape) (place_at box own i) has (place_below i lt))
  box_levels zero (variable strings) has = absurd has
  box_levels zero (optional mask inner) has = absurd has
  box_levels (suc depth) (fixed b) has = absurd has
  box_levels (suc depth) (variable strings) has = absurd has
  box_levels (suc depth) (optional mask inner) has = (length-map-range_with_len (λ i. slice_index mask (place_at box own i)) 0 n, box_levels depth inner has.1)

  -- each cell of the box is that of the larger one
  pub box_cell : (k : Kind) (depth : ℕ) (d : ArrayData) → fixed_size k ≡ Some size → HasLevels depth size (position_count box.shape) d → (i : ℕ) → i < n
      → cell_at k (box_data size box own d) i ≡ cell_at k d (place_at box own i)
  box_cell k zero (fixed b) is has i lt =
      sized_same (element_size k) size (flat_map (λ i. piece_at size b (place_at box own i)) (range_with_len 0 n)) b i (place_at box own i) (λ e found. some_is (sym (element_is k e found).0 ∙ is))
      (joined_piece (λ i. piece_at size b (place_at box own i)) size n (λ i lt. length-fixed_cell b size (position_count box.shape) (place_at box own i) has (place_below i lt)) i lt)
  box_cell k zero (variable strings) is has i lt = absurd has
  box_cell k zero (optional mask inner) is has i lt = absurd has
  box_cell k (suc depth) (fixed b) is has i lt = absurd has
  box_cell k (suc depth) (variable strings) is has i lt = absurd has
  box_cell k (suc depth) (optional mask inner) is has i lt =
      let flag : slice_index (map (λ i. slice_index mask (place_at box own i)) (range_with_len 0 n)) i ≡ slice_index mask (place_at box own i) =
      get_or-map-range_with_len (λ i. slice_index mask (place_at box own i)) 0 n i i 0 lt (omega arith) in
      ap (λ m. masked_cell (inner_of k) m (box_data size box own inner) i) flag
      ∙ masked_same (inner_of k) (slice_index mask (place_at box own i)) (box_data size box own inner) inner i (place_at box own i)
      (λ u found. box_cell u depth inner (ap fixed_size (sym (optional_is k u found)) ∙ is) has.1 i lt)

  -- what changed outside of the box alone, took the data of the box
  pub box_taken : (k : Kind) (depth : ℕ) (old new : ArrayData) → fixed_size k ≡ Some size → depth_of k ≡ depth → HasLevels depth size (position_count box.shape) new → KeepsOutside size box own old new
      → TakesEach k box own (box_data size box own new) old new
  box_taken k depth old new is deep has keeps = record {
    has_kind = levels_fit k size depth (position_count box.shape) new is deep has;
    each_cell = λ position holds. elim (cases_Bool (in_box own position)) [
      | inl here ↦
          ap (λ p. cell_at k new (place_in box p)) (sym (own_unravel own position own_long here))
          ∙ sym (box_cell k depth new is has (place_in own position) (place_in_below own position own_long here))
          ∙ sym (ap (λ b. cond b (cell_at k (box_data size box own new) (place_in own position)) (cell_at k old (place_in box position))) here)
      | inr out ↦
          cell_stays k size box own old new is keeps position holds out
          ∙ sym (ap (λ b. cond b (cell_at k (box_data size box own new) (place_in own position)) (cell_at k old (place_in box position))) out)
    ];
  }
