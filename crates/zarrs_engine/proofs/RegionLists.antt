-- Lists of a region's cells as targets, and the cells under masks whose bytes are 0 and 1.
use Rattle.std.proofs.Common.{◌≡◌, ℕ, zero, suc, ◌+◌, ◌-◌, ◌*◌, ◌<◌, ◌≤◌, ◌^◌, true, cond, List, [], length, take, drop, replicate, slice_get, Option, None, Some, refl, sym, ap, ◌∙◌, subst, arith}
use Rattle.std.specs.Prelude.{◌==◌, min, slice_index}
use Rattle.std.proofs.Math.Nat.{mul-suc}
use Rattle.std.proofs.lemmas.List.{get_or-drop, get_or-replicate, get_or-take, length-drop, length-replicate}
use Rattle.std.proofs.lemmas.Option.{slice_get-get_or}
use Rattle.zarrs_subset.specs.Boxes.{position_count}
use Rattle.zarrs_subset.specs.Regions.{Box, IsLong, LiesInShape, box_at_origin, place_in}
use Rattle.zarrs_subset.proofs.Bytes.{place_in_below}
use Rattle.zarrs_storage.specs.Store.{StoreState}
use Rattle.zarrs_data_type.specs.Kind.{Kind, inner_of}
use Rattle.zarrs_data_type.specs.Cell.{Cell, none, some}
use Rattle.zarrs_data_type.specs.ArrayData.{ArrayData, fixed, optional}
use Rattle.zarrs_data_type.specs.Cells.{cell_at, cells, fits}
use Rattle.zarrs_data_type_bytes.proofs.Cells.{IsSized, cells-parts}
use Rattle.zarrs_data_type.specs.Targets.{HasLevels, IsTargetOver, masked, takes_type}
use Rattle.zarrs_data_type_region.proofs.TargetBoxes.{origin_long}
use Rattle.zarrs_data_type_region.proofs.TargetLevels.{masked_levels}
use Rattle.zarrs_data_type_region.proofs.TypeSizes.{levels_of}
use Rattle.zarrs_codec_chain.proofs.MovedBoxes.{origin_moved}
use Rattle.zarrs_engine_calls.specs.Layout.{Layout}
use Rattle.zarrs_engine_calls.specs.Reads.{ReadsRegion}
use Rattle.zarrs_engine_layout.specs.Covers.{CoverRegion}
use Rattle.zarrs_engine.specs.TargetReads.{HasFillElsewhere, HasReadInto}
use Rattle.zarrs_engine.proofs.Into.{cell_found}
use Rattle.zarrs_engine.proofs.IntoReads.{region_read}

-- ---- a target whose box is all of its parent

whole_inside : (shape : List ℕ) → LiesInShape (box_at_origin shape) shape
whole_inside shape = record {
  same_length = origin_long shape;
  ends = λ k lt. let none : ℕ = 0 in omega (arith, get_or-replicate (length shape) k none none lt);
}

pub list_target : (bytes_len size masks_len depth : ℕ) (shape parent : List ℕ) (own : Box) → parent ≡ shape → own ≡ box_at_origin shape → position_count shape < 2 ^ 64 → bytes_len < 2 ^ 64
    → bytes_len ≡ position_count shape * size → masks_len ≡ position_count shape * depth → IsTargetOver bytes_len size masks_len depth parent own
list_target bytes_len size masks_len depth shape parent own same whole counted small bytes masks =
    subst (λ (p : List ℕ). IsTargetOver bytes_len size masks_len depth p own) (sym same)
    (subst (λ (b : Box). IsTargetOver bytes_len size masks_len depth shape b) (sym whole) (record {
      counted = counted;
      small = small;
      has_bytes = bytes;
      has_masks = masks;
      inside = whole_inside shape;
    }))

-- ---- masks whose bytes are 0 and 1

-- the same masks, with 1 for each byte above 1
abbrev pub AreFlags : List ℕ → List ℕ → Type 0
AreFlags masks flags = (length flags ≡ length masks) × ((i : ℕ) → i < length masks → slice_index flags i ≡ min (slice_index masks i) 1)

-- a flag is 0 exactly if the byte was
same_zero : (m : ℕ) → (min m 1 == 0) ≡ (m == 0)
same_zero zero = refl
same_zero (suc m) = grind (arith)

-- what lies under the outermost mask
under : (o : Option Kind) (m n i : ℕ) (a b : ArrayData) → (m == 0) ≡ (n == 0) → ((u : Kind) → cell_at u a i ≡ cell_at u b i)
    → cond (m == 0) none (elim o [ None ↦ none | Some u ↦ some (cell_at u a i) ]) ≡ cond (n == 0) none (elim o [ None ↦ none | Some u ↦ some (cell_at u b i) ])
under None m n i a b same inner = ap (λ v. cond v none none) same
under (Some u) m n i a b same inner = ap (λ v. cond v none (some (cell_at u a i))) same ∙ ap (λ c. cond (n == 0) none (some c)) (inner u)

-- the masks behind the outermost one
rest_flags : (count : ℕ) (masks flags : List ℕ) → count ≤ length masks → AreFlags masks flags → AreFlags (drop count masks) (drop count flags)
rest_flags count masks flags room are = (
  length-drop count flags ∙ ap (λ n. n - count) are.0 ∙ sym (length-drop count masks),
  (λ i lt.
      get_or-drop count flags i 0 ∙ are.1 (count + i) (omega (arith, length-drop count masks, room))
      ∙ ap (λ m. min m 1) (sym (get_or-drop count masks i 0))),
)

-- the cells are the same
pub flag_cells : (k : Kind) (depth count : ℕ) (masks flags bytes : List ℕ) → length masks ≡ count * depth → AreFlags masks flags → (i : ℕ) → i < count
    → cell_at k (masked depth count flags bytes) i ≡ cell_at k (masked depth count masks bytes) i
flag_cells k zero count masks flags bytes len are i lt = refl
flag_cells k (suc depth) count masks flags bytes len are i lt =
    let whole : length masks ≡ count * depth + count = len ∙ mul-suc count depth in
    let zero_is : (slice_index (take count flags) i == 0) ≡ (slice_index (take count masks) i == 0) =
    ap (λ m. m == 0) (get_or-take count flags i 0 lt ∙ are.1 i (omega arith))
    ∙ same_zero (slice_index masks i)
    ∙ ap (λ m. m == 0) (sym (get_or-take count masks i 0 lt)) in
    under (inner_of k) (slice_index (take count flags) i) (slice_index (take count masks) i) i
    (masked depth count (drop count flags) bytes) (masked depth count (drop count masks) bytes) zero_is
    (λ u. flag_cells u depth count (drop count masks) (drop count flags) bytes (length-drop count masks ∙ omega arith) (rest_flags count masks flags (omega arith) are) i lt)

-- ---- lists that begin as fill

-- cells without a mask are bytes
pub plain_len : (d : ArrayData) (b : List ℕ) (k : Kind) (size depth n : ℕ) (cs : List Cell) → d ≡ fixed b → depth ≡ 0 → takes_type size depth k ≡ true → cells k d ≡ Some cs → length cs ≡ n → length b ≡ n * size
plain_len d b k size depth n cs is plain takes are count =
    let fit = subst (λ m. fits k d m ≡ true) count (cells-parts k d cs are).0 in
    let levels = levels_of k size depth n d takes fit in
    subst (λ (x : ArrayData). HasLevels 0 size n x) is (subst (λ m. HasLevels m size n d) plain levels)

-- each position of a region has the fill value in a list of so many of them
pub list_filled : (layout : Layout) (region : Box) (parent : List ℕ) (own : Box) (depth : ℕ) (masks bytes : List ℕ) → IsLong region → depth ≡ 0 → parent ≡ region.shape → own ≡ box_at_origin region.shape
    → cells layout.kind (fixed bytes) ≡ Some (replicate (position_count region.shape) layout.fill) → HasFillElsewhere layout region [] (box_at_origin parent) own (masked depth (position_count parent) masks bytes)
list_filled layout region parent own depth masks bytes long plain parent_is own_is are =
    subst (λ d. HasFillElsewhere layout region [] (box_at_origin parent) own (masked d (position_count parent) masks bytes)) (sym plain)
    (subst (λ (b : Box). HasFillElsewhere layout region [] (box_at_origin parent) b (fixed bytes)) (sym own_is)
    (subst (λ (p : List ℕ). HasFillElsewhere layout region [] (box_at_origin p) (box_at_origin region.shape) (fixed bytes)) (sym parent_is)
    (λ position holds none.
    let i = place_in region position in
    let n = position_count region.shape in
    let lt : i < n = place_in_below region position long holds in
    let len = length-replicate {A = Cell} n layout.fill in
    let at : slice_get (replicate n layout.fill) i ≡ Some layout.fill =
    slice_get-get_or (replicate n layout.fill) i layout.fill (omega (arith, len)) ∙ ap Some (get_or-replicate {A = Cell} n i layout.fill layout.fill lt) in
    ap (cell_at layout.kind (fixed bytes)) (origin_moved region position long holds) ∙ cell_found layout.kind (fixed bytes) (replicate n layout.fill) i layout.fill are at)))

-- ---- the data of the lists

-- bytes under one mask and others
pub masked_more : (depth count : ℕ) (masks bytes : List ℕ) → 0 < depth → masked depth count masks bytes ≡ optional (take count masks) (masked (depth - 1) count (drop count masks) bytes)
masked_more zero count masks bytes deep = absurd (omega arith)
masked_more (suc depth) count masks bytes deep =
    let below : depth ≡ suc depth - 1 = omega arith in
    ap (λ n. optional (take count masks) (masked n count (drop count masks) bytes)) below

pub lists_read : (layout : Layout) (region : Box) (chunks : List (List ℕ)) (state : StoreState) (size depth : ℕ) (masks flags bytes : List ℕ) → CoverRegion layout.grid region chunks
    → takes_type size depth layout.kind ≡ true → IsSized layout.kind → length bytes ≡ position_count region.shape * size → length masks ≡ position_count region.shape * depth → AreFlags masks flags
    → HasReadInto layout region chunks state (box_at_origin region.shape) (box_at_origin region.shape) (masked depth (position_count region.shape) masks bytes)
    → ReadsRegion layout region chunks (masked depth (position_count region.shape) flags bytes) state
lists_read layout region chunks state size depth masks flags bytes cover takes sized bytes_len masks_len are read =
    let n = position_count region.shape in
    region_read layout region chunks state size depth (masked depth n masks bytes) (masked depth n flags bytes) cover takes sized read
    (masked_levels depth size n flags bytes bytes_len (are.0 ∙ masks_len))
    (λ i lt. flag_cells layout.kind depth n masks flags bytes masks_len are i lt)
