-- Writes to a box of data, level by level.
use Rattle.std.proofs.Common.{◌≡◌, ℕ, zero, suc, ◌+◌, ◌-◌, ◌*◌, ◌<◌, ◌≤◌, rules, Bool, true, false, cond, eqb, List, length, take, drop, Some, refl, sym, ap, ◌∙◌, subst, arith}
use Rattle.std.specs.Prelude.{◌==◌, slice_index}
use Rattle.std.proofs.Math.Nat.{mul-suc}
use Rattle.std.proofs.lemmas.Bool.{and_from, eq-eqb}
use Rattle.std.proofs.lemmas.List.{length-drop, length-take-le}
use Rattle.std.proofs.lemmas.List.{places, take_all}
use Rattle.std.proofs.lemmas.Slice.{between-put_mid, take-put_mid_below}
use borrow.Rule.Slice.PartMut.{put_mid}
use Rattle.zarrs_subset.specs.Boxes.{position_count}
use Rattle.zarrs_subset.specs.Pieces.{piece_at}
use Rattle.zarrs_subset.specs.Regions.{Box, in_box, place_in}
use Rattle.zarrs_data_type_kinds.specs.Kind.{Kind, fixed_size}
use Rattle.zarrs_data_type_kinds.specs.Kind as type
use Rattle.zarrs_data_type_kinds.specs.Cell.{Cell, none, some}
use Rattle.zarrs_data_type_bytes.specs.ArrayData.{ArrayData, fixed, variable, optional}
use Rattle.zarrs_data_type_bytes.specs.Cells.{fits, cell_at}
use Rattle.zarrs_data_type_bytes.specs.Parts.{TakesAt, TakesEach}
use Rattle.zarrs_data_type_bytes.proofs.Filled.{fits-fixed, fits-optional}
use Rattle.zarrs_data_type_bytes.proofs.Parts.{takes-fixed}
use Rattle.zarrs_data_type_region.specs.Targets.{HasLevels, KeepsAt, KeepsOutside, TakesLevels, masked}
use Rattle.zarrs_data_type_region.proofs.TypeSizes.{element_is}
use Rattle.zarrs_data_type_bytes.proofs.FixedSizes.{optional_is, some_is}

-- ---- what stays

taken_keeps : {X : Type 0} (box other : Box) (part old new : ℕ → X) → TakesAt box other part old new → KeepsAt box other old new
taken_keeps box other part old new takes position holds out =
    takes position holds ∙ ap (λ b. cond b (part (place_in other position)) (old (place_in box position))) out

pub levels_keep : (size : ℕ) (box other : Box) (part old new : ArrayData) → TakesLevels size box other part old new → KeepsOutside size box other old new
levels_keep size box other (fixed part) (fixed old) (fixed new) takes = taken_keeps box other (piece_at size part) (piece_at size old) (piece_at size new) takes
levels_keep size box other (fixed part) (fixed old) (variable new) takes = absurd takes
levels_keep size box other (fixed part) (fixed old) (optional new_mask new) takes = absurd takes
levels_keep size box other (fixed part) (variable old) new takes = absurd takes
levels_keep size box other (fixed part) (optional old_mask old) new takes = absurd takes
levels_keep size box other (variable part) old new takes = absurd takes
levels_keep size box other (optional mask part) (fixed old) new takes = absurd takes
levels_keep size box other (optional mask part) (variable old) new takes = absurd takes
levels_keep size box other (optional mask part) (optional old_mask old) (fixed new) takes = absurd takes
levels_keep size box other (optional mask part) (optional old_mask old) (variable new) takes = absurd takes
levels_keep size box other (optional mask part) (optional old_mask old) (optional new_mask new) takes =
    (taken_keeps box other (slice_index mask) (slice_index old_mask) (slice_index new_mask) takes.0, levels_keep size box other part old new takes.1)

-- where nothing is written
pub masked_keeps : (size : ℕ) (box other : Box) (depth count : ℕ) (masks bytes : List ℕ) → KeepsOutside size box other (masked depth count masks bytes) (masked depth count masks bytes)
masked_keeps size box other zero count masks bytes = λ position holds out. refl
masked_keeps size box other (suc depth) count masks bytes = ((λ position holds out. refl), masked_keeps size box other depth count (drop count masks) bytes)

-- ---- the levels of a parent

pub masked_levels : (depth size count : ℕ) (masks bytes : List ℕ) → length bytes ≡ count * size → length masks ≡ count * depth → HasLevels depth size count (masked depth count masks bytes)
masked_levels zero size count masks bytes has_bytes has_masks = has_bytes
masked_levels (suc depth) size count masks bytes has_bytes has_masks =
    let whole : length masks ≡ count * depth + count = has_masks ∙ mul-suc count depth in (
      length-take-le count masks (omega arith),
      masked_levels depth size count (drop count masks) bytes has_bytes (omega (arith, length-drop count masks)),
    )

-- data under a mask
pub level_parts : (depth size n : ℕ) (d inner : ArrayData) (mask : List ℕ) → d ≡ optional mask inner → HasLevels depth size n d
    → (0 < depth) × (length mask ≡ n) × HasLevels (depth - 1) size n inner
level_parts zero size n d inner mask is has = absurd (subst (HasLevels 0 size n) is has)
level_parts (suc depth) size n d inner mask is has =
    let parts = subst (HasLevels (suc depth) size n) is has in
    let below : depth ≡ suc depth - 1 = omega arith in
    (omega arith, parts.0, subst (λ v. HasLevels v size n inner) below parts.1)

-- a mask is at most all of the masks
pub mask_room : (depth count len : ℕ) → 0 < depth → len ≡ count * depth → (count ≤ len) × (len - count ≡ count * (depth - 1))
mask_room zero count len deep is = absurd (omega arith)
mask_room (suc depth) count len deep is =
    let whole : len ≡ count * depth + count = is ∙ mul-suc count depth in
    let below : suc depth - 1 ≡ depth = omega arith in
    let rest : count * (suc depth - 1) ≡ count * depth = ap (λ v. count * v) below in
    (omega arith, omega arith)

length-put_mid : (a k : ℕ) (xs ys : List ℕ) → a + k ≤ length xs → length ys ≡ k → length (put_mid a k xs ys) ≡ length xs
length-put_mid a k xs ys room len = search (rules, places)

-- the end of a list, written over
put_end : (a : ℕ) (xs ys : List ℕ) → a ≤ length xs → length ys ≡ length xs - a → drop a (put_mid a (length xs - a) xs ys) ≡ ys
put_end a xs ys room len =
    let whole = length-put_mid a (length xs - a) xs ys (omega arith) len in
    let rest = drop a (put_mid a (length xs - a) xs ys) in
    sym (take_all (length xs - a) rest (omega (arith, length-drop a (put_mid a (length xs - a) xs ys))))
    ∙ between-put_mid a (length xs - a) xs ys (length xs) room len

pub end_is : (a : ℕ) (xs : List ℕ) → take (length xs - a) (drop a xs) ≡ drop a xs
end_is a xs = take_all (length xs - a) (drop a xs) (omega (arith, length-drop a xs))

-- ---- what is written

pub fixed_written : (size : ℕ) (box other : Box) (depth count n : ℕ) (d : ArrayData) (part masks bytes new : List ℕ) → d ≡ fixed part → HasLevels depth size n d
    → TakesAt box other (piece_at size part) (piece_at size bytes) (piece_at size new) → TakesLevels size box other d (masked depth count masks bytes) (masked depth count masks new)
fixed_written size box other zero count n d part masks bytes new is has takes = subst (λ e. TakesLevels size box other e (fixed bytes) (fixed new)) (sym is) takes
fixed_written size box other (suc depth) count n d part masks bytes new is has takes = absurd (subst (HasLevels (suc depth) size n) is has)

-- the outermost mask was written, and then the levels under it
pub optional_written : (size : ℕ) (box other : Box) (depth count : ℕ) (d inner : ArrayData) (mask masks mid rest bytes new : List ℕ)
    → d ≡ optional mask inner → 0 < depth → count ≤ length mid → length rest ≡ length mid - count
    → TakesAt box other (slice_index mask) (slice_index (take count masks)) (slice_index (take count mid))
    → drop count mid ≡ drop count masks
    → TakesLevels size box other inner (masked (depth - 1) count (take (length mid - count) (drop count mid)) bytes) (masked (depth - 1) count rest new)
    → TakesLevels size box other d (masked depth count masks bytes) (masked depth count (put_mid count (length mid - count) mid rest) new)
optional_written size box other zero count d inner mask masks mid rest bytes new is deep room len flags others takes = absurd (omega arith)
optional_written size box other (suc depth) count d inner mask masks mid rest bytes new is deep room len flags others takes =
    let below : suc depth - 1 ≡ depth = omega arith in
    let made = put_mid count (length mid - count) mid rest in
    let old_rest : take (length mid - count) (drop count mid) ≡ drop count masks = end_is count mid ∙ others in
    let new_rest : rest ≡ drop count made = sym (put_end count mid rest room len) in
    let new_mask : take count mid ≡ take count made = sym (take-put_mid_below count (length mid - count) mid rest count (omega arith) room) in
    let under = subst (λ l. TakesLevels size box other inner (masked depth count l bytes) (masked depth count (drop count made) new)) old_rest
    (subst (λ l. TakesLevels size box other inner (masked depth count (take (length mid - count) (drop count mid)) bytes) (masked depth count l new)) new_rest
    (subst (λ v. TakesLevels size box other inner (masked v count (take (length mid - count) (drop count mid)) bytes) (masked v count rest new)) below takes)) in
    subst (λ e. TakesLevels size box other e (masked (suc depth) count masks bytes) (masked (suc depth) count made new)) (sym is)
    (subst (λ l. TakesAt box other (slice_index mask) (slice_index (take count masks)) (slice_index l)) new_mask flags, under)

-- ---- cells

level_cell : (b : Bool) (x y z : ℕ) (c d e : Cell) → x ≡ cond b y z → c ≡ cond b d e → cond (x == 0) none (some c) ≡ cond b (cond (y == 0) none (some d)) (cond (z == 0) none (some e))
level_cell true x y z c d e flag cell = ap (λ v. cond (v == 0) none (some c)) flag ∙ ap (λ v. cond (y == 0) none (some v)) cell
level_cell false x y z c d e flag cell = ap (λ v. cond (v == 0) none (some c)) flag ∙ ap (λ v. cond (z == 0) none (some v)) cell

-- one more level
optional_level : (u : Kind) (box other : Box) (mask old_mask new_mask : List ℕ) (part old new : ArrayData) → length new_mask ≡ position_count box.shape
    → TakesAt box other (slice_index mask) (slice_index old_mask) (slice_index new_mask) → TakesEach u box other part old new
    → TakesEach (type.optional u) box other (optional mask part) (optional old_mask old) (optional new_mask new)
optional_level u box other mask old_mask new_mask part old new len flags inner = record {
  has_kind = and_from (eqb (length new_mask) (position_count box.shape)) (fits u new (position_count box.shape)) (eq-eqb (length new_mask) (position_count box.shape) len) inner.has_kind;
  each_cell = λ position holds.
      let i = place_in box position in
      let j = place_in other position in
      level_cell (in_box other position) (slice_index new_mask i) (slice_index mask j) (slice_index old_mask i)
      (cell_at u new i) (cell_at u part j) (cell_at u old i) (flags position holds) (inner.each_cell position holds);
}

-- what is written, as cells
pub levels_cells : (k : Kind) (size depth n : ℕ) (box other : Box) (part old new : ArrayData) → fixed_size k ≡ Some size → fits k part n ≡ true
    → HasLevels depth size (position_count box.shape) new → TakesLevels size box other part old new → TakesEach k box other part old new
levels_cells k size zero n box other (fixed part) (fixed old) (fixed new) is fit len takes =
    let f = fits-fixed k part n fit in
    let same : f.0 ≡ size = some_is (sym (element_is k f.0 f.1).0 ∙ is) in
    takes-fixed k size box other part old new (f.1 ∙ ap Some same) len takes
levels_cells k size (suc depth) n box other (fixed part) (fixed old) (fixed new) is fit len takes = absurd len
levels_cells k size depth n box other (fixed part) (fixed old) (variable new) is fit len takes = absurd takes
levels_cells k size depth n box other (fixed part) (fixed old) (optional new_mask new) is fit len takes = absurd takes
levels_cells k size depth n box other (fixed part) (variable old) new is fit len takes = absurd takes
levels_cells k size depth n box other (fixed part) (optional old_mask old) new is fit len takes = absurd takes
levels_cells k size depth n box other (variable part) old new is fit len takes = absurd takes
levels_cells k size depth n box other (optional mask part) (fixed old) new is fit len takes = absurd takes
levels_cells k size depth n box other (optional mask part) (variable old) new is fit len takes = absurd takes
levels_cells k size depth n box other (optional mask part) (optional old_mask old) (fixed new) is fit len takes = absurd takes
levels_cells k size depth n box other (optional mask part) (optional old_mask old) (variable new) is fit len takes = absurd takes
levels_cells k size zero n box other (optional mask part) (optional old_mask old) (optional new_mask new) is fit len takes = absurd len
levels_cells k size (suc depth) n box other (optional mask part) (optional old_mask old) (optional new_mask new) is fit len takes =
    let f = fits-optional k mask part n fit in
    let e = optional_is k f.0 f.1 in
    subst (λ v. TakesEach v box other (optional mask part) (optional old_mask old) (optional new_mask new)) (sym e)
    (optional_level f.0 box other mask old_mask new_mask part old new len.0 takes.0
    (levels_cells f.0 size depth n box other part old new (ap fixed_size (sym e) ∙ is) f.3 len.1 takes.1))
