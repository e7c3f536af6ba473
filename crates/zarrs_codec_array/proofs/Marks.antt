-- The lists that orders are tested, undone and stepped by.
use Rattle.std.proofs.Common.{◌≡◌, ℕ, zero, suc, ◌+◌, ◌*◌, ◌<◌, ◌≤◌, Bool, true, false, eqb, List, ◌∷◌, length, map}
use Rattle.std.proofs.Common.{take, drop, get_or, slice_set, sym, ap, ◌∙◌, arith, ◌⊎◌, inl, inr}
use Rattle.std.specs.Prelude.{slice_index}
use Rattle.std.specs.List.{range_with_len, list_all, list_any}
use Rattle.std.proofs.Math.Nat.{mul-le-mul_left, mul_comm, mul_assoc}
use Rattle.std.proofs.lemmas.Bool.{cases_eq}
use Rattle.std.proofs.lemmas.List.{ext_get_or, drop_more, drop-set, length-set, get_or-set_same, get_or-set_other}
use Rattle.std.proofs.lemmas.List.Folds.{list_all-map}
use Rattle.std.proofs.lemmas.List.FromFn.{length-map-range_with_len, get_or-map-range_with_len}
use Rattle.zarrs_subset.specs.Boxes.{position_count}
use Rattle.zarrs_subset.proofs.Joined.{count_split}
use Rattle.zarrs_subset.proofs.Counts.{count_drop}
use Rattle.zarrs_codec_array.specs.Orders.{is_order, index_of, inverse, strides, scaled}
use Rattle.zarrs_codec_array.specs.OrderLaws.{at_index, index_at, entry_below}

pub marked-all : (order : List ℕ) (found : List Bool) → length found ≡ length order → ((j : ℕ) → j < length order → get_or found j false ≡ list_any (λ k. eqb k j) order) → list_all (λ b. b) found ≡ is_order order
marked-all order found len each =
    let F : ℕ → Bool = λ j. list_any (λ k. eqb k j) order in
    let d = length order in
    let n = length-map-range_with_len F 0 d in
    let is : found ≡ map F (range_with_len 0 d) =
    ext_get_or false found (map F (range_with_len 0 d)) (omega arith)
    (λ j lt. each j (omega arith) ∙ sym (get_or-map-range_with_len F 0 d j j false (omega arith) (omega arith))) in
    ap (list_all (λ b. b)) is ∙ list_all-map (λ b. b) F (range_with_len 0 d)

pub undone-all : (order made : List ℕ) → is_order order ≡ true → length made ≡ length order → ((i : ℕ) → i < length order → slice_index made (slice_index order i) ≡ i) → made ≡ inverse order
undone-all order made is len each =
    let d = length order in
    let F : ℕ → ℕ = λ j. index_of j order in
    let n = length-map-range_with_len F 0 d in
    ext_get_or 0 made (inverse order) (omega arith)
    (λ j lt.
    let f = at_index order is j (omega arith) in
    ap (slice_index made) (sym f.1) ∙ each (index_of j order) f.0 ∙ sym (get_or-map-range_with_len F 0 d j j 0 (omega arith) (omega arith)))

-- the numbers of an order are apart
pub order_apart : (order : List ℕ) (i k : ℕ) → is_order order ≡ true → i < length order → k < length order → slice_index order i ≡ slice_index order k → i ≡ k
order_apart order i k is lt lt' same = sym (index_at order is i lt) ∙ ap (λ j. index_of j order) same ∙ index_at order is k lt'

some_first : (a b : ℕ) → 0 < a * b → 1 ≤ a
some_first zero b lt = absurd (omega arith)
some_first (suc a) b lt = omega arith

-- a trailing part of an array has no more cells
pub count_part : (shape : List ℕ) (k : ℕ) → 0 < position_count shape → position_count (drop k shape) ≤ position_count shape
count_part shape k some =
    let split = count_split shape k in
    let first = some_first (position_count (take k shape)) (position_count (drop k shape)) (omega arith) in
    omega (arith, mul-le-mul_left (position_count (drop k shape)) first, mul_comm (position_count (take k shape)) (position_count (drop k shape)))

pub size_part : (shape : List ℕ) (k size : ℕ) → 0 < position_count shape → position_count (drop k shape) * size ≤ position_count shape * size
size_part shape k size some =
    omega (arith, mul-le-mul_left size (count_part shape k some), mul_comm size (position_count (drop k shape)), mul_comm size (position_count shape))

-- one dimension more, in front
pub stride_more : (shape : List ℕ) (k size : ℕ) → k < length shape → position_count (drop (k + 1) shape) * size * slice_index shape k ≡ position_count (drop k shape) * size
stride_more shape k size lt =
    omega (arith, ap (λ n. n * size) (count_drop shape k lt), mul_assoc (slice_index shape k) (position_count (drop (k + 1) shape)) size, mul_comm (slice_index shape k) (position_count (drop (k + 1) shape) * size))

pub strides_more : (shape made : List ℕ) (k size stride : ℕ) → k < length shape → length made ≡ length shape → stride ≡ position_count (drop (k + 1) shape) * size
    → drop (k + 1) made ≡ scaled size (strides (drop (k + 1) shape)) → drop k (slice_set made k stride) ≡ scaled size (strides (drop k shape))
strides_more shape made k size stride lt len is behind =
    drop-set made k stride (omega arith)
    ∙ ap (λ l. stride ∷ l) behind
    ∙ ap (λ n. n ∷ scaled size (strides (drop (k + 1) shape))) is
    ∙ sym (ap (λ l. scaled size (strides l)) (drop_more shape k 0 lt))

-- one entry more of the order that undoes another
pub reset : (order made : List ℕ) (k : ℕ) → is_order order ≡ true → k < length order → length made ≡ length order → ((i : ℕ) → i < k → slice_index made (slice_index order i) ≡ i)
    → (length (slice_set made (slice_index order k) k) ≡ length order) × ((i : ℕ) → i < k + 1 → slice_index (slice_set made (slice_index order k) k) (slice_index order i) ≡ i)
reset order made k is lt len each =
    let at = slice_index order k in
    (length-set made at k ∙ len, λ i below. at_one i below (cases_eq i k))
  where
    at_one : (i : ℕ) → i < k + 1 → (i ≡ k) ⊎ (i ≡ k → ⊥) → slice_index (slice_set made (slice_index order k) k) (slice_index order i) ≡ i
    at_one i below (inl same) =
        ap (λ j. slice_index (slice_set made (slice_index order k) k) (slice_index order j)) same
        ∙ get_or-set_same made (slice_index order k) k 0 (omega (arith, entry_below order is k lt)) ∙ sym same
    at_one i below (inr differ) =
        let less : i < k = smaller i k below differ in
        get_or-set_other made (slice_index order k) (slice_index order i) k 0 (λ e. differ (order_apart order i k is (omega arith) lt e)) ∙ each i less
      where
        smaller : (i k : ℕ) → i < k + 1 → (i ≡ k → ⊥) → i < k
        smaller i k below differ = omega arith
