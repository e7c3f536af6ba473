-- Columns of a table that are gathered one block after another.
use Rattle.std.proofs.Common.{◌≡◌, ℕ, suc, ◌+◌, ◌-◌, ◌*◌, ◌<◌, ◌≤◌, List, [], ◌∷◌, length, get_or, slice_index}
use Rattle.std.proofs.Common.{sym, ap, ◌∙◌, subst, arith, inl, inr, ◌⊎◌}
use Rattle.std.proofs.Math.Nat.{mul-le-mul_right, suc-mul, add-mul, mul_assoc}
use borrow.Rule.Slice.PartMut.{put_mid}
use Rattle.zarrs_subset.specs.Boxes.{position_count, InShape, place}
use Rattle.zarrs_subset.proofs.Kernel.{get_or-put_mid_inside, get_or-put_mid_below, get_or-put_mid_above, in_block, below_block}
use Rattle.zarrs_codec_array.specs.Orders.{dot_product}
use Rattle.zarrs_codec_array.specs.Gathered.{IsGathered, AreWithin, AreColumns}
use Rattle.std.proofs.lemmas.Bool.{cases_order}

-- the columns before `done` are gathered, and of the first `row` rows those before `next` too
pub record AreStairs (size rows columns row_step column_step start done row next : ℕ) (from to : List ℕ) : Type 0 where
  pub before : AreColumns size rows columns row_step column_step start done from to
  pub above : AreColumns size row columns row_step column_step start next from to

-- byte k of the cell in column j of row i, from the start of the row on
at_row : (i columns j size k : ℕ) → (i * columns + j) * size + k ≡ i * (columns * size) + (j * size + k)
at_row i columns j size k = in_block i columns j size k

-- a row of the table ends where the next one begins at most
rows_order : (i row b : ℕ) → i < row → i * b + b ≤ row * b
rows_order i row b lt = omega (arith, suc-mul i b, mul-le-mul_right {m = suc i} {n = row} b (omega arith))

-- a cell that lies in another row, or in an earlier column of this one, stays
stays : (size columns row first count w width i j k : ℕ) (mid sub : List ℕ)
    → w ≡ row * (columns * size) + first * size → width ≡ count * size → first * size + count * size ≤ columns * size
    → w + width ≤ length mid → length sub ≡ width → j < columns → k < size
    → ((i ≡ row) × (j < first)) ⊎ ((i < row) ⊎ (row < i))
    → slice_index (put_mid w width mid sub) ((i * columns + j) * size + k) ≡ slice_index mid ((i * columns + j) * size + k)
stays size columns row first count w width i j k mid sub at is part room len below lt where_is =
    let b = columns * size in
    let spot = at_row i columns j size k in
    let within : j * size + k < b = below_block columns j size k below lt in
    ap (λ n. get_or (put_mid w width mid sub) n 0) spot
    ∙ elim where_is [
      | inl here ↦
          let early : j * size + k < first * size = below_block first j size k here.1 lt in
          let same : i * b ≡ row * b = ap (λ n. n * b) here.0 in
          get_or-put_mid_below w width (i * b + (j * size + k)) mid sub room len (omega arith)
      | inr other ↦ elim other [
        | inl lower ↦
            let order = rows_order i row b lower in
            get_or-put_mid_below w width (i * b + (j * size + k)) mid sub room len (omega arith)
        | inr higher ↦
            let order = rows_order row i b higher in
            get_or-put_mid_above w width (i * b + (j * size + k)) mid sub room len (omega arith)
      ]
    ]
    ∙ ap (λ n. get_or mid n 0) (sym spot)

-- a cell of the part of the row that was gathered
gathers : (size columns rs cs start row first count w width d k : ℕ) (from mid sub : List ℕ)
    → w ≡ row * (columns * size) + first * size → width ≡ count * size
    → w + width ≤ length mid → length sub ≡ width → d < count → k < size
    → IsGathered size (count ∷ []) (cs ∷ []) (start + row * rs + first * cs) from sub
    → slice_index (put_mid w width mid sub) ((row * columns + (first + d)) * size + k) ≡ slice_index from (start + row * rs + (first + d) * cs + k)
gathers size columns rs cs start row first count w width d k from mid sub at is room len below lt call =
    let b = columns * size in
    let within : d * size + k < width = omega (arith, below_block count d size k below lt) in
    let parts : (first + d) * size ≡ first * size + d * size = omega arith in
    let spot : (row * columns + (first + d)) * size + k ≡ w + (d * size + k) = at_row row columns (first + d) size k ∙ omega arith in
    let own : (d * 1 + 0) * size + k ≡ d * size + k = ap (λ n. n * size + k) (let z : d * 1 + 0 ≡ d = omega arith in z) in
    let steps : (first + d) * cs ≡ first * cs + d * cs = omega arith in
    let to : start + row * rs + first * cs + (d * cs + 0) + k ≡ start + row * rs + (first + d) * cs + k = omega arith in
    ap (λ n. get_or (put_mid w width mid sub) n 0) spot
    ∙ get_or-put_mid_inside w width (d * size + k) mid sub room len within
    ∙ ap (λ n. get_or sub n 0) (sym own)
    ∙ call.same (d ∷ []) k (below, tt) lt
    ∙ ap (λ n. get_or from n 0) to

-- what is so of a step from one row to the next
pub record IsRowStep (size rows columns row first count w width : ℕ) (mid sub : List ℕ) : Type 0 where
  pub at : w ≡ row * (columns * size) + first * size
  pub is : width ≡ count * size
  pub part : first + count ≤ columns
  pub row_below : row < rows
  pub room : w + width ≤ length mid
  pub len : length sub ≡ width

part_bytes : (first count columns size : ℕ) → first + count ≤ columns → first * size + count * size ≤ columns * size
part_bytes first count columns size part = omega (arith, add-mul first count size, mul-le-mul_right {m = first + count} {n = columns} size part)

before-more : (size rows columns rs cs start row first count w width : ℕ) (from mid sub : List ℕ)
    → IsRowStep size rows columns row first count w width mid sub
    → AreStairs size rows columns rs cs start first row (first + count) from mid
    → (i j k : ℕ) → i < rows → j < first → k < size
    → slice_index (put_mid w width mid sub) ((i * columns + j) * size + k) ≡ slice_index from (start + i * rs + j * cs + k)
before-more size rows columns rs cs start row first count w width from mid sub step held i j k below early lt =
    let part = step.part in
    stays size columns row first count w width i j k mid sub step.at step.is (part_bytes first count columns size part) step.room step.len (omega arith) lt
    (elim (cases_order i row) [
      | inl same ↦ inl (same, early)
      | inr other ↦ inr other
    ])
    ∙ held.before.same i j k below early lt

above-more : (size rows columns rs cs start row first count w width : ℕ) (from mid sub : List ℕ)
    → IsRowStep size rows columns row first count w width mid sub
    → AreStairs size rows columns rs cs start first row (first + count) from mid
    → IsGathered size (count ∷ []) (cs ∷ []) (start + row * rs + first * cs) from sub
    → (i j k : ℕ) → i < row + 1 → j < first + count → k < size
    → slice_index (put_mid w width mid sub) ((i * columns + j) * size + k) ≡ slice_index from (start + i * rs + j * cs + k)
above-more size rows columns rs cs start row first count w width from mid sub step held call i j k low under lt =
    let part = step.part in
    elim (cases_order i row) [
      | inl same ↦ elim (cases_order j first) [
        | inl edge ↦ row_at j (omega arith) under same
        | inr other ↦ elim other [
          | inl early ↦ before-more size rows columns rs cs start row first count w width from mid sub step held i j k (let r = step.row_below in omega arith) early lt
          | inr late ↦ row_at j (omega arith) under same
        ]
      ]
      | inr other ↦ elim other [
        | inl lower ↦
            stays size columns row first count w width i j k mid sub step.at step.is (part_bytes first count columns size part) step.room step.len (omega arith) lt (inr (inl lower))
            ∙ held.above.same i j k lower under lt
        | inr higher ↦ absurd (omega arith)
      ]
    ]
  where
    row_at : (j : ℕ) → first ≤ j → j < first + count → i ≡ row → slice_index (put_mid w width mid sub) ((i * columns + j) * size + k) ≡ slice_index from (start + i * rs + j * cs + k)
    row_at j late within same =
        let d = j - first in
        let whole : first + d ≡ j = omega arith in
        let short : d < count = omega arith in
        subst (λ i. slice_index (put_mid w width mid sub) ((i * columns + j) * size + k) ≡ slice_index from (start + i * rs + j * cs + k)) (sym same)
        (subst (λ j. slice_index (put_mid w width mid sub) ((row * columns + j) * size + k) ≡ slice_index from (start + row * rs + j * cs + k)) whole
        (gathers size columns rs cs start row first count w width d k from mid sub step.at step.is step.room step.len short lt call))

-- one row more
pub stairs-more : (size rows columns rs cs start row first count w width : ℕ) (from mid sub : List ℕ)
    → IsRowStep size rows columns row first count w width mid sub
    → AreStairs size rows columns rs cs start first row (first + count) from mid
    → IsGathered size (count ∷ []) (cs ∷ []) (start + row * rs + first * cs) from sub
    → AreStairs size rows columns rs cs start first (row + 1) (first + count) from (put_mid w width mid sub)
stairs-more size rows columns rs cs start row first count w width from mid sub step held call = record {
  before = record { same = before-more size rows columns rs cs start row first count w width from mid sub step held };
  above = record { same = above-more size rows columns rs cs start row first count w width from mid sub step held call };
}

-- no row yet
pub stairs-first : (size rows columns rs cs start first next : ℕ) (from to : List ℕ)
    → AreColumns size rows columns rs cs start first from to → AreStairs size rows columns rs cs start first 0 next from to
stairs-first size rows columns rs cs start first next from to held = record {
  before = held;
  above = record { same = λ i j k low under lt. absurd (omega arith) };
}

-- no column yet
pub columns-none : (size rows columns rs cs start : ℕ) (from to : List ℕ) → AreColumns size rows columns rs cs start 0 from to
columns-none size rows columns rs cs start from to = record { same = λ i j k low under lt. absurd (omega arith) }

all_at : (size rows columns rs cs start : ℕ) (from to : List ℕ) → AreColumns size rows columns rs cs start columns from to
    → (q : List ℕ) (k : ℕ) → InShape (rows ∷ columns ∷ []) q → k < size
    → slice_index to (place (rows ∷ columns ∷ []) q * size + k) ≡ slice_index from (start + dot_product (rs ∷ cs ∷ []) q + k)
all_at size rows columns rs cs start from to held [] k inside lt = absurd inside
all_at size rows columns rs cs start from to held (i ∷ []) k inside lt = absurd inside.1
all_at size rows columns rs cs start from to held (i ∷ j ∷ []) k inside lt =
    let at : i * (columns * 1) + (j * 1 + 0) ≡ i * columns + j = omega arith in
    let to_at : start + i * rs + j * cs + k ≡ start + (i * rs + (j * cs + 0)) + k = omega arith in
    ap (λ n. get_or to (n * size + k) 0) at
    ∙ held.same i j k inside.0 inside.1.0 lt
    ∙ ap (λ n. get_or from n 0) to_at
all_at size rows columns rs cs start from to held (i ∷ j ∷ l ∷ q) k inside lt = absurd inside.1.1

-- all columns
pub columns-all : (size rows columns rs cs start : ℕ) (from to : List ℕ) → AreColumns size rows columns rs cs start columns from to
    → IsGathered size (rows ∷ columns ∷ []) (rs ∷ cs ∷ []) start from to
columns-all size rows columns rs cs start from to held = record { same = all_at size rows columns rs cs start from to held }

-- the cell in this row and column is within the bytes
pub table_read : (size rows columns rs cs start len i j : ℕ) → AreWithin size (rows ∷ columns ∷ []) (rs ∷ cs ∷ []) start len
    → i < rows → j < columns → start + i * rs + j * cs + size ≤ len
table_read size rows columns rs cs start len i j within low under =
    let room : start + (i * rs + (j * cs + 0)) + size ≤ len = within.each (i ∷ j ∷ []) (low, (under, tt)) in
    omega arith

part_at : (size rows columns rs cs start len row first count : ℕ) → AreWithin size (rows ∷ columns ∷ []) (rs ∷ cs ∷ []) start len
    → row < rows → first + count ≤ columns → (q : List ℕ) → InShape (count ∷ []) q
    → start + row * rs + first * cs + dot_product (cs ∷ []) q + size ≤ len
part_at size rows columns rs cs start len row first count within low part [] inside = absurd inside
part_at size rows columns rs cs start len row first count within low part (d ∷ []) inside =
    let below : d < count = inside.0 in
    let steps : (first + d) * cs ≡ first * cs + d * cs = omega arith in
    let room = table_read size rows columns rs cs start len row (first + d) within low (omega arith) in
    let sum : start + row * rs + first * cs + (d * cs + 0) + size ≤ len = omega arith in
    sum
part_at size rows columns rs cs start len row first count within low part (d ∷ e ∷ q) inside = absurd inside.1

-- the part of a row is within the bytes too
pub part-within : (size rows columns rs cs start len row first count : ℕ) → AreWithin size (rows ∷ columns ∷ []) (rs ∷ cs ∷ []) start len
    → row < rows → first + count ≤ columns → AreWithin size (count ∷ []) (cs ∷ []) (start + row * rs + first * cs) len
part-within size rows columns rs cs start len row first count within low part =
    record { each = part_at size rows columns rs cs start len row first count within low part }

-- the part of a row ends where the table ends at most
pub part_room : (size rows columns row first count : ℕ) → row < rows → first + count ≤ columns
    → row * (columns * size) + first * size + count * size ≤ rows * (columns * size)
part_room size rows columns row first count low part =
    let order = rows_order row rows (columns * size) low in
    let bytes = part_bytes first count columns size part in
    omega arith

-- the bytes of an array of two dimensions, row by row
pub table_len : (xs : List ℕ) (size : ℕ) → length xs ≡ 2 → position_count xs * size ≡ get_or xs 0 0 * (get_or xs 1 0 * size)
table_len [] size is = absurd (omega arith)
table_len (x ∷ []) size is = absurd (omega arith)
table_len (x ∷ y ∷ []) size is =
    let one : y * 1 ≡ y = omega arith in
    mul_assoc x (y * 1) size ∙ ap (λ n. x * (n * size)) one
table_len (x ∷ y ∷ z ∷ xs) size is = absurd (omega arith)
