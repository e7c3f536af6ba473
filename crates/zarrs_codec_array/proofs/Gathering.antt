-- Rows of cells that are taken in another order.
use Rattle.std.proofs.Common.{◌≡◌, ℕ, zero, suc, ◌+◌, ◌*◌, ◌<◌, ◌≤◌, List, [], ◌∷◌, length, get_or, slice_index, refl}
use Rattle.std.proofs.Common.{sym, ap, ◌∙◌, subst, arith, inl, inr}
use Rattle.std.specs.Prelude.{slice_range}
use Rattle.std.proofs.lemmas.Bool.{cases_eq}
use Rattle.std.proofs.Math.Nat.{mul-le-mul_right, suc-mul, mul_comm, mul_assoc}
use borrow.Rule.Slice.PartMut.{put_mid}
use Rattle.zarrs_subset.specs.Boxes.{position_count, InShape, place, unravel}
use Rattle.zarrs_subset.proofs.Kernel.{get_or-put_mid_inside, other_block, in_block, below_block, place_below, get_or-part, tail_is}
use Rattle.zarrs_subset.proofs.Positions.{unravel_in}
use Rattle.zarrs_codec_array.specs.Orders.{dot_product}
use Rattle.zarrs_codec_array.specs.Gathered.{IsGathered, AreWithin}

abbrev Same : ℕ → List ℕ → List ℕ → ℕ → List ℕ → List ℕ → Type 0
Same size shape steps start from to =
    (q : List ℕ) (k : ℕ) → InShape shape q → k < size → slice_index to (place shape q * size + k) ≡ slice_index from (start + dot_product steps q + k)

pub head_tail : (xs : List ℕ) → 0 < length xs → xs ≡ get_or xs 0 0 ∷ slice_range xs 1 (length xs)
head_tail [] lt = absurd (omega arith)
head_tail (x ∷ xs) lt = ap (λ l. x ∷ l) (sym (tail_is x xs))

-- a row ends where the rows end at most
pub row_end : (i extent b : ℕ) → i < extent → i * b + b ≤ extent * b
row_end i extent b lt = omega (arith, suc-mul i b, mul-le-mul_right {m = suc i} {n = extent} b (omega arith))

pub row_read : (size extent step start len i : ℕ) → AreWithin size (extent ∷ []) (step ∷ []) start len → i < extent → start + i * step + size ≤ len
row_read size extent step start len i within lt = omega (arith, within.each (i ∷ []) (lt, tt))

some_of : (extent size : ℕ) → 0 < extent * size → (e : ℕ) × (extent ≡ suc e)
some_of zero size lt = absurd (omega arith)
some_of (suc e) size lt = (e, refl)

-- cells that lie one after another
pub line_read : (size extent step start len : ℕ) → AreWithin size (extent ∷ []) (step ∷ []) start len → step ≡ size → 0 < extent * size → start + extent * size ≤ len
line_read size extent step start len within same some =
    let e = some_of extent size some in
    let below : e.0 < extent = omega (arith, e.1) in
    let room = row_read size extent step start len e.0 within below in
    let whole : extent * size ≡ e.0 * size + size = ap (λ n. n * size) e.1 ∙ suc-mul e.0 size in
    let steps : e.0 * step ≡ e.0 * size = ap (λ n. e.0 * n) same in
    omega arith

line_at : (size extent step start : ℕ) (from : List ℕ) → step ≡ size → Same size (extent ∷ []) (step ∷ []) start from (slice_range from start (start + extent * size))
line_at size extent step start from same [] k inside lt = absurd inside
line_at size extent step start from same (i ∷ []) k inside lt =
    let below = below_block extent i size k inside.0 lt in
    let at : (i * 1 + 0) * size + k ≡ i * size + k = ap (λ n. n * size + k) (let z : i * 1 + 0 ≡ i = omega arith in z) in
    let to : start + (i * size + k) ≡ start + (i * step + 0) + k = (let e : i * step ≡ i * size = ap (λ n. i * n) same in omega arith) in
    ap (λ n. get_or (slice_range from start (start + extent * size)) n 0) at
    ∙ get_or-part start (start + extent * size) (i * size + k) from (omega arith)
    ∙ ap (λ n. get_or from n 0) to
line_at size extent step start from same (i ∷ j ∷ p) k inside lt = absurd inside.1

-- no cell
pub gathered-empty : (size : ℕ) (shape steps from to : List ℕ) (start : ℕ) → position_count shape * size ≡ 0 → IsGathered size shape steps start from to
gathered-empty size shape steps from to start none = record {
  same = λ q k inside lt.
      let below = place_below shape q inside in
      absurd (omega (arith, below_block (position_count shape) (place shape q) size k below lt));
}

-- one cell
cell_at : (size start : ℕ) (from : List ℕ) → Same size [] [] start from (slice_range from start (start + size))
cell_at size start from [] k inside lt =
    let at : 0 * size + k ≡ k = omega arith in
    let to : start + k ≡ start + 0 + k = omega arith in
    ap (λ n. get_or (slice_range from start (start + size)) n 0) at
    ∙ get_or-part start (start + size) k from (omega arith)
    ∙ ap (λ n. get_or from n 0) to
cell_at size start from (i ∷ p) k inside lt = absurd inside

-- one row more
more_at : (size row a start w b : ℕ) (shape steps from mid sub : List ℕ)
    → b ≡ position_count shape * size → w ≡ row * b → w + b ≤ length mid → length sub ≡ b
    → IsGathered size (row ∷ shape) (a ∷ steps) start from mid
    → IsGathered size shape steps (start + row * a) from sub
    → Same size ((row + 1) ∷ shape) (a ∷ steps) start from (put_mid w b mid sub)
more_at size row a start w b shape steps from mid sub block at room len more call [] k inside lt = absurd inside
more_at size row a start w b shape steps from mid sub block at room len more call (i ∷ p) k inside lt =
    let c = position_count shape in
    let below = place_below shape p inside.1 in
    let within : place shape p * size + k < b = omega (arith, below_block c (place shape p) size k below lt) in
    let spot : (i * c + place shape p) * size + k ≡ i * b + (place shape p * size + k) =
    in_block i c (place shape p) size k ∙ ap (λ n. i * n + (place shape p * size + k)) (sym block) in
    elim (cases_eq i row) [
      | inl same ↦
          let here : i * b + (place shape p * size + k) ≡ w + (place shape p * size + k) = ap (λ n. n * b + (place shape p * size + k)) same ∙ ap (λ n. n + (place shape p * size + k)) (sym at) in
          let to : start + row * a + dot_product steps p + k ≡ start + (i * a + dot_product steps p) + k = (let e : row * a ≡ i * a = ap (λ n. n * a) (sym same) in omega arith) in
          ap (λ n. get_or (put_mid w b mid sub) n 0) (spot ∙ here)
          ∙ get_or-put_mid_inside w b (place shape p * size + k) mid sub room len within
          ∙ call.same p k inside.1 lt
          ∙ ap (λ n. get_or from n 0) to
      | inr differ ↦
          let low : i < row = less i row inside.0 differ in
          ap (λ n. get_or (put_mid w b mid sub) n 0) spot
          ∙ other_block i row b (place shape p * size + k) w mid sub differ within at room len
          ∙ ap (λ n. get_or mid n 0) (sym spot)
          ∙ more.same (i ∷ p) k (low, inside.1) lt
    ]
  where
    less : (i row : ℕ) → i < row + 1 → (i ≡ row → ⊥) → i < row
    less i row lt differ = omega arith

pub gathered-more : (size row a start w b width : ℕ) (shape steps from mid sub : List ℕ)
    → b ≡ position_count shape * size → w ≡ row * b → width ≡ b → w + b ≤ length mid → length sub ≡ b
    → IsGathered size (row ∷ shape) (a ∷ steps) start from mid
    → IsGathered size shape steps (start + row * a) from sub
    → IsGathered size ((row + 1) ∷ shape) (a ∷ steps) start from (put_mid w width mid sub)
gathered-more size row a start w b width shape steps from mid sub block at is room len more call =
    subst (λ n. IsGathered size ((row + 1) ∷ shape) (a ∷ steps) start from (put_mid w n mid sub)) (sym is)
    (record { same = more_at size row a start w b shape steps from mid sub block at room len more call })

first_at : (size a start : ℕ) (shape steps from to : List ℕ) → Same size (0 ∷ shape) (a ∷ steps) start from to
first_at size a start shape steps from to [] k inside lt = absurd inside
first_at size a start shape steps from to (i ∷ p) k inside lt = let no : i < 0 = inside.0 in absurd (omega arith)

-- no row yet
pub gathered-first : (size a start : ℕ) (shape steps from to : List ℕ) → IsGathered size (0 ∷ shape) (a ∷ steps) start from to
gathered-first size a start shape steps from to = record { same = first_at size a start shape steps from to }

pub gathered-line : (size extent step start : ℕ) (from : List ℕ) → step ≡ size → IsGathered size (extent ∷ []) (step ∷ []) start from (slice_range from start (start + extent * size))
gathered-line size extent step start from same = record { same = line_at size extent step start from same }

pub gathered-cell : (size start : ℕ) (from : List ℕ) → IsGathered size [] [] start from (slice_range from start (start + size))
gathered-cell size start from = record { same = cell_at size start from }

-- the cells of a row are within the bytes too
pub within-row : (size i : ℕ) (shape steps : List ℕ) (start len : ℕ) → 0 < length shape → length shape ≡ length steps → AreWithin size shape steps start len → i < get_or shape 0 0
    → AreWithin size (slice_range shape 1 (length shape)) (slice_range steps 1 (length steps)) (start + i * get_or steps 0 0) len
within-row size i [] steps start len some long within lt = absurd (omega arith)
within-row size i (e ∷ shape) [] start len some long within lt = absurd (omega arith)
within-row size i (e ∷ shape) (a ∷ steps) start len some long within lt =
    subst (λ x. AreWithin size x (slice_range (a ∷ steps) 1 (length (a ∷ steps))) (start + i * a) len) (sym (tail_is e shape))
    (subst (λ x. AreWithin size shape x (start + i * a) len) (sym (tail_is a steps))
    (record { each = λ q inside. (let room = within.each (i ∷ q) (lt, inside) in omega arith) }))

-- an array with a cell has one at the first position
pub some_cell : (size : ℕ) (shape steps : List ℕ) (start len : ℕ) → 0 < position_count shape → AreWithin size shape steps start len → start + size ≤ len
some_cell size shape steps start len some within =
    let room = within.each (unravel shape 0) (unravel_in shape 0 some) in omega arith

pub some_factor : (a b : ℕ) → 0 < a * b → 0 < a
some_factor zero b lt = absurd (omega arith)
some_factor (suc a) b lt = omega arith

pub no_dimension : (xs : List ℕ) → length xs ≡ 0 → xs ≡ []
no_dimension [] is = refl
no_dimension (x ∷ xs) is = absurd (omega arith)

pub one_dimension : (xs : List ℕ) → length xs ≡ 1 → xs ≡ get_or xs 0 0 ∷ []
one_dimension [] is = absurd (omega arith)
one_dimension (x ∷ []) is = refl
one_dimension (x ∷ y ∷ xs) is = absurd (omega arith)

pub length-slice_tail : (xs : List ℕ) → 0 < length xs → suc (length (slice_range xs 1 (length xs))) ≡ length xs
length-slice_tail [] lt = absurd (omega arith)
length-slice_tail (x ∷ xs) lt = ap (λ l. suc (length l)) (tail_is x xs)

count_head : (shape : List ℕ) → 0 < length shape → position_count shape ≡ get_or shape 0 0 * position_count (slice_range shape 1 (length shape))
count_head [] lt = absurd (omega arith)
count_head (n ∷ shape) lt = ap (λ x. n * position_count x) (sym (tail_is n shape))

pub some_tail : (shape : List ℕ) → 0 < length shape → 0 < position_count shape → 0 < position_count (slice_range shape 1 (length shape))
some_tail shape dims some =
    some_factor (position_count (slice_range shape 1 (length shape))) (get_or shape 0 0)
    (omega (arith, count_head shape dims, mul_comm (get_or shape 0 0) (position_count (slice_range shape 1 (length shape)))))

-- the bytes of an array, row by row
pub rows_len : (shape : List ℕ) (size b : ℕ) → 0 < length shape → b ≡ position_count (slice_range shape 1 (length shape)) * size → position_count shape * size ≡ get_or shape 0 0 * b
rows_len shape size b dims is =
    ap (λ n. n * size) (count_head shape dims)
    ∙ mul_assoc (get_or shape 0 0) (position_count (slice_range shape 1 (length shape))) size
    ∙ ap (λ n. get_or shape 0 0 * n) (sym is)
