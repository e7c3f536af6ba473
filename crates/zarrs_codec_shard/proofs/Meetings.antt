-- Whether a box has a position of a subchunk, dimension by dimension.
use Rattle.std.proofs.Common.{◌≡◌, ℕ, zero, suc, ◌+◌, ◌-◌, ◌*◌, ◌/◌, ◌%◌, ◌^◌, ◌<◌, min, max, true, false, List, [], ◌∷◌, length, drop, slice_index, refl, sym, ap, ◌∙◌, arith}
use Rattle.std.specs.Prelude.{nat_lt}
use Rattle.std.proofs.Math.Nat.{div-lt_iff_lt-mul, mod-eq_of_lt, mul-add-div_right, mul-add-mod_self_right, mul-le-mul_right, mul_assoc, suc-mul}
use Rattle.std.proofs.lemmas.Bool.{lt-ltb}
use Rattle.std.proofs.lemmas.Nat.{div-add-mod', mod_below}
use Rattle.zarrs_subset.specs.Boxes.{position_count, unravel, overlap_extents}
use Rattle.zarrs_subset.proofs.Counts.{count_some, count_zero, length-InShape}
use Rattle.zarrs_subset.proofs.Overlaps.{length-overlap_extents, length-zip_with}
use Rattle.zarrs_subset.proofs.Parts.{zip_with-at}
use Rattle.zarrs_subset.proofs.Positions.{unravel_in}
use Rattle.zarrs_codec_shard.specs.Subchunks.{corner}

positive_right : (n g p : ℕ) → n < g * p → 0 < p
positive_right n g zero lt = absurd (omega arith)
positive_right n g (suc p) lt = omega arith

-- the positions of an array, as rows of those from one dimension on
rows_at : (grid : List ℕ) (k : ℕ) → k < length grid → (rows : ℕ) × (position_count grid ≡ rows * slice_index grid k * position_count (drop (suc k) grid))
rows_at [] k below = absurd (omega arith)
rows_at (g ∷ grid) zero below = (1, (let p = position_count grid in omega arith))
rows_at (g ∷ grid) (suc k) below =
    let r = rows_at grid k (omega arith) in
    let m = slice_index grid k in
    let c = position_count (drop (suc k) grid) in
    (g * r.0, ap (λ n. g * n) r.1 ∙ sym (mul_assoc g (r.0 * m) c) ∙ ap (λ n. n * c) (sym (mul_assoc g r.0 m)))

-- whole blocks of rows change no index within
index_past : (rows m c n : ℕ) → 0 < c → n % (rows * m * c) / c % m ≡ n / c % m
index_past rows m c n some =
    let q = n / (rows * m * c) in
    let r = n % (rows * m * c) in
    let whole : q * rows * m * c + r ≡ n =
    ap (λ x. x * c + r) (mul_assoc q rows m) ∙ ap (λ x. x + r) (mul_assoc q (rows * m) c) ∙ div-add-mod' n (rows * m * c) in
    sym (ap (λ x. x / c % m) (sym whole) ∙ ap (λ x. x % m) (mul-add-div_right some (q * rows * m) r) ∙ mul-add-mod_self_right (q * rows) m (r / c))

-- an index of the position of this number
index_at : (grid : List ℕ) (n k : ℕ) → n < position_count grid → k < length grid → slice_index (unravel grid n) k ≡ n / position_count (drop (suc k) grid) % slice_index grid k
index_at [] n k lt below = absurd (omega arith)
index_at (g ∷ grid) n zero lt below = sym (mod-eq_of_lt ((div-lt_iff_lt-mul (positive_right n g (position_count grid) lt)).1 lt))
index_at (g ∷ grid) n (suc k) lt below =
    let p = position_count grid in
    let some = positive_right n g p lt in
    let r = rows_at grid k (omega arith) in
    let m = slice_index grid k in
    let c = position_count (drop (suc k) grid) in
    let inner : 0 < c = positive_right (n % p) (r.0 * m) c (let l = mod_below n p some in let e = r.1 in omega arith) in
    index_at grid (n % p) k (mod_below n p some) (omega arith)
    ∙ ap (λ x. n % x / c % m) r.1 ∙ index_past r.0 m c n inner

-- an extent of what two boxes share
extent_at : (S X T Y : List ℕ) (k : ℕ) → k < length S → length X ≡ length S → length T ≡ length S → length Y ≡ length S
    → slice_index (overlap_extents S X T Y) k ≡ min (slice_index S k + slice_index X k) (slice_index T k + slice_index Y k) - max (slice_index S k) (slice_index T k)
extent_at [] X T Y k below x t y = absurd (omega arith)
extent_at (s ∷ S) [] T Y k below x t y = absurd (omega arith)
extent_at (s ∷ S) (e ∷ X) [] Y k below x t y = absurd (omega arith)
extent_at (s ∷ S) (e ∷ X) (o ∷ T) [] k below x t y = absurd (omega arith)
extent_at (s ∷ S) (e ∷ X) (o ∷ T) (f ∷ Y) zero below x t y = refl
extent_at (s ∷ S) (e ∷ X) (o ∷ T) (f ∷ Y) (suc k) below x t y = extent_at S X T Y k (omega arith) (omega arith) (omega arith) (omega arith)

-- a subchunk of this number and a box, along one dimension
module _ (sub grid : List ℕ) (n : ℕ) (S X : List ℕ) (same : length sub ≡ length grid) (dimensions : length S ≡ length grid) (long : length S ≡ length X) (lt : n < position_count grid) where
  long_index : length (unravel grid n) ≡ length grid
  long_index = length-InShape grid (unravel grid n) (unravel_in grid n lt)

  long_corner : length (corner sub (unravel grid n)) ≡ length grid
  long_corner = length-zip_with (λ c i. i * c) sub (unravel grid n) (omega (arith, long_index)) ∙ same

  -- where the subchunk starts
  abbrev pub first_at : ℕ → ℕ
  first_at k = n / position_count (drop (suc k) grid) % slice_index grid k * slice_index sub k

  pub shared_at : (k : ℕ) → k < length grid
      → slice_index (overlap_extents (corner sub (unravel grid n)) sub S X) k ≡ min (first_at k + slice_index sub k) (slice_index S k + slice_index X k) - max (first_at k) (slice_index S k)
  shared_at k below =
      let first : slice_index (corner sub (unravel grid n)) k ≡ n / position_count (drop (suc k) grid) % slice_index grid k * slice_index sub k =
      zip_with-at (λ c i. i * c) sub (unravel grid n) k (omega arith) (omega (arith, long_index)) ∙ ap (λ i. i * slice_index sub k) (index_at grid n k lt below) in
      extent_at (corner sub (unravel grid n)) sub S X k (omega (arith, long_corner)) (omega (arith, long_corner)) (omega (arith, long_corner)) (omega (arith, long_corner))
      ∙ ap (λ x. min (x + slice_index sub k) (slice_index S k + slice_index X k) - max x (slice_index S k)) first

  long_shared : length (overlap_extents (corner sub (unravel grid n)) sub S X) ≡ length grid
  long_shared = length-overlap_extents (corner sub (unravel grid n)) sub S X (omega (arith, long_corner)) long (omega (arith, long_corner)) ∙ long_corner

  pub apart : (k : ℕ) → k < length grid → slice_index (overlap_extents (corner sub (unravel grid n)) sub S X) k ≡ 0 → false ≡ nat_lt 0 (position_count (overlap_extents (corner sub (unravel grid n)) sub S X))
  apart k below none = sym (ap (nat_lt 0) (count_zero (overlap_extents (corner sub (unravel grid n)) sub S X) k (omega (arith, long_shared)) none))

  pub together : ((k : ℕ) → k < length grid → 0 < slice_index (overlap_extents (corner sub (unravel grid n)) sub S X) k) → true ≡ nat_lt 0 (position_count (overlap_extents (corner sub (unravel grid n)) sub S X))
  together some =
      sym (lt-ltb 0 (position_count (overlap_extents (corner sub (unravel grid n)) sub S X))
      (count_some (overlap_extents (corner sub (unravel grid n)) sub S X) (λ k below none. omega (arith, some k (omega (arith, long_shared)), none))))

-- a grid with a number has no extent 0, and its positions behind a dimension are some
pub some_along : (grid : List ℕ) (n k : ℕ) → n < position_count grid → k < length grid → 0 < slice_index grid k
some_along grid n k lt below =
    let none : slice_index grid k ≡ 0 → ⊥ = λ z. omega (arith, count_zero grid k below z) in omega arith

-- an index along a dimension, whose subchunk ends within u64
pub small_end : (rest g c : ℕ) → 0 < g → g * c < 2 ^ 64 → rest % g * c + c < 2 ^ 64
small_end rest g c some fits =
    let low = mod_below rest g some in
    omega (arith, suc-mul (rest % g) c, mul-le-mul_right {m = suc (rest % g)} {n = g} c (omega arith))
