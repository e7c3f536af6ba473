-- The grid of a chunk's subchunks, dimension by dimension.
use Rattle.std.proofs.Common.{◌≡◌, ℕ, zero, suc, ◌+◌, ◌*◌, ◌/◌, ◌%◌, ◌≤◌, ◌<◌, ◌≢◌, Bool, true, false, eqb, ◌&&◌, List, [], ◌∷◌, ◌++◌, length, take, drop, refl, sym, ap, ◌∙◌, arith}
use Rattle.std.specs.Prelude.{nat_lt, slice_index}
use Rattle.std.proofs.lemmas.Bool.{ltb-true, lt-ltb, eq-eqb, ne_eqb, and_parts, and_from, and_left, and_right, false≢true}
use Rattle.std.proofs.lemmas.List.{take_more, drop_more, drop_all}
use Rattle.std.proofs.Math.Nat.{div-add-mod', mul-le-mul_right, suc-mul}
use Rattle.zarrs_subset.specs.Boxes.{InShape}
use Rattle.zarrs_codec_shard.specs.Subchunks.{is_cut_by, quotients, corner}

pub cut_len : (s sub : List ℕ) → is_cut_by s sub ≡ true → (length sub ≡ length s) × (length (quotients s sub) ≡ length s)
cut_len [] [] cut = (refl, refl)
cut_len [] (c ∷ sub) cut = absurd (false≢true cut)
cut_len (n ∷ s) [] cut = absurd (false≢true cut)
cut_len (n ∷ s) (c ∷ sub) cut =
    let r = cut_len s sub (and_parts (nat_lt 0 c && eqb (n % c) 0) (is_cut_by s sub) cut).1 in (ap suc r.0, ap suc r.1)

pub cut_at : (s sub : List ℕ) (j : ℕ) → is_cut_by s sub ≡ true → j < length s → (slice_index (quotients s sub) j ≡ slice_index s j / slice_index sub j) × (0 < slice_index sub j)
cut_at [] sub j cut lt = absurd (omega arith)
cut_at (n ∷ s) [] j cut lt = absurd (false≢true cut)
cut_at (n ∷ s) (c ∷ sub) zero cut lt =
    let outer = and_parts (nat_lt 0 c && eqb (n % c) 0) (is_cut_by s sub) cut in
    (refl, ltb-true 0 c (and_parts (nat_lt 0 c) (eqb (n % c) 0) outer.0).0)
cut_at (n ∷ s) (c ∷ sub) (suc j) cut lt = cut_at s sub j (and_parts (nat_lt 0 c && eqb (n % c) 0) (is_cut_by s sub) cut).1 (omega arith)

-- the dimensions from one on, tested one after another
module _ (s sub : List ℕ) (j : ℕ) (b : Bool) (lt : j < length s) (same : length s ≡ length sub) (is : b ≡ is_cut_by (drop j s) (drop j sub)) where
  cut_first : b ≡ ((nat_lt 0 (slice_index sub j) && eqb (slice_index s j % slice_index sub j) 0) && is_cut_by (drop (j + 1) s) (drop (j + 1) sub))
  cut_first =
      is ∙ ap (λ l. is_cut_by l (drop j sub)) (drop_more s j 0 lt)
      ∙ ap (is_cut_by (slice_index s j ∷ drop (j + 1) s)) (drop_more sub j 0 (omega arith))

  pub cut_zero : slice_index sub j ≡ 0 → b ≡ false
  cut_zero zero_is =
      cut_first
      ∙ and_left (nat_lt 0 (slice_index sub j) && eqb (slice_index s j % slice_index sub j) 0) _
      (and_left (nat_lt 0 (slice_index sub j)) _ (ap (nat_lt 0) zero_is))

  pub cut_odd : slice_index s j % slice_index sub j ≢ 0 → b ≡ false
  cut_odd differs =
      cut_first
      ∙ and_left (nat_lt 0 (slice_index sub j) && eqb (slice_index s j % slice_index sub j) 0) _
      (and_right (nat_lt 0 (slice_index sub j)) _ (ne_eqb (slice_index s j % slice_index sub j) 0 differs))

  pub cut_next : slice_index sub j ≢ 0 → slice_index s j % slice_index sub j ≡ 0 → b ≡ is_cut_by (drop (j + 1) s) (drop (j + 1) sub)
  cut_next some whole =
      cut_first
      ∙ ap (λ x. x && is_cut_by (drop (j + 1) s) (drop (j + 1) sub))
      (and_from (nat_lt 0 (slice_index sub j)) _ (lt-ltb 0 (slice_index sub j) (omega arith)) (eq-eqb (slice_index s j % slice_index sub j) 0 whole))

-- shapes of different length
pub cut_other : (s sub : List ℕ) → length s ≢ length sub → is_cut_by s sub ≡ false
cut_other [] [] differs = absurd (differs refl)
cut_other [] (c ∷ sub) differs = refl
cut_other (n ∷ s) [] differs = refl
cut_other (n ∷ s) (c ∷ sub) differs =
    and_right (nat_lt 0 c && eqb (n % c) 0) (is_cut_by s sub) (cut_other s sub (λ e. differs (ap suc e)))

-- no dimension is left
pub cut_done : (s sub : List ℕ) (j : ℕ) (b : Bool) → length s ≤ j → length s ≡ length sub → b ≡ is_cut_by (drop j s) (drop j sub) → b ≡ true
cut_done s sub j b le same is =
    is ∙ ap (λ l. is_cut_by l (drop j sub)) (drop_all j s le) ∙ ap (is_cut_by []) (drop_all j sub (omega arith))

-- one more dimension of the grid
pub grid_more : (s sub : List ℕ) (j q : ℕ) (grid : List ℕ) → is_cut_by s sub ≡ true → j < length s → grid ≡ take j (quotients s sub) → q ≡ slice_index s j / slice_index sub j → grid ++ q ∷ [] ≡ take (j + 1) (quotients s sub)
grid_more s sub j q grid cut lt is here =
    ap (λ l. l ++ q ∷ []) is ∙ ap (λ x. take j (quotients s sub) ++ x ∷ []) (here ∙ sym (cut_at s sub j cut lt).0)
    ∙ sym (take_more (quotients s sub) j 0 (omega (arith, (cut_len s sub cut).1)))

pub corner_long : (s sub i : List ℕ) → is_cut_by s sub ≡ true → InShape (quotients s sub) i → length (corner sub i) ≡ length s
corner_long [] [] i cut in_grid = refl
corner_long [] (c ∷ sub) i cut in_grid = absurd (false≢true cut)
corner_long (n ∷ s) [] i cut in_grid = absurd (false≢true cut)
corner_long (n ∷ s) (c ∷ sub) [] cut in_grid = absurd in_grid
corner_long (n ∷ s) (c ∷ sub) (i ∷ is) cut in_grid = ap suc (corner_long s sub is (and_parts (nat_lt 0 c && eqb (n % c) 0) (is_cut_by s sub) cut).1 in_grid.1)

pub record IsScaled (s sub i : List ℕ) (j : ℕ) : Type 0 where
  pub value : slice_index (corner sub i) j ≡ slice_index i j * slice_index sub j
  pub below : slice_index i j * slice_index sub j + slice_index sub j ≤ slice_index s j
  pub some : j < length i
  pub long : length (corner sub i) ≡ length s

pub corner_at : (s sub i : List ℕ) (j : ℕ) → is_cut_by s sub ≡ true → InShape (quotients s sub) i → j < length s → IsScaled s sub i j
corner_at [] sub i j cut in_grid lt = absurd (omega arith)
corner_at (n ∷ s) [] i j cut in_grid lt = absurd (false≢true cut)
corner_at (n ∷ s) (c ∷ sub) [] j cut in_grid lt = absurd in_grid
corner_at (n ∷ s) (c ∷ sub) (i ∷ is) zero cut in_grid lt =
    let outer = and_parts (nat_lt 0 c && eqb (n % c) 0) (is_cut_by s sub) cut in
    let g : i < n / c = in_grid.0 in
    let le = mul-le-mul_right {m = suc i} {n = n / c} c (omega arith) in
    let e = suc-mul i c in
    let w = div-add-mod' n c in
    record { value = refl; below = (let h : i * c + c ≤ n = omega arith in h); some = omega arith; long = corner_long (n ∷ s) (c ∷ sub) (i ∷ is) cut in_grid }
corner_at (n ∷ s) (c ∷ sub) (i ∷ is) (suc j) cut in_grid lt =
    let r = corner_at s sub is j (and_parts (nat_lt 0 c && eqb (n % c) 0) (is_cut_by s sub) cut).1 in_grid.1 (omega arith) in
    record { value = r.value; below = r.below; some = (let h = r.some in omega arith); long = ap suc r.long }

pub corner_more : (s sub i : List ℕ) (j q : ℕ) (start : List ℕ) → is_cut_by s sub ≡ true → InShape (quotients s sub) i → j < length s → start ≡ take j (corner sub i) → q ≡ slice_index i j * slice_index sub j → start ++ q ∷ [] ≡ take (j + 1) (corner sub i)
corner_more s sub i j q start cut in_grid lt is here =
    let r = corner_at s sub i j cut in_grid lt in
    ap (λ l. l ++ q ∷ []) is ∙ ap (λ x. take j (corner sub i) ++ x ∷ []) (here ∙ sym r.value)
    ∙ sym (take_more (corner sub i) j 0 (omega (arith, r.long)))
