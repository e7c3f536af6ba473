-- Lemmas of the ends and the overlap of boxes.
use Rattle.std.proofs.Common.{◌≡◌, ℕ, zero, suc, ◌+◌, ◌-◌, ◌^◌, ◌<◌, ◌≤◌, Bool, true, false, ◌&&◌, min, max, List, []}
use Rattle.std.proofs.Common.{◌∷◌, length, get_or, slice_index, refl, arith, inl, inr}
use Rattle.std.proofs.lemmas.Bool.{cases_lt}
use Rattle.std.proofs.lemmas.Bool.Decides.{nat_tests}
use Rattle.std.proofs.lemmas.List.{get_or_past, get_or_read}
use Rattle.zarrs_subset.specs.Boxes.{in_range, is_within, zip_with, ends, EndsFit, overlap_start, overlap_extents}

pub length-zip_with : (f : ℕ → ℕ → ℕ) (xs ys : List ℕ) → length xs ≡ length ys → length (zip_with f xs ys) ≡ length xs
length-zip_with f [] [] h = refl
length-zip_with f [] (y ∷ ys) h = absurd (omega arith)
length-zip_with f (x ∷ xs) [] h = absurd (omega arith)
length-zip_with f (x ∷ xs) (y ∷ ys) h = omega (arith, length-zip_with f xs ys (omega arith))

-- a list is the numbers of f, one by one
pub zip_with-from : (f : ℕ → ℕ → ℕ) (xs ys zs : List ℕ) → length xs ≡ length ys → length zs ≡ length xs
    → ((k : ℕ) → k < length xs → slice_index zs k ≡ f (slice_index xs k) (slice_index ys k)) → zs ≡ zip_with f xs ys
zip_with-from f [] [] [] h l at = refl
zip_with-from f [] [] (z ∷ zs) h l at = absurd (omega arith)
zip_with-from f [] (y ∷ ys) zs h l at = absurd (omega arith)
zip_with-from f (x ∷ xs) [] zs h l at = absurd (omega arith)
zip_with-from f (x ∷ xs) (y ∷ ys) [] h l at = absurd (omega arith)
zip_with-from f (x ∷ xs) (y ∷ ys) (z ∷ zs) h l at =
    let first : z ≡ f x y = at zero (omega arith) in
    rw (first, zip_with-from f xs ys zs (omega arith) (omega arith) (λ k below. at (suc k) (omega arith))) refl

-- ---- ends that fit

pub EndsFit-below : (start extents : List ℕ) → length start ≡ length extents
    → ((k : ℕ) → k < length start → slice_index start k + slice_index extents k < 2 ^ 64) → EndsFit start extents
EndsFit-below start extents l h k =
    elim (cases_lt k (length start)) [
      | inl below ↦ h k below
      | inr past ↦
          let first : get_or start k 0 ≡ 0 = get_or_past start k 0 past in
          let second : get_or extents k 0 ≡ 0 = get_or_past extents k 0 (omega arith) in
          omega arith
    ]

-- the end along a dimension whose start and extent are read
pub end_fits : (start extents : List ℕ) (k first extent : ℕ) → EndsFit start extents → length start ≡ length extents → k < length start
    → first ≡ get_or start k first → extent ≡ get_or extents k extent → first + extent < 2 ^ 64
end_fits start extents k first extent fits l below at_start at_extent =
    let start_is : first ≡ get_or start k 0 = get_or_read start k first below at_start 0 in
    let extent_is : extent ≡ get_or extents k 0 = get_or_read extents k extent (omega arith) at_extent 0 in
    omega (arith, fits k, start_is, extent_is)

EndsFit-inner : (s e : ℕ) (start extents : List ℕ) → EndsFit (s ∷ start) (e ∷ extents) → EndsFit start extents
EndsFit-inner s e start extents h k = h (suc k)

-- ---- overlaps

pub length-overlap_extents : (S X T Y : List ℕ) → length S ≡ length X → length T ≡ length Y → length S ≡ length T
    → length (overlap_extents S X T Y) ≡ length S
length-overlap_extents [] [] [] [] h i j = refl
length-overlap_extents [] [] [] (y ∷ Y) h i j = absurd (omega arith)
length-overlap_extents [] [] (t ∷ T) Y h i j = absurd (omega arith)
length-overlap_extents [] (x ∷ X) T Y h i j = absurd (omega arith)
length-overlap_extents (s ∷ S) [] T Y h i j = absurd (omega arith)
length-overlap_extents (s ∷ S) (x ∷ X) [] Y h i j = absurd (omega arith)
length-overlap_extents (s ∷ S) (x ∷ X) (t ∷ T) [] h i j = absurd (omega arith)
length-overlap_extents (s ∷ S) (x ∷ X) (t ∷ T) (y ∷ Y) h i j = omega (arith, length-overlap_extents S X T Y (omega arith) (omega arith) (omega arith))

pub EndsFit-overlap : (S X T Y : List ℕ) → length S ≡ length X → length T ≡ length Y → length S ≡ length T
    → EndsFit S X → EndsFit T Y → EndsFit (overlap_start S T) (overlap_extents S X T Y)
EndsFit-overlap [] X T Y h i j f g k = omega arith
EndsFit-overlap (s ∷ S) [] T Y h i j f g k = absurd (omega arith)
EndsFit-overlap (s ∷ S) (x ∷ X) [] Y h i j f g k = absurd (omega arith)
EndsFit-overlap (s ∷ S) (x ∷ X) (t ∷ T) [] h i j f g k = absurd (omega arith)
EndsFit-overlap (s ∷ S) (x ∷ X) (t ∷ T) (y ∷ Y) h i j f g zero =
    let first : s + x < 2 ^ 64 = f zero in
    let second : t + y < 2 ^ 64 = g zero in
    let inside : max s t + (min (s + x) (t + y) - max s t) < 2 ^ 64 = omega arith in
    inside
EndsFit-overlap (s ∷ S) (x ∷ X) (t ∷ T) (y ∷ Y) h i j f g (suc k) =
    EndsFit-overlap S X T Y (omega arith) (omega arith) (omega arith) (EndsFit-inner s x S X f) (EndsFit-inner t y T Y g) k

in_range-overlap : (s x t y i : ℕ) → in_range (max s t) (min (s + x) (t + y) - max s t) i ≡ (in_range s x i && in_range t y i)
in_range-overlap s x t y i = grind (arith, nat_tests)

and_swap : (a b c d : Bool) → ((a && b) && (c && d)) ≡ ((a && c) && (b && d))
and_swap true true c d = refl
and_swap true false true d = refl
and_swap true false false d = refl
and_swap false b c d = refl

-- the overlap has the common positions
pub in_box-overlap : (S X T Y p : List ℕ) → length S ≡ length X → length T ≡ length Y → length S ≡ length T
    → is_within (overlap_start S T) (overlap_extents S X T Y) p ≡ (is_within S X p && is_within T Y p)
in_box-overlap [] X [] Y [] h i j = refl
in_box-overlap [] X [] Y (n ∷ p) h i j = refl
in_box-overlap [] X (t ∷ T) Y p h i j = absurd (omega arith)
in_box-overlap (s ∷ S) [] T Y p h i j = absurd (omega arith)
in_box-overlap (s ∷ S) (x ∷ X) [] Y p h i j = absurd (omega arith)
in_box-overlap (s ∷ S) (x ∷ X) (t ∷ T) [] p h i j = absurd (omega arith)
in_box-overlap (s ∷ S) (x ∷ X) (t ∷ T) (y ∷ Y) [] h i j = refl
in_box-overlap (s ∷ S) (x ∷ X) (t ∷ T) (y ∷ Y) (n ∷ p) h i j =
    rw (in_range-overlap s x t y n, in_box-overlap S X T Y p (omega arith) (omega arith) (omega arith))
    (and_swap (in_range s x n) (in_range t y n) (is_within S X p) (is_within T Y p))

-- ---- empty boxes

-- no position lies in a box with an extent 0
pub in_box-empty : (start extents p : List ℕ) (k : ℕ) → length start ≡ length extents → k < length extents → slice_index extents k ≡ 0 → is_within start extents p ≡ false
in_box-empty start [] p k l below zero_there = absurd (omega arith)
in_box-empty [] (e ∷ extents) p k l below zero_there = absurd (omega arith)
in_box-empty (s ∷ start) (e ∷ extents) [] k l below zero_there = refl
in_box-empty (s ∷ start) (e ∷ extents) (i ∷ p) zero l below zero_there =
    let out : in_range s e i ≡ false = grind (arith, nat_tests) in
    rw out refl
in_box-empty (s ∷ start) (e ∷ extents) (i ∷ p) (suc k) l below zero_there =
    and_second (in_range s e i) (is_within start extents p) (in_box-empty start extents p k (omega arith) (omega arith) zero_there)
  where
    and_second : (a b : Bool) → b ≡ false → (a && b) ≡ false
    and_second true b h = h
    and_second false b h = refl

-- each extent is above 0
abbrev pub AllSome : List ℕ → Type 0
AllSome xs = (k : ℕ) → k < length xs → slice_index xs k ≡ 0 → ⊥

-- a box that is seen from another corner ends within u64
pub EndsFit-shifted : (S X O : List ℕ) → EndsFit S X → EndsFit (zip_with (λ s t. s - t) S O) X
EndsFit-shifted [] X O h k = h k
EndsFit-shifted (s ∷ S) X [] h k = omega (arith, h k)
EndsFit-shifted (s ∷ S) [] (o ∷ O) h zero = omega (arith, h zero)
EndsFit-shifted (s ∷ S) [] (o ∷ O) h (suc k) = EndsFit-shifted S [] O (λ j. h (suc j)) k
EndsFit-shifted (s ∷ S) (x ∷ X) (o ∷ O) h zero = let first : s + x < 2 ^ 64 = h zero in omega arith
EndsFit-shifted (s ∷ S) (x ∷ X) (o ∷ O) h (suc k) = EndsFit-shifted S X O (λ j. h (suc j)) k

-- a box from a start up to an end above it
pub EndsFit-between : (S E : List ℕ) → length S ≡ length E
    → ((k : ℕ) → k < length S → slice_index S k ≤ slice_index E k) → ((k : ℕ) → k < length S → slice_index E k < 2 ^ 64)
    → EndsFit S (zip_with (λ e s. e - s) E S)
EndsFit-between [] [] h low fits k = omega arith
EndsFit-between [] (e ∷ E) h low fits k = absurd (omega arith)
EndsFit-between (s ∷ S) [] h low fits k = absurd (omega arith)
EndsFit-between (s ∷ S) (e ∷ E) h low fits zero =
    let first : s ≤ e = low zero (omega arith) in
    let end : e < 2 ^ 64 = fits zero (omega arith) in
    let inside : s + (e - s) < 2 ^ 64 = omega arith in
    inside
EndsFit-between (s ∷ S) (e ∷ E) h low fits (suc k) =
    EndsFit-between S E (omega arith) (λ j below. low (suc j) (omega arith)) (λ j below. fits (suc j) (omega arith)) k

-- ---- a box whose start and end are cut

pub length-bound : (S X E : List ℕ) → length S ≡ length X → length S ≡ length E
    → length (zip_with (λ s b. min s b) S E) ≡ length (zip_with (λ e s. e - s) (zip_with (λ e b. min e b) (ends S X) E) (zip_with (λ s b. min s b) S E))
length-bound [] X E h i = refl
length-bound (s ∷ S) [] E h i = absurd (omega arith)
length-bound (s ∷ S) (x ∷ X) [] h i = absurd (omega arith)
length-bound (s ∷ S) (x ∷ X) (e ∷ E) h i = omega (arith, length-bound S X E (omega arith) (omega arith))

pub EndsFit-bound : (S X E : List ℕ) → length S ≡ length X → length S ≡ length E → EndsFit S X
    → EndsFit (zip_with (λ s b. min s b) S E) (zip_with (λ e s. e - s) (zip_with (λ e b. min e b) (ends S X) E) (zip_with (λ s b. min s b) S E))
EndsFit-bound [] X E h i f k = omega arith
EndsFit-bound (s ∷ S) [] E h i f k = absurd (omega arith)
EndsFit-bound (s ∷ S) (x ∷ X) [] h i f k = absurd (omega arith)
EndsFit-bound (s ∷ S) (x ∷ X) (e ∷ E) h i f zero =
    let first : s + x < 2 ^ 64 = f zero in
    let inside : min s e + (min (s + x) e - min s e) < 2 ^ 64 = omega arith in
    inside
EndsFit-bound (s ∷ S) (x ∷ X) (e ∷ E) h i f (suc k) =
    EndsFit-bound S X E (omega arith) (omega arith) (EndsFit-inner s x S X f) k

-- ---- a box with an offset added to its start

pub EndsFit-shift : (S X O : List ℕ) → length S ≡ length X → length S ≡ length O
    → ((k : ℕ) → k < length O → slice_index S k + slice_index X k + slice_index O k < 2 ^ 64) → EndsFit (zip_with (λ s t. s + t) S O) X
EndsFit-shift [] [] O l m h k = omega arith
EndsFit-shift [] (x ∷ X) O l m h k = absurd (omega arith)
EndsFit-shift (s ∷ S) X [] l m h k = absurd (omega arith)
EndsFit-shift (s ∷ S) [] (o ∷ O) l m h k = absurd (omega arith)
EndsFit-shift (s ∷ S) (x ∷ X) (o ∷ O) l m h zero =
    let first : s + x + o < 2 ^ 64 = h zero (omega arith) in
    let inside : s + o + x < 2 ^ 64 = omega arith in
    inside
EndsFit-shift (s ∷ S) (x ∷ X) (o ∷ O) l m h (suc k) = EndsFit-shift S X O (omega arith) (omega arith) (λ j below. h (suc j) (omega arith)) k
