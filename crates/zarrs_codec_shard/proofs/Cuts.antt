-- Positions of a chunk and of its subchunks, and the cells of subchunks put together again.
use Rattle.std.proofs.Common.{◌≡◌, ℕ, suc, ◌+◌, ◌*◌, ◌/◌, ◌%◌, ◌<◌, Bool, true, eqb, ◌&&◌, List, [], ◌∷◌, length, get_or, refl, ap, ◌∙◌, arith}
use Rattle.std.specs.Prelude.{nat_lt}
use Rattle.std.specs.List.{list_all}
use Rattle.std.proofs.lemmas.Bool.{eqb-true, ltb-true, and_parts, false≢true}
use Rattle.std.proofs.lemmas.List.Sums.{AllPass-from_list_all}
use Rattle.std.proofs.lemmas.Nat.{div-mul-add, mod-mul-add}
use Rattle.std.proofs.Math.Nat.{div-add-mod', div-lt_iff_lt-mul, mul-le-mul_right, suc-mul}
use Rattle.zarrs_data_type.specs.Cell.{Cell, none}
use Rattle.zarrs_subset.specs.Boxes.{position_count, InShape, place, offset_by}
use Rattle.zarrs_subset.specs.Rearranged.{made_of}
use Rattle.zarrs_subset.proofs.Kernel.{place_below}
use Rattle.zarrs_subset.proofs.RearrangedCells.{length-made_of, made_of-same, made_at, read_all, all-made_of}
use Rattle.zarrs_codec_shard.specs.Subchunks.{is_cut_by, quotients, remainders, corner, subchunk_of, assembled}

pub record IsDivided (s sub p : List ℕ) : Type 0 where
  pub again : offset_by (corner sub (quotients p sub)) (remainders p sub) ≡ p
  pub in_grid : InShape (quotients s sub) (quotients p sub)
  pub in_part : InShape sub (remainders p sub)

-- a position is the one of its place in its part
pub position_divided : (s sub p : List ℕ) → is_cut_by s sub ≡ true → InShape s p → IsDivided s sub p
position_divided [] [] [] cut is = record { again = refl; in_grid = tt; in_part = tt }
position_divided [] [] (i ∷ p) cut is = absurd is
position_divided [] (c ∷ sub) p cut is = absurd (false≢true cut)
position_divided (n ∷ s) [] p cut is = absurd (false≢true cut)
position_divided (n ∷ s) (c ∷ sub) [] cut is = absurd is
position_divided (n ∷ s) (c ∷ sub) (i ∷ p) cut is =
    let outer = and_parts (nat_lt 0 c && eqb (n % c) 0) (is_cut_by s sub) cut in
    let first = and_parts (nat_lt 0 c) (eqb (n % c) 0) outer.0 in
    let some_c : 0 < c = ltb-true 0 c first.0 in
    let whole : n % c ≡ 0 = eqb-true (n % c) 0 first.1 in
    let lt : i < n = is.0 in
    let whole_is = div-add-mod' n c in
    let inside : i / c < n / c = (div-lt_iff_lt-mul {k = c} {x = i} {y = n / c} some_c).1 (omega arith) in
    let rest = position_divided s sub p outer.1 is.1 in
    record {
      again = ap (λ x. x ∷ offset_by (corner sub (quotients p sub)) (remainders p sub)) (div-add-mod' i c) ∙ ap (λ l. i ∷ l) rest.again;
      in_grid = (inside, rest.in_grid);
      in_part = ((let h : i % c < c = omega arith in h), rest.in_part);
    }

pub position_inside : (s sub i q : List ℕ) → is_cut_by s sub ≡ true → InShape (quotients s sub) i → InShape sub q → InShape s (offset_by (corner sub i) q)
position_inside [] [] i q cut in_grid in_part = tt
position_inside [] (c ∷ sub) i q cut in_grid in_part = absurd (false≢true cut)
position_inside (n ∷ s) [] i q cut in_grid in_part = absurd (false≢true cut)
position_inside (n ∷ s) (c ∷ sub) [] q cut in_grid in_part = absurd in_grid
position_inside (n ∷ s) (c ∷ sub) (i ∷ is) [] cut in_grid in_part = absurd in_part
position_inside (n ∷ s) (c ∷ sub) (i ∷ is) (q ∷ qs) cut in_grid in_part =
    let outer = and_parts (nat_lt 0 c && eqb (n % c) 0) (is_cut_by s sub) cut in
    let whole : n % c ≡ 0 = eqb-true (n % c) 0 (and_parts (nat_lt 0 c) (eqb (n % c) 0) outer.0).1 in
    let g : i < n / c = in_grid.0 in
    let h : q < c = in_part.0 in
    let le = mul-le-mul_right {m = suc i} {n = n / c} c (omega arith) in
    let e = suc-mul i c in
    let w = div-add-mod' n c in
    ((let r : i * c + q < n = omega arith in r), position_inside s sub is qs outer.1 in_grid.1 in_part.1)

-- the part of a position and the place in it are those that it was made of
pub parts_of_position : (s sub i q : List ℕ) → is_cut_by s sub ≡ true → InShape (quotients s sub) i → InShape sub q → (quotients (offset_by (corner sub i) q) sub ≡ i) × (remainders (offset_by (corner sub i) q) sub ≡ q)
parts_of_position [] [] [] [] cut in_grid in_part = (refl, refl)
parts_of_position [] [] (i ∷ is) q cut in_grid in_part = absurd in_grid
parts_of_position [] [] [] (q ∷ qs) cut in_grid in_part = absurd in_part
parts_of_position [] (c ∷ sub) i q cut in_grid in_part = absurd (false≢true cut)
parts_of_position (n ∷ s) [] i q cut in_grid in_part = absurd (false≢true cut)
parts_of_position (n ∷ s) (c ∷ sub) [] q cut in_grid in_part = absurd in_grid
parts_of_position (n ∷ s) (c ∷ sub) (i ∷ is) [] cut in_grid in_part = absurd in_part
parts_of_position (n ∷ s) (c ∷ sub) (i ∷ is) (q ∷ qs) cut in_grid in_part =
    let outer = and_parts (nat_lt 0 c && eqb (n % c) 0) (is_cut_by s sub) cut in
    let rest = parts_of_position s sub is qs outer.1 in_grid.1 in_part.1 in
    let h : q < c = in_part.0 in
    let a : (i * c + q) / c ≡ i = div-mul-add i c q h in
    let b : (i * c + q) % c ≡ q = mod-mul-add i c q h in (
      ap (λ x. x ∷ quotients (offset_by (corner sub is) qs) sub) a ∙ ap (λ l. i ∷ l) rest.0,
      ap (λ x. x ∷ remainders (offset_by (corner sub is) qs) sub) b ∙ ap (λ l. q ∷ l) rest.1,
    )

module _ (s sub : List ℕ) (cut : is_cut_by s sub ≡ true) (cs : List Cell) (len : length cs ≡ position_count s) where
  pub assembled_again : assembled s sub (made_of (subchunk_of s sub cs) (quotients s sub)) ≡ cs
  assembled_again =
      let g = quotients s sub in
      made_of-same
      (λ p. get_or (get_or (made_of (subchunk_of s sub cs) g) (place g (quotients p sub)) []) (place sub (remainders p sub)) none)
      (λ p. get_or cs (place s p) none) s
      (λ p is.
      let a = position_divided s sub p cut is in
      let i = quotients p sub in
      let r = remainders p sub in
      ap (λ l. get_or l (place sub r) none) (made_at (subchunk_of s sub cs) g i [] a.in_grid)
      ∙ made_at (λ q. get_or cs (place s (offset_by (corner sub i) q)) none) sub r none a.in_part
      ∙ ap (λ x. get_or cs (place s x) none) a.again)
      ∙ read_all s cs none len

  pub subchunk_len : (i : List ℕ) → length (subchunk_of s sub cs i) ≡ position_count sub
  subchunk_len i = length-made_of (λ q. get_or cs (place s (offset_by (corner sub i) q)) none) sub

  pub subchunk_all : (v : Cell → Bool) → list_all v cs ≡ true → (i : List ℕ) → InShape (quotients s sub) i → list_all v (subchunk_of s sub cs i) ≡ true
  subchunk_all v all i in_grid =
      all-made_of v (λ q. get_or cs (place s (offset_by (corner sub i) q)) none) sub
      (λ q in_part. AllPass-from_list_all v cs all (place s (offset_by (corner sub i) q)) none
      (let below = place_below s (offset_by (corner sub i) q) (position_inside s sub i q cut in_grid in_part) in omega arith))

-- the part i of what was assembled of parts is the part i
pub subchunk_of-assembled : (s sub : List ℕ) (parts : List (List Cell)) (i : List ℕ) → is_cut_by s sub ≡ true → InShape (quotients s sub) i
    → length (get_or parts (place (quotients s sub) i) []) ≡ position_count sub
    → subchunk_of s sub (assembled s sub parts) i ≡ get_or parts (place (quotients s sub) i) []
subchunk_of-assembled s sub parts i cut in_grid len =
    let g = quotients s sub in
    let F : List ℕ → Cell = λ p. get_or (get_or parts (place g (quotients p sub)) []) (place sub (remainders p sub)) none in
    made_of-same (λ q. get_or (made_of F s) (place s (offset_by (corner sub i) q)) none) (λ q. get_or (get_or parts (place g i) []) (place sub q) none) sub
    (λ q in_part.
    let e = parts_of_position s sub i q cut in_grid in_part in
    made_at F s (offset_by (corner sub i) q) none (position_inside s sub i q cut in_grid in_part)
    ∙ ap (λ j. get_or (get_or parts (place g j) []) (place sub (remainders (offset_by (corner sub i) q) sub)) none) e.0
    ∙ ap (λ r. get_or (get_or parts (place g i) []) (place sub r) none) e.1)
    ∙ read_all sub (get_or parts (place g i) []) none len

pub length-assembled : (s sub : List ℕ) (parts : List (List Cell)) → length (assembled s sub parts) ≡ position_count s
length-assembled s sub parts =
    length-made_of (λ p. get_or (get_or parts (place (quotients s sub) (quotients p sub)) []) (place sub (remainders p sub)) none) s
