-- Boxes of subchunks in the box of their chunk.
use Rattle.std.proofs.Common.{Bool, false, not, ◌≡◌, ℕ, ◌+◌, ◌-◌, ◌*◌, ◌/◌, ◌%◌, ◌<◌, ◌≤◌, ◌^◌, true, eqb, ◌&&◌, List, [], ◌∷◌, length, replicate, Some, refl, sym, ap, subst, ◌∙◌, arith}
use Rattle.std.specs.Prelude.{nat_lt, nat_le, slice_index, MatchOption, IsTrue, SomeIndex, ◌↔◌}
use Rattle.std.proofs.lemmas.Bool.{ltb-true, leb-true, lt-ltb, le-leb, and_parts, and_from, false≢true}
use Rattle.std.proofs.lemmas.List.{length-replicate, get_or-replicate}
use Rattle.std.proofs.lemmas.Nat.{div-mul-add}
use Rattle.zarrs_subset.specs.Boxes.{position_count, InShape, place, unravel, in_range, is_within, offset_from, offset_by, EndsFit}
use Rattle.zarrs_subset.specs.Regions.{Holds, box_from, box_at_origin, place_in, LiesInBox}
use Rattle.zarrs_subset.proofs.Counts.{count_some, count_zero}
use Rattle.zarrs_subset.proofs.Overlaps.{EndsFit-below}
use Rattle.zarrs_subset.proofs.Positions.{in_box-offset_by, offset_from-by, unravel-place}
use Rattle.zarrs_codec_shard.specs.Subchunks.{is_cut_by, quotients, corner}
use Rattle.zarrs_codec_shard.proofs.Grids.{cut_len, corner_at, corner_long}

pub long_corner : (s sub i : List ℕ) → is_cut_by s sub ≡ true → InShape (quotients s sub) i → length (corner sub i) ≡ length sub
long_corner s sub i cut in_grid = corner_long s sub i cut in_grid ∙ sym (cut_len s sub cut).0

pub ends_fit : (s sub i : List ℕ) → is_cut_by s sub ≡ true → InShape (quotients s sub) i → ((k : ℕ) → slice_index s k < 2 ^ 64) → EndsFit (corner sub i) sub
ends_fit s sub i cut in_grid small =
    EndsFit-below (corner sub i) sub (long_corner s sub i cut in_grid)
    (λ k lt.
    let at = corner_at s sub i k cut in_grid (omega (arith, corner_long s sub i cut in_grid)) in
    omega (arith, at.value, at.below, small k))

pub lies_in_chunk : (s sub i : List ℕ) → is_cut_by s sub ≡ true → InShape (quotients s sub) i → LiesInBox (box_from (corner sub i) sub) (box_at_origin s)
lies_in_chunk s sub i cut in_grid =
    let n = length-replicate {A = ℕ} (length s) 0 in
    let none : ℕ = 0 in
    record {
      same_length = corner_long s sub i cut in_grid ∙ sym n;
      starts = λ k lt. omega (arith, get_or-replicate (length s) k none none (omega arith));
      ends = λ k lt.
          let below : k < length s = omega arith in
          let at = corner_at s sub i k cut in_grid below in
          omega (arith, at.value, at.below, get_or-replicate (length s) k none none below);
    }

-- the box of the chunk has its positions at their places
pub holds_chunk : (s p : List ℕ) → InShape s p → Holds (box_at_origin s) p
holds_chunk [] [] is = refl
holds_chunk [] (i ∷ p) is = absurd is
holds_chunk (n ∷ s) [] is = absurd is
holds_chunk (n ∷ s) (i ∷ p) is =
    and_from (in_range 0 n i) (is_within (replicate (length s) 0) s p)
    (and_from (nat_le 0 i) (nat_lt i (0 + n)) (le-leb 0 i (omega arith)) (lt-ltb i (0 + n) (let lt : i < n = is.0 in omega arith)))
    (holds_chunk s p is.1)

from_origin : (s p : List ℕ) → InShape s p → offset_from (replicate (length s) 0) p ≡ p
from_origin [] [] is = refl
from_origin [] (i ∷ p) is = absurd is
from_origin (n ∷ s) [] is = absurd is
from_origin (n ∷ s) (i ∷ p) is =
    let same : i - 0 ≡ i = omega arith in
    ap (λ x. x ∷ offset_from (replicate (length s) 0) p) same ∙ ap (λ l. i ∷ l) (from_origin s p is.1)

pub place_in_chunk : (s p : List ℕ) → InShape s p → place_in (box_at_origin s) p ≡ place s p
place_in_chunk s p is = ap (place s) (from_origin s p is)

-- the box of a subchunk has its positions at their places
pub holds_own : (s sub i q : List ℕ) → is_cut_by s sub ≡ true → InShape (quotients s sub) i → InShape sub q → Holds (box_from (corner sub i) sub) (offset_by (corner sub i) q)
holds_own s sub i q cut in_grid in_part = in_box-offset_by (corner sub i) sub q (long_corner s sub i cut in_grid) in_part

pub place_in_own : (s sub i q : List ℕ) → is_cut_by s sub ≡ true → InShape (quotients s sub) i → InShape sub q → place_in (box_from (corner sub i) sub) (offset_by (corner sub i) q) ≡ place sub q
place_in_own s sub i q cut in_grid in_part = ap (place sub) (offset_from-by (corner sub i) sub q (long_corner s sub i cut in_grid) in_part)

-- it has no other positions
pub only_own : (s sub i p : List ℕ) → is_cut_by s sub ≡ true → InShape (quotients s sub) i → InShape s p → Holds (box_from (corner sub i) sub) p → quotients p sub ≡ i
only_own [] [] [] [] cut in_grid inside within = refl
only_own [] [] (i ∷ rest) p cut in_grid inside within = absurd in_grid
only_own [] [] [] (x ∷ p) cut in_grid inside within = absurd inside
only_own [] (c ∷ sub) i p cut in_grid inside within = absurd (false≢true cut)
only_own (n ∷ s) [] i p cut in_grid inside within = absurd (false≢true cut)
only_own (n ∷ s) (c ∷ sub) [] p cut in_grid inside within = absurd in_grid
only_own (n ∷ s) (c ∷ sub) (i ∷ is) [] cut in_grid inside within = absurd inside
only_own (n ∷ s) (c ∷ sub) (i ∷ is) (x ∷ p) cut in_grid inside within =
    let outer = and_parts (nat_lt 0 c && eqb (n % c) 0) (is_cut_by s sub) cut in
    let w = and_parts (in_range (i * c) c x) (is_within (corner sub is) sub p) within in
    let r = and_parts (nat_le (i * c) x) (nat_lt x (i * c + c)) w.0 in
    let le : i * c ≤ x = leb-true (i * c) x r.0 in
    let lt : x < i * c + c = ltb-true x (i * c + c) r.1 in
    let at : i * c + (x - i * c) ≡ x = omega arith in
    let small : x - i * c < c = omega arith in
    let q : x / c ≡ i = ap (λ y. y / c) (sym at) ∙ div-mul-add i c (x - i * c) small in
    ap (λ y. y ∷ quotients p sub) q ∙ ap (λ l. i ∷ l) (only_own s sub is p outer.1 in_grid.1 inside.1 w.1)

-- the indices of the subchunk of this number
pub index_found : (g grid index : List ℕ) (n : ℕ) → grid ≡ g → MatchOption (Some index) (position_count grid ≤ n) (λ p. InShape grid p × (place grid p ≡ n)) → InShape g index × (index ≡ unravel g n)
index_found g grid index n same found =
    let in_grid : InShape g index = subst (λ x. InShape x index) same found.0 in
    (in_grid, sym (unravel-place g index in_grid) ∙ ap (unravel g) (ap (λ x. place x index) (sym same) ∙ found.1))

-- whether a box has a position
pub has_position-is : (shape : List ℕ) (b : Bool) → (IsTrue b ↔ SomeIndex shape (λ k. slice_index shape k ≡ 0)) → not b ≡ nat_lt 0 (position_count shape)
has_position-is shape true is = let z = is.0 refl in sym (ap (nat_lt 0) (count_zero shape z.0 z.1 z.2))
has_position-is shape false is = sym (lt-ltb 0 (position_count shape) (count_some shape (λ k lt z. false≢true (is.1 (k, lt, z)))))
