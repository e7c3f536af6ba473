-- What the copy of a box says of a part that is written to its place in a parent.
use Rattle.std.proofs.Common.{◌≡◌, ℕ, zero, suc, ◌+◌, ◌-◌, ◌<◌, ◌≤◌, nat_le, nat_lt, List, [], ◌∷◌, length, replicate, slice_index, refl, sym, ap, ◌∙◌, arith}
use Rattle.std.proofs.lemmas.Bool.{and_parts, ltb-true, false≢true}
use Rattle.zarrs_subset.specs.Boxes.{BoxFits, InShape, in_range, is_within, moved, offset_from, place}
use Rattle.zarrs_subset.specs.Cells.{CellsCopied}
use Rattle.zarrs_subset.specs.Pieces.{piece_at}
use Rattle.zarrs_subset.specs.Regions.{Box, Holds, box_at_origin, place_in}
use Rattle.zarrs_data_type_bytes.specs.Parts.{TakesAt}

-- ---- positions of the parent

pub in_parent : (shape p : List ℕ) → Holds (box_at_origin shape) p → InShape shape p
in_parent [] [] h = tt
in_parent [] (i ∷ p) h = absurd (false≢true h)
in_parent (n ∷ shape) [] h = absurd (false≢true h)
in_parent (n ∷ shape) (i ∷ p) h =
    let parts = and_parts (in_range 0 n i) (is_within (replicate (length shape) 0) shape p) h in
    let tests = and_parts (nat_le 0 i) (nat_lt i (0 + n)) parts.0 in
    let below : i < 0 + n = ltb-true i (0 + n) tests.1 in
    (omega arith, in_parent shape p parts.1)

from_parent : (shape p : List ℕ) → InShape shape p → offset_from (replicate (length shape) 0) p ≡ p
from_parent [] [] is = refl
from_parent [] (i ∷ p) is = absurd is
from_parent (n ∷ shape) [] is = absurd is
from_parent (n ∷ shape) (i ∷ p) is =
    let same : i - 0 ≡ i = omega arith in
    ap (λ x. x ∷ offset_from (replicate (length shape) 0) p) same ∙ ap (λ l. i ∷ l) (from_parent shape p is.1)

pub place_in_parent : (shape p : List ℕ) → InShape shape p → place_in (box_at_origin shape) p ≡ place shape p
place_in_parent shape p is = ap (place shape) (from_parent shape p is)

moved_to_origin : (start p : List ℕ) → moved start (replicate (length start) 0) p ≡ offset_from start p
moved_to_origin [] p = refl
moved_to_origin (s ∷ start) [] = refl
moved_to_origin (s ∷ start) (i ∷ p) =
    let same : 0 + (i - s) ≡ i - s = omega arith in
    ap (λ x. x ∷ moved start (replicate (length start) 0) p) same ∙ ap (λ l. (i - s) ∷ l) (moved_to_origin start p)

-- ---- boxes that fit

pub fits_parent : (start extents shape : List ℕ) → length start ≡ length extents → length start ≡ length shape
    → ((k : ℕ) → k < length shape → slice_index start k + slice_index extents k ≤ slice_index shape k) → BoxFits start extents shape
fits_parent [] [] [] long dimensions ends = tt
fits_parent [] [] (n ∷ shape) long dimensions ends = absurd (omega arith)
fits_parent [] (e ∷ extents) shape long dimensions ends = absurd (omega arith)
fits_parent (s ∷ start) [] shape long dimensions ends = absurd (omega arith)
fits_parent (s ∷ start) (e ∷ extents) [] long dimensions ends = absurd (omega arith)
fits_parent (s ∷ start) (e ∷ extents) (n ∷ shape) long dimensions ends =
    (ends zero (omega arith), fits_parent start extents shape (omega arith) (omega arith) (λ k below. ends (suc k) (omega arith)))

pub fits_own : (extents : List ℕ) → BoxFits (replicate (length extents) 0) extents extents
fits_own [] = tt
fits_own (e ∷ extents) = (omega arith, fits_own extents)

-- ---- what is written

pub copied_part : (size : ℕ) (region : Box) (shape part old new : List ℕ) → length region.start ≡ length shape
    → CellsCopied size region.shape (replicate (length shape) 0) shape region.start region.shape part old new
    → TakesAt (box_at_origin shape) region (piece_at size part) (piece_at size old) (piece_at size new)
copied_part size region shape part old new dimensions copied = λ position holds.
    let inside = in_parent shape position holds in
    let there : moved region.start (replicate (length shape) 0) position ≡ offset_from region.start position =
    ap (λ n. moved region.start (replicate n 0) position) (sym dimensions) ∙ moved_to_origin region.start position in
    rw (place_in_parent shape position inside, sym there) (copied position inside)
