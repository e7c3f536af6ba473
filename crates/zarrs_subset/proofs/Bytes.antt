-- Cells of one byte.
use Rattle.std.proofs.Common.{◌≡◌, ℕ, zero, suc, ◌+◌, ◌*◌, ◌<◌, ◌≤◌, true, List, [], ◌∷◌, length, get_or, slice_index}
use Rattle.std.proofs.Common.{slice_get, Some, nat_le, nat_lt, refl, sym, ap, ◌∙◌, arith}
use Rattle.std.proofs.lemmas.Option.{slice_get-get_or}
use Rattle.std.proofs.lemmas.Bool.{and_parts, and_from, ltb-true, leb-true, lt-ltb, le-leb, false≢true}
use Rattle.zarrs_subset.specs.Boxes.{position_count, in_range, is_within, offset_from}
use Rattle.zarrs_subset.specs.Pieces.{piece_at}
use Rattle.zarrs_subset.specs.Regions.{Box, IsLong, Holds, InBox, place_in}
use Rattle.zarrs_subset.proofs.Kernel.{get_or-part, place_below}
use Rattle.zarrs_subset.proofs.Positions.{offset_from-in}

-- equal cells of one byte are equal bytes
pub byte_of : (a b : List ℕ) (j k : ℕ) → j < length a → k < length b → piece_at 1 a j ≡ piece_at 1 b k → slice_get a j ≡ slice_get b k
byte_of a b j k h i e =
    let first = get_or-part (j * 1) (j * 1 + 1) 0 a (omega arith) in
    let second = get_or-part (k * 1) (k * 1 + 1) 0 b (omega arith) in
    let j_is : j * 1 + 0 ≡ j = omega arith in
    let k_is : k * 1 + 0 ≡ k = omega arith in
    slice_get-get_or a j 0 h
    ∙ ap (λ x. Some x) (ap (λ n. get_or a n 0) (sym j_is) ∙ sym first ∙ ap (λ xs. get_or xs 0 0) e ∙ second ∙ ap (λ n. get_or b n 0) k_is)
    ∙ sym (slice_get-get_or b k 0 i)

-- a place is below the number of positions
pub place_in_below : (box : Box) (position : List ℕ) → IsLong box → Holds box position → place_in box position < position_count box.shape
place_in_below box position long holds = place_below box.shape (offset_from box.start position) (offset_from-in box.start box.shape position long holds)

in_box_along : (start shape position : List ℕ) → length start ≡ length shape → is_within start shape position ≡ true
    → (length position ≡ length start)
    × ((k : ℕ) → k < length start → (slice_index start k ≤ slice_index position k) × (slice_index position k < slice_index start k + slice_index shape k))
in_box_along [] shape [] l h = (refl, λ k below. absurd (omega arith))
in_box_along [] shape (i ∷ p) l h = absurd (false≢true h)
in_box_along (s ∷ start) [] p l h = absurd (omega arith)
in_box_along (s ∷ start) (e ∷ shape) [] l h = absurd (false≢true h)
in_box_along (s ∷ start) (e ∷ shape) (i ∷ p) l h =
    let parts = and_parts (in_range s e i) (is_within start shape p) h in
    let tests = and_parts (nat_le s i) (nat_lt i (s + e)) parts.0 in
    let low : s ≤ i = leb-true s i tests.0 in
    let high : i < s + e = ltb-true i (s + e) tests.1 in
    let rest = in_box_along start shape p (omega arith) parts.1 in
    (omega (arith, rest.0), at s e i start shape p low high rest.1)
  where
    at : (s e i : ℕ) (start shape p : List ℕ) → s ≤ i → i < s + e
        → ((k : ℕ) → k < length start → (slice_index start k ≤ slice_index p k) × (slice_index p k < slice_index start k + slice_index shape k))
        → (k : ℕ) → k < length (s ∷ start) → (slice_index (s ∷ start) k ≤ slice_index (i ∷ p) k) × (slice_index (i ∷ p) k < slice_index (s ∷ start) k + slice_index (e ∷ shape) k)
    at s e i start shape p low high rest zero below = (low, high)
    at s e i start shape p low high rest (suc k) below = rest k (omega arith)

-- a position of a box, one dimension at a time
pub holds_along : (box : Box) (position : List ℕ) → IsLong box → Holds box position → InBox box position
holds_along box position long holds =
    let all = in_box_along box.start box.shape position long holds in
    record { same_length = all.0; from = λ k below. (all.1 k below).0; below = λ k below. (all.1 k below).1 }

in_box_from : (start shape position : List ℕ) → length start ≡ length shape → length position ≡ length start
    → ((k : ℕ) → k < length start → slice_index start k ≤ slice_index position k)
    → ((k : ℕ) → k < length start → slice_index position k < slice_index start k + slice_index shape k) → is_within start shape position ≡ true
in_box_from [] shape [] l m from below = refl
in_box_from [] shape (i ∷ p) l m from below = absurd (omega arith)
in_box_from (s ∷ start) [] p l m from below = absurd (omega arith)
in_box_from (s ∷ start) (e ∷ shape) [] l m from below = absurd (omega arith)
in_box_from (s ∷ start) (e ∷ shape) (i ∷ p) l m from below =
    let low : s ≤ i = from zero (omega arith) in
    let high : i < s + e = below zero (omega arith) in
    and_from (in_range s e i) (is_within start shape p)
    (and_from (nat_le s i) (nat_lt i (s + e)) (le-leb s i low) (lt-ltb i (s + e) high))
    (in_box_from start shape p (omega arith) (omega arith) (λ k h. from (suc k) (omega arith)) (λ k h. below (suc k) (omega arith)))

pub along_holds : (box : Box) (position : List ℕ) → IsLong box → InBox box position → Holds box position
along_holds box position long inside = in_box_from box.start box.shape position long inside.same_length inside.from inside.below
