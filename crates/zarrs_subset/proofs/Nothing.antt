-- Copies that have nothing to copy.
use Rattle.std.proofs.Common.{◌≡◌, ℕ, zero, suc, ◌+◌, ◌<◌, ◌≤◌, max, min, Bool, true, false, ◌&&◌, List, [], ◌∷◌}
use Rattle.std.proofs.Common.{length, get_or, slice_index, refl, ap, arith}
use Rattle.std.proofs.lemmas.Bool.{and_parts}
use Rattle.std.proofs.lemmas.Bool.Decides.{nat_tests}
use Rattle.zarrs_subset.specs.Boxes.{BoxFits, in_range, is_within}
use Rattle.zarrs_subset.specs.Cells.{BoxCopied}
use Rattle.zarrs_subset.proofs.Overlaps.{in_box-empty}

pub length_fits : (start extents shape : List ℕ) → BoxFits start extents shape → length start ≡ length extents
length_fits [] [] shape h = refl
length_fits [] (e ∷ extents) shape h = absurd h
length_fits (s ∷ start) [] shape h = absurd h
length_fits (s ∷ start) (e ∷ extents) [] h = absurd h
length_fits (s ∷ start) (e ∷ extents) (n ∷ shape) h = ap suc (length_fits start extents shape h.1)

-- a box with an extent 0
pub BoxCopied-zero : (size k : ℕ) (S F T U es from old : List ℕ) → k < length es → get_or es k 0 ≡ 0 → BoxFits U es T → BoxCopied size S F T U es from old old
BoxCopied-zero size k S F T U es from old below none fits p byte inside within =
    rw (in_box-empty U es p k (length_fits U es T fits) below none) refl

-- boxes with no index in common in dimension k
pub apart : (S X T Y p : List ℕ) (k : ℕ) → length S ≡ length X → length T ≡ length Y → length S ≡ length T → k < length X
    → min (slice_index S k + slice_index X k) (slice_index T k + slice_index Y k) ≤ max (slice_index S k) (slice_index T k)
    → is_within S X p ≡ true → is_within T Y p ≡ false
apart [] [] T Y p k longS longT long below ends inside = absurd (omega arith)
apart [] (x ∷ X) T Y p k longS longT long below ends inside = absurd (omega arith)
apart (s ∷ S) [] T Y p k longS longT long below ends inside = absurd (omega arith)
apart (s ∷ S) (x ∷ X) [] Y p k longS longT long below ends inside = absurd (omega arith)
apart (s ∷ S) (x ∷ X) (t ∷ T) [] p k longS longT long below ends inside = absurd (omega arith)
apart (s ∷ S) (x ∷ X) (t ∷ T) (y ∷ Y) [] k longS longT long below ends inside = refl
apart (s ∷ S) (x ∷ X) (t ∷ T) (y ∷ Y) (i ∷ p) zero longS longT long below ends inside =
    let parts = and_parts (in_range s x i) (is_within S X p) inside in
    rw (out s x t y i ends parts.0) refl
  where
    out : (s x t y i : ℕ) → min (s + x) (t + y) ≤ max s t → in_range s x i ≡ true → in_range t y i ≡ false
    out s x t y i ends inside = grind (arith, nat_tests)
apart (s ∷ S) (x ∷ X) (t ∷ T) (y ∷ Y) (i ∷ p) (suc k) longS longT long below ends inside =
    let parts = and_parts (in_range s x i) (is_within S X p) inside in
    and_second (in_range t y i) (is_within T Y p) (apart S X T Y p k (omega arith) (omega arith) (omega arith) (omega arith) ends parts.1)
  where
    and_second : (a b : Bool) → b ≡ false → (a && b) ≡ false
    and_second true b h = h
    and_second false b h = refl
