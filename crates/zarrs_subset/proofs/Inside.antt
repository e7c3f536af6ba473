-- Boxes that lie in others.
use Rattle.std.proofs.Common.{◌≡◌, ℕ, suc, ◌<◌, ◌≤◌, List, [], ◌∷◌, length, sym, ◌∙◌, arith}
use Rattle.std.specs.Prelude.{slice_index}
use Rattle.std.proofs.Math.Nat.{mul-le-mul_left, mul-le-mul_right}
use Rattle.zarrs_subset.specs.Boxes.{position_count}
use Rattle.zarrs_subset.specs.Regions.{Box, IsLong, Holds, LiesInBox}
use Rattle.zarrs_subset.proofs.Bytes.{holds_along, along_holds}

-- a position of a box that lies in another
pub holds_inside : (box other : Box) (position : List ℕ) → IsLong box → IsLong other → LiesInBox box other → Holds box position → Holds other position
holds_inside box other position long other_long inside holds =
    let at = holds_along box position long holds in
    along_holds other position other_long (record {
      same_length = at.same_length ∙ inside.same_length;
      from = λ k lt.
          let low = inside.starts k lt in
          let here = at.from k (omega (arith, inside.same_length)) in
          omega arith;
      below = λ k lt.
          let high = inside.ends k lt in
          let here = at.below k (omega (arith, inside.same_length)) in
          omega arith;
    })

-- lists of extents, one not above the other
count_within : (shape other : List ℕ) → length shape ≡ length other → ((k : ℕ) → k < length other → slice_index shape k ≤ slice_index other k) → position_count shape ≤ position_count other
count_within [] [] l each = omega arith
count_within [] (n ∷ other) l each = absurd (omega arith)
count_within (e ∷ shape) [] l each = absurd (omega arith)
count_within (e ∷ shape) (n ∷ other) l each =
    let first : e ≤ n = each 0 (omega arith) in
    let inner = count_within shape other (omega arith) (λ k lt. each (suc k) (omega arith)) in
    omega (arith, mul-le-mul_left e inner, mul-le-mul_right (position_count other) first)

-- it has no more positions
pub count_inside : (box other : Box) → IsLong box → IsLong other → LiesInBox box other → position_count box.shape ≤ position_count other.shape
count_inside box other long other_long inside =
    count_within box.shape other.shape (sym long ∙ inside.same_length ∙ other_long)
    (λ k lt.
    let low = inside.starts k (omega (arith, other_long)) in
    let high = inside.ends k (omega (arith, other_long)) in
    omega arith)
