-- Regions that are cut along a dimension.
use Rattle.std.specs.Prelude.{◌≡◌, ◌<◌, ◌≤◌, ℕ, List, length, slice_index}
use Rattle.zarrs_subset.specs.Regions.{Box}

-- the extents before this one are 1
abbrev pub AreOnes : List ℕ → ℕ → Type 0
AreOnes shape axis = (k : ℕ) → k < axis → slice_index shape k ≡ 1

-- no extent is 0
abbrev pub IsFull : Box → Type 0
IsFull box = (k : ℕ) → k < length box.shape → slice_index box.shape k ≡ 0 → ⊥

-- the box may be cut along the axis after so many rows, so that its positions stay in order
pub record IsCut (box : Box) (axis rows : ℕ) : Type 0 where
  pub ones : AreOnes box.shape axis
  pub inside : axis < length box.start
  pub some : 1 ≤ rows
  pub fewer : rows < slice_index box.shape axis
