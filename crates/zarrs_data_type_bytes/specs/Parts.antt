-- Parts of data: the cells of a box, of data that is an array over another box.
use Rattle.std.specs.Prelude.{◌≡◌, ℕ, true, List, length, Some, if◌then◌else◌}
use Rattle.zarrs_subset.specs.Boxes.{position_count}
use Rattle.zarrs_subset.specs.Regions.{Box, Holds, in_box, place_in, cell_in, TakesPart}
use Rattle.zarrs_data_type_kinds.specs.Kind.{Kind}
use Rattle.zarrs_data_type_kinds.specs.Cell.{Cell}
use Rattle.zarrs_data_type_bytes.specs.ArrayData.{ArrayData}
use Rattle.zarrs_data_type_bytes.specs.Cells.{cells, fits, cell_at}

-- the new data has the cells of `part`, an array over `other`, at the positions of `box` that `other` has too, and
-- elsewhere the cells of the old data
pub record TakesCells (k : Kind) (box other : Box) (part old new : ArrayData) : Type 0 where
  pub given : List Cell
  pub held : List Cell
  pub made : List Cell
  pub part_is : cells k part ≡ Some given
  pub old_is : cells k old ≡ Some held
  pub new_is : cells k new ≡ Some made
  pub count : length made ≡ length held
  pub takes : TakesPart box other given held made

-- the new data has the cells that the old data, an array over `box`, has at the positions of `part`, in row-major order
pub record ExtractsCells (k : Kind) (box : Box) (old : ArrayData) (part : Box) (new : ArrayData) : Type 0 where
  pub held : List Cell
  pub made : List Cell
  pub old_is : cells k old ≡ Some held
  pub new_is : cells k new ≡ Some made
  pub count : length made ≡ position_count part.shape
  pub same : (position : List ℕ) → Holds part position → cell_in part made position ≡ cell_in box held position

-- ---- the same of what has the number i, level by level

-- what is new at a position of `box` is what `part` has there, if `other` has the position, and else what is old
abbrev pub TakesAt : {X : Type 0} → Box → Box → (ℕ → X) → (ℕ → X) → (ℕ → X) → Type 0
TakesAt box other part old new =
    (position : List ℕ) → Holds box position
    → new (place_in box position)
    ≡ (if in_box other position then part (place_in other position) else old (place_in box position))

-- what is new at a position of `part` is what is old there
abbrev pub ExtractsAt : {X : Type 0} → Box → (ℕ → X) → Box → (ℕ → X) → Type 0
ExtractsAt box old part new =
    (position : List ℕ) → Holds part position → new (place_in part position) ≡ old (place_in box position)

pub record TakesEach (k : Kind) (box other : Box) (part old new : ArrayData) : Type 0 where
  pub has_kind : fits k new (position_count box.shape) ≡ true
  pub each_cell : TakesAt box other (cell_at k part) (cell_at k old) (cell_at k new)

pub record ExtractsEach (k : Kind) (box : Box) (old : ArrayData) (part : Box) (new : ArrayData) : Type 0 where
  pub has_kind : fits k new (position_count part.shape) ≡ true
  pub each_cell : ExtractsAt box (cell_at k old) part (cell_at k new)
