-- What a read of a part of a chunk returns.
use Rattle.std.specs.Prelude.{◌≡◌, ℕ, List, length, Option, Some, true}
use Rattle.zarrs_data_type.specs.ArrayData.{ArrayData}
use Rattle.zarrs_data_type.specs.Cells.{cells, cell_at}
use Rattle.zarrs_subset.specs.Boxes.{offset_by, offset_from, position_count}
use Rattle.zarrs_subset.specs.Regions.{Box, Holds, box_at_origin, cell_in, place_in}
use Rattle.zarrs_data_type.specs.Cell.{Cell, is_value}
use Rattle.zarrs_data_type.specs.Kind.{Kind}

-- the cells `given` over the part are those that a chunk of this shape with the cells `whole` has there
abbrev pub IsPartOf : (shape : List ℕ) (part : Box) (whole given : List Cell) → Type 0
IsPartOf shape part whole given = (position : List ℕ) → Holds part position → cell_in part given position ≡ cell_in (box_at_origin shape) whole position

-- the data is one cell for each position of the part: if the chunk decodes, those that it has there
pub record DecodesPart (k : Kind) (shape : List ℕ) (part : Box) (decoded : Option (List Cell)) (made : ArrayData) : Type 0 where
  pub given : List Cell
  pub are_cells : cells k made ≡ Some given
  pub count : length given ≡ position_count part.shape
  pub same : (whole : List Cell) → decoded ≡ Some whole → IsPartOf shape part whole given

-- data over `box` has these cells at the positions of `other`
abbrev pub HasBoxCells : Kind → (box other : Box) → List Cell → ArrayData → Type 0
HasBoxCells k box other given held = (position : List ℕ) → Holds other position → Some (cell_at k held (place_in box position)) ≡ cell_in other given position

-- the chunk decodes, and data over `box` has its cells at the positions of `other`
pub record DecodesInto (k : Kind) (box other : Box) (decoded : Option (List Cell)) (held : ArrayData) : Type 0 where
  pub whole : List Cell
  pub decoded_is : decoded ≡ Some whole
  pub has : HasBoxCells k box other whole held

-- the cell is a value of the type, and if the chunk decodes, the one that it has at the position
pub record IsDecodedAt (k : Kind) (shape : List ℕ) (decoded : Option (List Cell)) (position : List ℕ) (cell : Cell) : Type 0 where
  pub value : is_value k cell ≡ true
  pub same : (whole : List Cell) → decoded ≡ Some whole → Some cell ≡ cell_in (box_at_origin shape) whole position

-- where in an array over `box` a position of the part lies, if the part's corner lies at that of `own`
abbrev pub place_at : (box own part : Box) (position : List ℕ) → ℕ
place_at box own part position = place_in box (offset_by own.start (offset_from part.start position))

-- data over `box` has a part of a chunk of this shape in the box `own`
abbrev pub DecodesPartAt : Kind → (shape : List ℕ) (part : Box) → Option (List Cell) → (box own : Box) → ArrayData → Type 0
DecodesPartAt k shape part decoded box own held =
    (position : List ℕ) → Holds part position → IsDecodedAt k shape decoded position (cell_at k held (place_at box own part position))
