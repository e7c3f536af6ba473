-- Lists of elements: the cells of data as values of Rust.
use Rattle.std.specs.Prelude.{◌≡◌, List, map, Some, Vec}
use Rattle.std.specs.declared.alloc.Global.{Global}
use Rattle.zarrs_data_type.specs.ArrayData.{ArrayData}
use Rattle.zarrs_data_type.specs.Cell.{Cell}
use Rattle.zarrs_data_type.specs.Cells.{cells}
use Rattle.zarrs_data_type.specs.Kind.{Kind}

module _ {T : Type 0} where
  -- the cells of the data are those of these elements
  abbrev pub GivesElements : (T → Cell) → List T → Kind → ArrayData → Type 0
  GivesElements cell elements k d = cells k d ≡ Some (map cell elements)

  -- the list has the elements whose cells the data has
  abbrev pub ReadsElements : (T → Cell) → Kind → ArrayData → Vec T Global → Type 0
  ReadsElements cell k d elements = GivesElements cell elements.items k d
