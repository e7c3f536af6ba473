-- Cells of one size as their bytes, which are written and read.
use Rattle.std.specs.Prelude.{◌≡◌, ◌⊎◌, ◌≤◌, ℕ, ◌*◌, ◌^◌, List, Option, Some, None, length}
use Rattle.std.specs.Io.KnownBytes.{Appends, Consumes}
use Rattle.zarrs_data_type.specs.ArrayData.{ArrayData, fixed}
use Rattle.zarrs_data_type.specs.Kind.{Kind, element_size}
use Rattle.zarrs_subset.specs.Boxes.{position_count}
use Rattle.zarr_cells.specs.declared.error.CellsError.{CellsError}
use Rattle.zarr_cells.specs.declared.error.CellsError.TheVariants.{SizeOverflow}

-- the bytes of the cells were written behind those that the writer held
pub record WritesRaw (held : ArrayData) (old new : Option (List ℕ)) : Type 0 where
  pub bytes : List ℕ
  pub are : held ≡ fixed bytes
  pub written : Appends old new bytes

-- the first bytes that the reader had are the cells, so many bytes
pub record ReadsRaw (size : ℕ) (held : ArrayData) (old new : Option (List ℕ)) : Type 0 where
  pub bytes : List ℕ
  pub are : held ≡ fixed bytes
  pub count : length bytes ≡ size
  pub read : Consumes old new bytes

-- the cells of an array of this shape have so many bytes
pub record HasRawSize (type : Kind) (shape : List ℕ) (bytes : ℕ) : Type 0 where
  pub size : ℕ
  pub is_size : element_size type ≡ Some size
  pub bytes_are : bytes ≡ position_count shape * size

-- there are more cells than 64 bits count, or they have more bytes
pub record HasLargeSize (type : Kind) (shape : List ℕ) (e : CellsError) : Type 0 where
  pub size : ℕ
  pub is_size : element_size type ≡ Some size
  pub is : e ≡ SizeOverflow
  pub large : (2 ^ 64 ≤ position_count shape) ⊎ (2 ^ 64 ≤ position_count shape * size)

-- the cells have no size of their own, or there are too many of them
abbrev pub RefusesRawSize : Kind → List ℕ → CellsError → Type 0
RefusesRawSize type shape e = (element_size type ≡ None) ⊎ HasLargeSize type shape e
