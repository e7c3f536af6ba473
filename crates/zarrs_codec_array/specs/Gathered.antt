-- Cells taken in another order.
use Rattle.std.specs.Prelude.{◌≡◌, ℕ, ◌+◌, ◌*◌, ◌<◌, ◌≤◌, true, Option, None, Some, List, [], ◌∷◌, length, slice_index}
use Rattle.std.specs.Prelude.{IfSome, if◌then◌else◌}
use Rattle.std.specs.List.{flat_map, range_with_len}
use Rattle.zarrs_data_type.specs.ArrayData.{ArrayData, data_of}
use Rattle.zarrs_data_type.specs.Cells.{fits, cell_at, cells}
use Rattle.zarrs_data_type.specs.Kind.{Kind}
use Rattle.zarrs_data_type_bytes.specs.declared.array_bytes.ArrayBytes.{ArrayBytes}
use Rattle.zarrs_subset.specs.Boxes.{position_count, InShape, place}
use Rattle.zarrs_codec_array.specs.Arrays.{ArrayMeaning}
use Rattle.zarrs_codec_array.specs.Orders.{dot_product, permuted, strides}

-- `to` is an array of this shape, of cells of `size` bytes: at each position q the `size` bytes of `from` at `start`
-- and q steps further
pub record IsGathered (size : ℕ) (shape steps : List ℕ) (start : ℕ) (from to : List ℕ) : Type 0 where
  pub same : (q : List ℕ) (k : ℕ) → InShape shape q → k < size
      → slice_index to (place shape q * size + k) ≡ slice_index from (start + dot_product steps q + k)

-- the `size` bytes at `start` and q steps further, for each position q of an array of this shape, are among `len` bytes
pub record AreWithin (size : ℕ) (shape steps : List ℕ) (start len : ℕ) : Type 0 where
  pub each : (q : List ℕ) → InShape shape q → start + dot_product steps q + size ≤ len

-- the first `done` columns of a table of so many rows and columns of cells of `size` bytes are gathered in `to`
pub record AreColumns (size rows columns row_step column_step start done : ℕ) (from to : List ℕ) : Type 0 where
  pub same : (i j k : ℕ) → i < rows → j < done → k < size
      → slice_index to ((i * columns + j) * size + k) ≡ slice_index from (start + i * row_step + j * column_step + k)

-- the number of steps to each position of an array of this shape, in row-major order
abbrev pub walked : List ℕ → List ℕ → ℕ → List ℕ
walked [] steps start = start ∷ []
walked (n ∷ shape) [] start = []
walked (n ∷ shape) (a ∷ steps) start = flat_map (λ i. walked shape steps (start + i * a)) (range_with_len 0 n)

-- dimension i of an array of the shape `target` is dimension `way[i]` of one of the shape `source`, with the same
-- number of cells
pub record IsWay (target source way : List ℕ) : Type 0 where
  pub some : 0 < position_count source
  pub same_count : position_count target ≡ position_count source
  pub same_length : length target ≡ length way
  pub below : (k : ℕ) → k < length way → slice_index way k < length source
  pub within : AreWithin 1 target (permuted way (strides source)) 0 (position_count source)

-- `made` is data of an array of this shape: at each position q the cell of `taken` of the number that is q steps
pub record IsTaken (k : Kind) (shape steps : List ℕ) (taken made : ArrayData) : Type 0 where
  pub fits : fits k made (position_count shape) ≡ true
  pub same : (q : List ℕ) → InShape shape q → cell_at k made (place shape q) ≡ cell_at k taken (dot_product steps q)

-- data that was made, or if none was the data it was to be made of
abbrev pub data_or : Option ArrayBytes → ArrayData → ArrayData
data_or None d = d
data_or (Some made) d = data_of made

-- what was made of data, if anything, is the encoded array
abbrev pub IsEncodedArray : ArrayMeaning → Kind → List ℕ → ArrayData → Option ArrayBytes → Type 0
IsEncodedArray m k s d made = IfSome (cells k d) (λ cs. cells k (data_or made d) ≡ Some (m.forward s cs))

-- what was made of data, if anything, is the decoded array
abbrev pub IsDecodedArray : ArrayMeaning → Kind → List ℕ → ArrayData → Option ArrayBytes → Type 0
IsDecodedArray m k s d made = IfSome (cells k d) (λ cs. cells k (data_or made d) ≡ Some (m.back s cs))

-- the shape of the encoded array, if the codec takes arrays of this shape
abbrev pub encoded_shape : ArrayMeaning → List ℕ → Option (List ℕ)
encoded_shape m s = if m.fits s then Some (m.shape s) else None
