-- What array bytes hold, whoever owns the bytes.
use Rattle.std.specs.Prelude.{ℕ, List, Bool, true, false}
use Rattle.std.specs.Cow.{cow_slice_items}
use Rattle.zarrs_data_type_bytes.specs.declared.array_bytes.ArrayBytes.{ArrayBytes}
use Rattle.zarrs_data_type_bytes.specs.declared.array_bytes.ArrayBytes as held
use Rattle.zarrs_data_type_bytes.specs.declared.array_bytes.ArrayBytesOptional.{ArrayBytesOptional}

-- bytes one after another, a list of byte strings, or a mask, a byte a cell, over inner data
pub data ArrayData : Type 0 where
  fixed : List ℕ → ArrayData
  variable : List (List ℕ) → ArrayData
  optional : List ℕ → ArrayData → ArrayData

-- what a value of the code holds
abbrev pub data_of : ArrayBytes → ArrayData
data_of (held.Fixed b) = fixed (cow_slice_items b)
data_of (held.Variable strings) = variable strings
data_of (held.Optional' p inner mask) = optional mask (data_of inner)

-- the mask and the inner data of a value of the code
abbrev pub mask_of : ArrayBytesOptional → List ℕ
mask_of held = held.mask

abbrev pub inner_data : ArrayBytesOptional → ArrayData
inner_data held = data_of held.data.value

-- what it holds
abbrev pub optional_data : ArrayBytesOptional → ArrayData
optional_data held = optional (mask_of held) (inner_data held)

-- which of the three the data is
abbrev pub is_fixed_data : ArrayData → Bool
is_fixed_data (fixed b) = true
is_fixed_data _ = false

abbrev pub is_variable_data : ArrayData → Bool
is_variable_data (variable strings) = true
is_variable_data _ = false

abbrev pub is_optional_data : ArrayData → Bool
is_optional_data (optional mask inner) = true
is_optional_data _ = false
