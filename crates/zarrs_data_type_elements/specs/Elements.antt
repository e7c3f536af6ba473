-- Why values of Rust and cells are refused.
use Rattle.std.specs.Prelude.{◌≡◌, ℕ, Bool, true, false, List, Option, None, Some}
use Rattle.zarrs_data_type_kinds.specs.Cell.{Cell, none, some, takes_any_bytes}
use Rattle.zarrs_data_type_kinds.specs.Kind.{Kind, element_size, inner_of}
use Rattle.zarrs_data_type_elements.specs.declared.error.ElementError.{ElementError}
use Rattle.zarrs_data_type_elements.specs.declared.error.ElementError.TheVariants.{IncompatibleElementType, OutOfMemory}

-- the values are not those of the data type
abbrev pub RefusesElement : Bool → ElementError → Type 0
RefusesElement served IncompatibleElementType = served ≡ false
RefusesElement served OutOfMemory = Unit {0}

-- the values are not those of the data type, or the data has no cells of it
abbrev pub RefusesCells : Bool → Option (List Cell) → ElementError → Type 0
RefusesCells served cs IncompatibleElementType = served ≡ true → cs ≡ None
RefusesCells served cs OutOfMemory = Unit {0}

-- the cell of a value that may be absent: none, or some of the value's cell
abbrev pub option_cell : {T : Type 0} → (T → Cell) → Option T → Cell
option_cell cell None = none
option_cell cell (Some x) = some (cell x)

-- the type is optional, and any bytes of this size are a value of its inner type
abbrev pub HoldsOptions : Kind → ℕ → Type 0
HoldsOptions k size = (u : Kind) × (inner_of k ≡ Some u) × (element_size u ≡ Some size) × (takes_any_bytes u ≡ true)
