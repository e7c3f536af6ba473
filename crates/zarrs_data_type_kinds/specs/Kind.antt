-- Data types, whichever boxes hold their parts.
use Rattle.std.specs.Prelude.{ℕ, Bool, true, false, Option, None, Some}
use Rattle.std.specs.Int.NonZero.{non_zero_usize_get}
use Rattle.zarrs_data_type_kinds.specs.declared.data_type.DataType.{DataType}
use Rattle.zarrs_data_type_kinds.specs.declared.data_type.DataType as ty

-- a data type: `raw` has the size of a cell in bytes, `optional` the inner type
pub data Kind : Type 0 where
  bool : Kind
  int8 : Kind
  int16 : Kind
  int32 : Kind
  int64 : Kind
  uint8 : Kind
  uint16 : Kind
  uint32 : Kind
  uint64 : Kind
  raw : ℕ → Kind
  string : Kind
  bytes : Kind
  optional : Kind → Kind

-- the data type that a value of the code stands for
abbrev pub kind : DataType → Kind
kind ty.Bool = bool
kind ty.Int8 = int8
kind ty.Int16 = int16
kind ty.Int32 = int32
kind ty.Int64 = int64
kind ty.UInt8 = uint8
kind ty.UInt16 = uint16
kind ty.UInt32 = uint32
kind ty.UInt64 = uint64
kind (ty.Raw size) = raw (non_zero_usize_get size)
kind ty.String = string
kind ty.Bytes = bytes
kind (ty.Optional' p inner) = optional (kind inner)

-- the size of a cell of a type that is fixed and not optional
abbrev pub element_size : Kind → Option ℕ
element_size bool = Some 1
element_size int8 = Some 1
element_size int16 = Some 2
element_size int32 = Some 4
element_size int64 = Some 8
element_size uint8 = Some 1
element_size uint16 = Some 2
element_size uint32 = Some 4
element_size uint64 = Some 8
element_size (raw size) = Some size
element_size string = None
element_size bytes = None
element_size (optional inner) = None

-- the same, and of an optional type that of its inner type
abbrev pub fixed_size : Kind → Option ℕ
fixed_size (optional inner) = fixed_size inner
fixed_size k = element_size k

-- the least number of bytes that a cell takes in memory: a text may be empty, but has an offset
abbrev pub cell_size : Kind → ℕ
cell_size (optional inner) = cell_size inner
cell_size k = elim (element_size k) [ None ↦ 1 | Some size ↦ size ]

-- whether the type is string or bytes
abbrev pub is_variable : Kind → Bool
is_variable string = true
is_variable bytes = true
is_variable _ = false

-- the inner type of an optional type
abbrev pub inner_of : Kind → Option Kind
inner_of (optional inner) = Some inner
inner_of _ = None
