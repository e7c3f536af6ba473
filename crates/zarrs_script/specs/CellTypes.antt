-- The types of the cells of a script's arrays.
use Rattle.std.specs.Prelude.{ℕ, Bool, true, false, if◌then◌else◌, List, codes, Option, Some, None}
use Rattle.std.specs.Str.{bytes_eq}
use Rattle.zarrs_data_type.specs.Kind.{Kind, bool, int8, int16, int32, int64, uint8, uint16, uint32, uint64}
use Rattle.zarrs_script.specs.declared.cell_type.CellType.{CellType}
use Rattle.zarrs_script.specs.declared.cell_type.CellType.TheVariants as cell

-- the data type of the cells
abbrev pub kind_of_cells : CellType → Kind
kind_of_cells cell.Bool = bool
kind_of_cells cell.Int8 = int8
kind_of_cells cell.Int16 = int16
kind_of_cells cell.Int32 = int32
kind_of_cells cell.Int64 = int64
kind_of_cells cell.UInt8 = uint8
kind_of_cells cell.UInt16 = uint16
kind_of_cells cell.UInt32 = uint32
kind_of_cells cell.UInt64 = uint64

-- the type of a name
unfoldable pub type_of : List ℕ → Option CellType
type_of word =
    if bytes_eq word (codes "bool") then Some cell.Bool
    else if bytes_eq word (codes "int8") then Some cell.Int8
    else if bytes_eq word (codes "int16") then Some cell.Int16
    else if bytes_eq word (codes "int32") then Some cell.Int32
    else if bytes_eq word (codes "int64") then Some cell.Int64
    else if bytes_eq word (codes "uint8") then Some cell.UInt8
    else if bytes_eq word (codes "uint16") then Some cell.UInt16
    else if bytes_eq word (codes "uint32") then Some cell.UInt32
    else if bytes_eq word (codes "uint64") then Some cell.UInt64
    else None

-- the size of a cell in bytes
abbrev pub cell_type_size : CellType → ℕ
cell_type_size cell.Bool = 1
cell_type_size cell.Int8 = 1
cell_type_size cell.Int16 = 2
cell_type_size cell.Int32 = 4
cell_type_size cell.Int64 = 8
cell_type_size cell.UInt8 = 1
cell_type_size cell.UInt16 = 2
cell_type_size cell.UInt32 = 4
cell_type_size cell.UInt64 = 8

-- the greatest number of the type
abbrev pub greatest : CellType → ℕ
greatest cell.Bool = 1
greatest cell.Int8 = 127
greatest cell.Int16 = 32767
greatest cell.Int32 = 2147483647
greatest cell.Int64 = 9223372036854775807
greatest cell.UInt8 = 255
greatest cell.UInt16 = 65535
greatest cell.UInt32 = 4294967295
greatest cell.UInt64 = 18446744073709551615

-- the type has the numbers from - greatest - 1; the others begin at 0
abbrev pub is_signed : CellType → Bool
is_signed cell.Int8 = true
is_signed cell.Int16 = true
is_signed cell.Int32 = true
is_signed cell.Int64 = true
is_signed _ = false
