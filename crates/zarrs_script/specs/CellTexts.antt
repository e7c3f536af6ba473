-- How the cells of a script's arrays are written.
use Rattle.std.specs.Prelude.{ℕ, zero, suc, ◌+◌, ◌-◌, ◌*◌, ◌/◌, ◌%◌, ◌^◌, ◌==◌, ◌&&◌, if◌then◌else◌}
use Rattle.std.specs.Prelude.{nat_lt, nat_le, List, [], ◌∷◌, ◌++◌, codes, decimal, Option, Some, None}
use Rattle.std.specs.List.{concat}
use Rattle.zarrs_data_type.specs.Cell.{Cell, fill_bytes}
use Rattle.zarrs_metadata_parts.specs.Extension.{◌>>=◌}
use Rattle.zarrs_script.specs.declared.cell_type.CellType.{CellType}
use Rattle.zarrs_script.specs.CellTypes.{cell_type_size, greatest, is_signed}
use Rattle.zarrs_script.specs.Words.{number_of, each_of, items_of}

-- the lowest bytes of a number, the lowest first
abbrev pub low_bytes : ℕ → ℕ → List ℕ
low_bytes zero n = []
low_bytes (suc count) n = n % 256 ∷ low_bytes count (n / 256)

-- the number of these bytes, the lowest first
abbrev pub value_of : List ℕ → ℕ
value_of [] = 0
value_of (b ∷ bytes) = b + value_of bytes * 256

-- ---- what a word says

-- the bytes of a number from 0, if the type has it
abbrev pub positive : CellType → ℕ → Option (List ℕ)
positive cell_type n = if nat_le n (greatest cell_type) then Some (low_bytes (cell_type_size cell_type) n) else None

-- the bytes of - n, if the type has it: two's complement
abbrev pub negative : CellType → ℕ → Option (List ℕ)
negative cell_type n =
    if is_signed cell_type && nat_le n (greatest cell_type + 1) then Some (low_bytes (cell_type_size cell_type) (2 ^ 64 - n)) else None

abbrev pub unsigned_cell : CellType → List ℕ → Option (List ℕ)
unsigned_cell cell_type digits = number_of digits >>= positive cell_type

abbrev pub signed_cell : CellType → List ℕ → Option (List ℕ)
signed_cell cell_type digits = number_of digits >>= negative cell_type

-- the bytes of the cell that a word writes: decimal digits, with `-` before them for a number below 0
unfoldable pub cell_of : CellType → List ℕ → Option (List ℕ)
cell_of cell_type [] = None
cell_of cell_type (b ∷ word) = if b == 45 then signed_cell cell_type word else unsigned_cell cell_type (b ∷ word)

-- the bytes of the cells of a list
abbrev pub joined_cells : Option (List (List ℕ)) → Option (List ℕ)
joined_cells None = None
joined_cells (Some cells) = Some (concat cells)

abbrev pub cells_of : CellType → List ℕ → Option (List ℕ)
cells_of cell_type word = joined_cells (each_of (cell_of cell_type) (items_of word))

-- ---- what is printed

-- the text of a cell of these bytes
abbrev pub number_text : CellType → List ℕ → List ℕ
number_text cell_type bytes =
    let n = value_of bytes in
    if is_signed cell_type && nat_lt (greatest cell_type) n then codes "-" ++ decimal (greatest cell_type * 2 + 2 - n) else decimal n

abbrev pub cell_text : CellType → Cell → List ℕ
cell_text cell_type cell = number_text cell_type (fill_bytes cell)
