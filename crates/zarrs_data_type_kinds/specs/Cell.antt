-- Cells, and which of them are values of a type.
use Rattle.std.specs.Prelude.{ℕ, ◌-◌, Bool, true, false, Option, None, Some, List, [], ◌∷◌, ◌++◌, length, take, ◌==◌}
use Rattle.std.specs.Prelude.{◌&&◌, nat_lt, max, slice_index, is_some, option_map, unwrap_or, if◌then◌else◌}
use Rattle.std.specs.List.{list_all}
use Rattle.std.specs.Str.{is_utf8, bytes_eq}
use Rattle.zarrs_data_type_kinds.specs.Kind.{Kind, element_size, cell_size, inner_of}
use Rattle.zarrs_data_type_kinds.specs.Kind as type

-- bytes, or for an optional type none, or some of an inner cell
pub data Cell : Type 0 where
  bytes : List ℕ → Cell
  none : Cell
  some : Cell → Cell

-- whether these bytes are a cell of a type that is not optional
abbrev pub is_element : Kind → List ℕ → Bool
is_element type.bool b = (length b == 1) && nat_lt (slice_index b 0) 2
is_element type.string b = is_utf8 b
is_element type.bytes b = true
is_element k b = elim (element_size k) [ None ↦ false | Some size ↦ length b == size ]

-- whether any bytes of the size of a cell are a cell of the type, or of its inner type
abbrev pub takes_any_bytes : Kind → Bool
takes_any_bytes type.bool = false
takes_any_bytes type.string = false
takes_any_bytes (type.optional inner) = takes_any_bytes inner
takes_any_bytes _ = true

-- whether the cell is a value of the type
abbrev pub is_value : Kind → Cell → Bool
is_value k (bytes b) = is_element k b
is_value k none = is_some (inner_of k)
is_value k (some c) = elim (inner_of k) [ None ↦ false | Some inner ↦ is_value inner c ]

-- whether each cell is a value of the type
abbrev pub are_values : Kind → List Cell → Bool
are_values k cs = list_all (λ c. is_value k c) cs

-- the cells, if each is a value of the type
abbrev pub values_only : Kind → List Cell → Option (List Cell)
values_only k cs = if are_values k cs then Some cs else None

-- whether a cell of the type may hold each of these bytes: for bool 0 and 1
abbrev pub may_hold : Kind → List ℕ → Bool
may_hold type.bool b = list_all (λ x. nat_lt x 2) b
may_hold _ b = true

-- whether two cells are the same
abbrev pub cell_eq : Cell → Cell → Bool
cell_eq (bytes a) (bytes b) = bytes_eq a b
cell_eq (bytes a) none = false
cell_eq (bytes a) (some d) = false
cell_eq none (bytes b) = false
cell_eq none none = true
cell_eq none (some d) = false
cell_eq (some c) (bytes b) = false
cell_eq (some c) none = false
cell_eq (some c) (some d) = cell_eq c d

-- the bytes before a last byte 1: in a fill value of an optional type, those of the inner cell
abbrev pub inner_fill : List ℕ → Option (List ℕ)
inner_fill f =
    if nat_lt 0 (length f) && (slice_index f (length f - 1) == 1) then Some (take (length f - 1) f)
    else None

-- the cell of these bytes of a fill value: for an optional type the inner bytes and then 1 are some, and the one byte 0
-- is none
abbrev pub fill_cell : Kind → List ℕ → Option Cell
fill_cell (type.optional inner) f = elim (inner_fill f) [
  | None ↦ if bytes_eq f (0 ∷ []) then Some none else None
  | Some front ↦ option_map some (fill_cell inner front)
]
fill_cell k f = if is_element k f then Some (bytes f) else None

-- the cell of the bytes of a fill value of the type
abbrev pub fill_of : Kind → List ℕ → Cell
fill_of k f = unwrap_or (fill_cell k f) none

-- the bytes of the fill value that is this cell
abbrev pub fill_bytes : Cell → List ℕ
fill_bytes (bytes b) = b
fill_bytes none = 0 ∷ []
fill_bytes (some c) = fill_bytes c ++ 1 ∷ []

-- the number of bytes that a cell takes in memory: its own, and not fewer than the least of the type
abbrev pub held_size : Kind → Cell → ℕ
held_size k (bytes b) = max (cell_size k) (length b)
held_size k none = cell_size k
held_size k (some c) = held_size k c
