-- The cells that array bytes stand for.
use Rattle.std.specs.Prelude.{◌≡◌, ℕ, ◌+◌, ◌*◌, ◌/◌, Bool, true, false, Option, None, Some, List, [], map, length, ◌==◌}
use Rattle.std.specs.Prelude.{◌&&◌, slice_index, slice_index_or, slice_range, if◌then◌else◌, IsSomeAnd, ◌<◌, IsTrue}
use Rattle.std.specs.Prelude.{All}
use Rattle.std.specs.List.{range_with_len}
use Rattle.zarrs_data_type_kinds.specs.Kind.{Kind, element_size, is_variable, inner_of}
use Rattle.zarrs_data_type_kinds.specs.Cell.{Cell, bytes, none, some, are_values}
use Rattle.zarrs_data_type_bytes.specs.ArrayData.{ArrayData, fixed, variable, optional}

-- whether the data is of the type's kind and has n cells, at each level
abbrev pub fits : Kind → ArrayData → ℕ → Bool
fits k (fixed b) n = elim (element_size k) [ None ↦ false | Some size ↦ length b == n * size ]
fits k (variable texts) n = is_variable k && (length texts == n)
fits k (optional mask inner) n = elim (inner_of k) [ None ↦ false | Some u ↦ (length mask == n) && fits u inner n ]

-- the number of cells of data that fits
abbrev pub count_of : Kind → ArrayData → ℕ
count_of k (fixed b) = elim (element_size k) [ None ↦ 0 | Some size ↦ length b / size ]
count_of k (variable texts) = length texts
count_of k (optional mask inner) = length mask

-- the cell of number i: a slice of the fixed size, a byte string, or by the mask none or some of the inner cell
abbrev pub cell_at : Kind → ArrayData → ℕ → Cell
cell_at k (fixed b) i = elim (element_size k) [ None ↦ none | Some size ↦ bytes (slice_range b (i * size) (i * size + size)) ]
cell_at k (variable texts) i = bytes (slice_index_or texts i [])
cell_at k (optional mask inner) i =
    if slice_index mask i == 0 then none
    else elim (inner_of k) [ None ↦ none | Some u ↦ some (cell_at u inner i) ]

-- the cells that data stands for: nothing if it is of another kind, a mask has another length, or a cell is no value of
-- the type
abbrev pub cells : Kind → ArrayData → Option (List Cell)
cells k d =
    let cs = map (λ i. cell_at k d i) (range_with_len 0 (count_of k d)) in
    if fits k d (count_of k d) && are_values k cs then Some cs else None

-- the data stands for n cells
abbrev pub HasCells : Kind → ArrayData → ℕ → Type 0
HasCells k d n = IsSomeAnd (cells k d) (λ cs. length cs ≡ n)

-- each of the first n cells is this one
abbrev pub AreAllCells : Kind → ArrayData → ℕ → Cell → Type 0
AreAllCells k d n c = (i : ℕ) → i < n → cell_at k d i ≡ c

-- each byte string is this one
abbrev pub AreAllStrings : List (List ℕ) → List ℕ → Type 0
AreAllStrings strings string = (i : ℕ) → i < length strings → slice_index_or strings i [] ≡ string

-- there is a cell of number i, of data that fits
abbrev pub HasCellAt : Kind → ArrayData → ℕ → Type 0
HasCellAt k d i = (n : ℕ) × (i < n) × IsTrue (fits k d n)

-- data of n cells, each of which is this one
pub record IsFilled (k : Kind) (d : ArrayData) (n : ℕ) (c : Cell) : Type 0 where
  pub has_kind : fits k d n ≡ true
  pub each_cell : AreAllCells k d n c

-- the cells at these places can be taken
abbrev pub CanSelect : Kind → ArrayData → List ℕ → Type 0
CanSelect k d places = (n : ℕ) × IsTrue (fits k d n) × All (λ p. p < n) places

-- the new data has the old one's cells at these places, in their order
pub record IsSelection (k : Kind) (new old : ArrayData) (places : List ℕ) : Type 0 where
  pub has_kind : fits k new (length places) ≡ true
  pub each_cell : (i : ℕ) → i < length places → cell_at k new i ≡ cell_at k old (slice_index places i)
