-- Cells as text: a JSON list for each row, on a line of its own.
use Rattle.std.specs.Prelude.{◌≡◌, ◌==◌, ◌&&◌, ℕ, zero, suc, ◌+◌, ◌-◌, List, [], ◌∷◌, ◌++◌, Option, Some, None, Bool, IfSome}
use Rattle.std.specs.Prelude.{length, take, drop, slice_index, nat_lt, nat_le, if◌then◌else◌, option_and_then, option_map}
use Rattle.std.specs.List.{prefix_len, suffix_len}
use Rattle.std.specs.Char.{is_ascii_whitespace}
use Rattle.std.specs.Io.KnownBytes.{Appends}
use Rattle.std.specs.Io.BufRead.{take_through, drop_through}
use Rattle.zarr_cells.specs.declared.form.Form.{Form}
use Rattle.zarr_cells.specs.Numbers.{cell_in}

-- the text without the blanks that it begins with, without those that it ends with, and without both
abbrev pub trim_front : List ℕ → List ℕ
trim_front text = drop (prefix_len is_ascii_whitespace text) text

abbrev pub trim_back : List ℕ → List ℕ
trim_back text = take (length text - suffix_len is_ascii_whitespace text) text

abbrev pub trimmed : List ℕ → List ℕ
trimmed text = trim_back (trim_front text)

-- the byte that ends a cell's word: a comma, or the bracket behind the last cell of a row
abbrev pub closing : Bool → ℕ
closing is_last = if is_last then 93 else 44

-- the byte that ends what is read for a cell
abbrev pub ending : Bool → ℕ
ending is_last = if is_last then 10 else 44

-- what is written before a cell, and behind it
abbrev pub opening : Bool → List ℕ
opening is_first = if is_first then 91 ∷ [] else []

abbrev pub closed : Bool → List ℕ
closed is_last = if is_last then 93 ∷ 10 ∷ [] else 44 ∷ []

abbrev pub unclosed : Bool → List ℕ → Option (List ℕ)
unclosed is_last text = if nat_lt 0 (length text) && (slice_index text (length text - 1) == closing is_last) then Some (take (length text - 1) text) else None

abbrev pub unopened : Bool → List ℕ → Option (List ℕ)
unopened is_first text =
    if is_first then (if nat_lt 0 (length text) && (slice_index text 0 == 91) then Some (drop 1 text) else None) else Some text

-- the word of a cell, in what is read for it
abbrev pub word_in : Bool → Bool → List ℕ → Option (List ℕ)
word_in is_first is_last text = option_map trimmed (option_and_then (unopened is_first) (unclosed is_last (trimmed text)))

-- the text from where a cell is read: blanks before a row, and so blank lines, are passed over
abbrev pub entered : Bool → List ℕ → List ℕ
entered is_first text = if is_first then trim_front text else text

-- what is read for a cell, up to the byte that ends it
abbrev pub read_to : Bool → ℕ → List ℕ → List ℕ
read_to is_first byte text = take_through byte (entered is_first text)

-- the text behind that
abbrev pub left_by : Bool → ℕ → List ℕ → List ℕ
left_by is_first byte text = drop_through byte (entered is_first text)

-- whether the cell in this column is the first one of its row, and the last one
abbrev pub is_first : ℕ → Bool
is_first column = column == 0

abbrev pub is_last : ℕ → ℕ → Bool
is_last width column = nat_le (width - column) 1

-- the column after this one
abbrev pub next : ℕ → ℕ → ℕ
next width column = if is_last width column then 0 else column + 1

-- the column after so many further cells
abbrev pub column_after : ℕ → ℕ → ℕ → ℕ
column_after width column zero = column
column_after width column (suc count) = column_after width (next width column) count

-- the bytes of a cell, and those of the cells behind it
abbrev pub joined : Option (List ℕ) → Option (List ℕ × List ℕ) → Option (List ℕ × List ℕ)
joined None others = None
joined (Some cell) None = None
joined (Some cell) (Some others) = Some (cell ++ others.0, others.1)

module _ (form : Form) (size width : ℕ) where
  -- the cell in the column that is read for it
  abbrev pub cell_at : ℕ → List ℕ → Option (List ℕ)
  cell_at column token = option_and_then (cell_in form size) (word_in (is_first column) (is_last width column) token)

  -- the cell in the column that the text begins with
  abbrev pub first_cell : ℕ → List ℕ → Option (List ℕ)
  first_cell column text = cell_at column (read_to (is_first column) (ending (is_last width column)) text)

  -- the text behind it
  abbrev pub behind : ℕ → List ℕ → List ℕ
  behind column text = left_by (is_first column) (ending (is_last width column)) text

  -- the bytes of so many cells from the column on that the text begins with, and the text behind them
  abbrev pub cells_in : ℕ → ℕ → List ℕ → Option (List ℕ × List ℕ)
  cells_in zero column text = Some ([], text)
  cells_in (suc count) column text = joined (first_cell column text) (cells_in count (next width column) (behind column text))

  -- a text of the cell in this column was written: whatever follows, the cell is read there, and then what follows
  pub record WritesCell (column : ℕ) (cell : List ℕ) (old new : Option (List ℕ)) : Type 0 where
    pub text : List ℕ
    pub written : Appends old new text
    pub reads : (more : List ℕ) → (first_cell column (text ++ more) ≡ Some cell) × (behind column (text ++ more) ≡ more)

  -- a text of cells from the column on was written, up to another column: whatever follows, they are read there, and then
  -- what follows
  pub record WritesCells (column after : ℕ) (cells : List ℕ) (old new : Option (List ℕ)) : Type 0 where
    pub count : ℕ
    pub text : List ℕ
    pub ends : after ≡ column_after width column count
    pub written : Appends old new text
    pub reads : (more : List ℕ) → cells_in count column (text ++ more) ≡ Some (cells, more)

  -- the cell in this column that the reader began with was added to the bytes, if what the reader has left is known
  abbrev pub ReadsCell : ℕ → Option (List ℕ) → Option (List ℕ) → List ℕ → List ℕ → Type 0
  ReadsCell column old new before after =
      IfSome old (λ text. (new ≡ Some (behind column text)) × ((cell : List ℕ) × (first_cell column text ≡ Some cell) × (after ≡ before ++ cell)))

  -- so many cells from the column on that the reader began with were added to the bytes
  abbrev pub ReadsCells : ℕ → ℕ → Option (List ℕ) → Option (List ℕ) → List ℕ → List ℕ → Type 0
  ReadsCells count column old new before after =
      IfSome old (λ text. (cells : List ℕ) × (left : List ℕ)
      × (cells_in count column text ≡ Some (cells, left)) × (new ≡ Some left) × (after ≡ before ++ cells))

-- what the reader began with was read for a cell, but for blanks at its ends, if what the reader has left is known
abbrev pub ReadsToken : Bool → ℕ → Option (List ℕ) → Option (List ℕ) → List ℕ → Type 0
ReadsToken is_first byte old new token =
    IfSome old (λ text. (new ≡ Some (left_by is_first byte text)) × (trimmed token ≡ trimmed (read_to is_first byte text)))

-- blanks before a row that the reader began with were passed over
abbrev pub PassesBlanks : Bool → Option (List ℕ) → Option (List ℕ) → Type 0
PassesBlanks is_first old new = IfSome old (λ text. (left : List ℕ) × (new ≡ Some left) × (entered is_first left ≡ entered is_first text))

-- some bytes were added behind those that were there
pub record Extends (before after : List ℕ) : Type 0 where
  pub added : List ℕ
  pub is : after ≡ before ++ added
