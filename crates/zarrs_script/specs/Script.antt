-- What the bytes of a script say.
use Rattle.std.specs.Prelude.{ℕ, ◌+◌, ◌==◌, Bool, true, if◌then◌else◌, List, [], ◌∷◌, codes, Option, Some, None, Result, Ok, Err}
use Rattle.std.specs.List.{slice_split}
use Rattle.std.specs.Str.{bytes_eq}
use Rattle.zarrs_subset.specs.Regions.{Box}
use Rattle.zarrs_data_type.specs.ArrayData.{ArrayData, fixed}
use Rattle.zarrs_metadata_parts.specs.Extension.{◌>>=◌}
use Rattle.zarrs_script.specs.declared.cell_type.CellType.{CellType}
use Rattle.zarrs_script.specs.declared.command.Verb.{Verb}
use Rattle.zarrs_script.specs.declared.command.Verb.TheVariants as verb
use Rattle.zarrs_script.specs.Words.{numbers_in_word, region_of}
use Rattle.zarrs_script.specs.CellTypes.{type_of}
use Rattle.zarrs_script.specs.CellTexts.{cell_of, cells_of}

-- what a line asks for
pub data Order : Type 0 where
  -- a new array, with the bytes of its fill value
  Array : (shape chunk_shape : List ℕ) (cell_type : CellType) (fill : List ℕ) → Order
  -- store the chunk of these indices, read it, and erase it
  Chunk : (indices : List ℕ) (cells : ArrayData) → Order
  Read : (indices : List ℕ) → Order
  Erase : (indices : List ℕ) → Order
  -- store cells over this region, and read it
  Put : (region : Box) (cells : ArrayData) → Order
  Get : (region : Box) → Order
  -- change the array's shape
  Resize : (shape : List ℕ) → Order
  -- list the keys
  Keys : Order
  -- show the metadata
  Meta : Order
  -- a call that no line asks for
  Other : Order

unfoldable pub verb_of : List ℕ → Option Verb
verb_of word =
    if bytes_eq word (codes "array") then Some verb.Array
    else if bytes_eq word (codes "chunk") then Some verb.Chunk
    else if bytes_eq word (codes "read") then Some verb.Read
    else if bytes_eq word (codes "erase") then Some verb.Erase
    else if bytes_eq word (codes "put") then Some verb.Put
    else if bytes_eq word (codes "get") then Some verb.Get
    else if bytes_eq word (codes "resize") then Some verb.Resize
    else if bytes_eq word (codes "keys") then Some verb.Keys
    else if bytes_eq word (codes "meta") then Some verb.Meta
    else None

abbrev pub array_order : List (List ℕ) → Option Order
array_order (shape ∷ chunk_shape ∷ cell_type ∷ fill ∷ []) = do
  shape ← numbers_in_word shape
  chunk_shape ← numbers_in_word chunk_shape
  cell_type ← type_of cell_type
  fill ← cell_of cell_type fill
  Some (Array shape chunk_shape cell_type fill)
array_order _ = None

abbrev pub chunk_order : CellType → List (List ℕ) → Option Order
chunk_order cell_type (indices ∷ cells ∷ []) = do
  indices ← numbers_in_word indices
  cells ← cells_of cell_type cells
  Some (Chunk indices (fixed cells))
chunk_order cell_type _ = None

abbrev pub put_order : CellType → List (List ℕ) → Option Order
put_order cell_type (start ∷ shape ∷ cells ∷ []) = do
  region ← region_of start shape
  cells ← cells_of cell_type cells
  Some (Put region (fixed cells))
put_order cell_type _ = None

abbrev pub get_order : List (List ℕ) → Option Order
get_order (start ∷ shape ∷ []) = region_of start shape >>= λ region. Some (Get region)
get_order _ = None

-- one list and nothing else
abbrev pub one_list : List (List ℕ) → Option (List ℕ)
one_list (numbers ∷ []) = numbers_in_word numbers
one_list _ = None

-- this order and nothing else
abbrev pub lone_order : Order → List (List ℕ) → Option Order
lone_order order [] = Some order
lone_order order _ = None

-- The order of a line with this verb and these words after it, if the latest array before it has the known type.
-- Before the first array there is no order except an array's.
abbrev pub verb_order : Verb → Option CellType → List (List ℕ) → Option Order
verb_order verb.Array known words = array_order words
verb_order verb.Chunk known words = known >>= λ cell_type. chunk_order cell_type words
verb_order verb.Read known words = known >>= λ _. one_list words >>= λ indices. Some (Read indices)
verb_order verb.Erase known words = known >>= λ _. one_list words >>= λ indices. Some (Erase indices)
verb_order verb.Put known words = known >>= λ cell_type. put_order cell_type words
verb_order verb.Get known words = known >>= λ _. get_order words
verb_order verb.Resize known words = known >>= λ _. one_list words >>= λ shape. Some (Resize shape)
verb_order verb.Keys known words = known >>= λ _. lone_order Keys words
verb_order verb.Meta known words = known >>= λ _. lone_order Meta words

abbrev pub words_order : Option CellType → List (List ℕ) → Option Order
words_order known [] = None
words_order known (word ∷ words) = verb_of word >>= λ verb. verb_order verb known words

-- what a line asks for; its words are separated by one space
unfoldable pub order_of : Option CellType → List ℕ → Option Order
order_of known line = words_order known (slice_split (λ b. b == 32) line)

-- the type of the latest array
abbrev pub type_after : Option CellType → Order → Option CellType
type_after known (Array shape chunk_shape cell_type fill) = Some cell_type
type_after known _ = known

-- an empty line, or one that begins with `#`
abbrev pub is_skipped : List ℕ → Bool
is_skipped [] = true
is_skipped (b ∷ bs) = b == 35

abbrev pub onto : Order → Result (List Order) ℕ → Result (List Order) ℕ
onto order (Ok orders) = Ok (order ∷ orders)
onto order (Err n) = Err n

-- the order of line n and those of the lines after it
abbrev pub orders_on : ℕ → Option Order → (Order → Result (List Order) ℕ) → Result (List Order) ℕ
orders_on n None others = Err n
orders_on n (Some order) others = onto order (others order)

-- the orders of lines, the first of which is line n, or the number of the first line that is not a command
unfoldable pub orders_from : ℕ → Option CellType → List (List ℕ) → Result (List Order) ℕ
orders_from n known [] = Ok []
orders_from n known (line ∷ lines) =
    if is_skipped line then orders_from (n + 1) known lines
    else orders_on n (order_of known line) (λ order. orders_from (n + 1) (type_after known order) lines)

-- The orders of a script, line by line. Lines end with a line feed. What follows the last one is a line too,
-- which is skipped if it is empty.
abbrev pub orders_of : List ℕ → Result (List Order) ℕ
orders_of script = orders_from 1 None (slice_split (λ b. b == 10) script)
