-- The cells of a box of an array that stands in a source, row-major.
use Rattle.std.specs.Prelude.{◌≡◌, ℕ, ◌+◌, ◌*◌, ◌<◌, ◌≤◌, ◌^◌, ◌==◌, Bool, true, nat_eq, if◌then◌else◌, List, [], ◌∷◌, length, take, drop}
use Rattle.std.specs.Cmp.Lexicographic.{pointwise}
use Rattle.std.specs.List.{flat_map}
use Rattle.zarrs_subset.specs.Boxes.{position_count, place, BoxFits, is_within, positions_from}
use Rattle.zarrs_subset.specs.Pieces.{piece_at}
use Rattle.zarrs_subset.specs.Regions.{Box, positions}
use Rattle.zarrs_codec_leaf.specs.declared.source.Window.{Window}

-- the bytes of the cell at a position of an array of this shape, which begins at `offset`
abbrev pub cell_from : (size : ℕ) (shape bytes : List ℕ) (offset : ℕ) (position : List ℕ) → List ℕ
cell_from size shape bytes offset position = take size (drop (offset + place shape position * size) bytes)

-- the bytes of the cells of a box, one cell after another
abbrev pub box_bytes : (size : ℕ) (shape start extents bytes : List ℕ) (offset : ℕ) → List ℕ
box_bytes size shape start extents bytes offset = flat_map (cell_from size shape bytes offset) (positions_from start extents)

-- the cells of a box, one after another, out of the cells of an array of this shape
abbrev pub cells_in : (size : ℕ) (shape : List ℕ) (box : Box) (array : List ℕ) → List ℕ
cells_in size shape box array = flat_map (λ position. piece_at size array (place shape position)) (positions box)

-- the bytes of the cells of a box may be read
abbrev pub MayReadBox : (ℕ → Bool) → (size : ℕ) (shape start extents : List ℕ) (offset : ℕ) → Type 0
MayReadBox may_read size shape start extents offset =
    (position : List ℕ) (k : ℕ) → is_within start extents position ≡ true → k < size → may_read (offset + place shape position * size + k) ≡ true

-- a box of an array of this shape, whose bytes are those of a window, can be read
pub record CanReadBox (bytes : List ℕ) (may_read : ℕ → Bool) (size offset len : ℕ) (shape start extents : List ℕ) : Type 0 where
  pub small : length bytes < 2 ^ 64
  pub inside : offset + len ≤ length bytes
  pub some : 0 < len
  pub counted : len ≡ position_count shape * size
  pub fits : BoxFits start extents shape
  pub allowed : MayReadBox may_read size shape start extents offset

-- whether the cells of a box of these extents stand one after another in an array of this shape: behind the first extent
-- that is not 1, each is that of the array
abbrev pub is_run : (shape extents : List ℕ) → Bool
is_run [] extents = true
is_run (n ∷ shape) [] = true
is_run (n ∷ shape) (e ∷ extents) = if e == 1 then is_run shape extents else pointwise nat_eq extents shape

-- `len` bytes from the cell at a position of the array in a window
abbrev pub run_from : (window : Window) (size : ℕ) (shape position : List ℕ) (len : ℕ) → Window
run_from window size shape position len = record { offset = window.offset + place shape position * size; len = len }
