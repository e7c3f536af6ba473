-- The array as a function from positions to cells.
use Rattle.std.specs.Prelude.{◌≡◌, ℕ, List, length, Option, Some, None, slice_get, if◌then◌else◌}
use Rattle.std.specs.FinMap as map
use Rattle.zarrs_subset.specs.Boxes.{position_count}
use Rattle.zarrs_subset.specs.Regions.{Box, Holds, cell_in, place_in}
use Rattle.zarrs_chunk_grid.specs.Grids.{box_at, index_at, is_covered}
use Rattle.zarrs_storage.specs.Store.{StoreState}
use Rattle.zarrs_data_type.specs.Cell.{Cell}
use Rattle.zarrs_engine_calls.specs.Layout.{Layout}

-- the bytes that are present at each key
abbrev pub value_at : StoreState → List ℕ → Option (List ℕ)
value_at state key = map.get state.values key

-- the cell at a place, if there are cells
abbrev pub cell_at_place : Option (List Cell) → ℕ → Option Cell
cell_at_place None place = None
cell_at_place (Some cells) place = slice_get cells place

-- the cells that the bytes of a chunk of this box decode to
abbrev pub decoded_cells : Layout → Box → List ℕ → Option (List Cell)
decoded_cells layout box encoded = layout.chain.decoded layout.kind layout.fill box.shape encoded

-- the cell of a chunk at a position: the fill value if the chunk is absent, else that of the decoded bytes
abbrev pub chunk_cell : Layout → Option (List ℕ) → Box → List ℕ → Option Cell
chunk_cell layout None box position = Some layout.fill
chunk_cell layout (Some encoded) box position = cell_at_place (decoded_cells layout box encoded) (place_in box position)

-- the cell that the chunk of these indices has at a position
abbrev pub indexed_cell : Layout → (List ℕ → Option (List ℕ)) → List ℕ → List ℕ → Option Cell
indexed_cell layout stored index position = chunk_cell layout (stored (layout.key index)) (box_at layout.grid index) position

-- The cell at a position, for a look-up of the bytes at each key: none if no chunk covers the position, or
-- if its chunk does not decode.
unfoldable pub content : Layout → (List ℕ → Option (List ℕ)) → List ℕ → Option Cell
content layout stored position =
    if is_covered layout.grid position then indexed_cell layout stored (index_at layout.grid position) position else None

-- the cells are those of the function over the box, in row-major order
pub record Reads (f : List ℕ → Option Cell) (box : Box) (cells : List Cell) : Type 0 where
  pub count : length cells ≡ position_count box.shape
  pub each : (position : List ℕ) → Holds box position → f position ≡ cell_in box cells position
