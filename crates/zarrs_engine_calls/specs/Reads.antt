-- What a read returns.
use Rattle.std.specs.Prelude.{◌≡◌, ℕ, true, List, length, Option, Some, None, Contains}
use Rattle.zarrs_subset.specs.Boxes.{position_count}
use Rattle.zarrs_subset.specs.Regions.{Box, IsLong, Holds, cell_in}
use Rattle.zarrs_chunk_grid.specs.Grids.{box_at, is_covered}
use Rattle.zarrs_storage.specs.Store.{StoreState}
use Rattle.zarrs_data_type.specs.Cell.{Cell}
use Rattle.zarrs_data_type.specs.ArrayData.{ArrayData}
use Rattle.zarrs_data_type.specs.Cells.{cells}
use Rattle.zarrs_engine_calls.specs.Layout.{Layout}
use Rattle.zarrs_engine_calls.specs.Content.{value_at, content, decoded_cells}
use Rattle.zarrs_engine_calls.specs.ChunkBoxes.{CoversBox}

-- the chunk is present and its bytes do not decode
pub record IsBroken (layout : Layout) (index : List ℕ) (state : StoreState) : Type 0 where
  pub encoded : List ℕ
  pub stands : value_at state (layout.key index) ≡ Some encoded
  pub undecoded : decoded_cells layout (box_at layout.grid index) encoded ≡ None

-- There is one cell for each position of the box: that of the function, if it has one. (It has none in a chunk that
-- does not decode: what is returned there is open.)
pub record ReadsKnown (f : List ℕ → Option Cell) (box : Box) (given : List Cell) : Type 0 where
  pub count : length given ≡ position_count box.shape
  pub each : (position : List ℕ) (cell : Cell) → Holds box position → f position ≡ Some cell → cell_in box given position ≡ Some cell

-- an accepted read of a region: one cell for each position, that of the content if it has one there; a chunk that the region
-- covers whole decodes
pub record ReadsRegion (layout : Layout) (region : Box) (chunks : List (List ℕ)) (held : ArrayData) (state : StoreState) : Type 0 where
  pub given : List Cell
  pub are_cells : cells layout.kind held ≡ Some given
  pub reads : ReadsKnown (content layout (value_at state)) region given
  pub long : IsLong region
  pub covered : (position : List ℕ) → Holds region position → is_covered layout.grid position ≡ true
  -- a chunk that was read whole decodes
  pub whole : (index : List ℕ) → Contains chunks index → CoversBox region (box_at layout.grid index) → IsBroken layout index state → ⊥
