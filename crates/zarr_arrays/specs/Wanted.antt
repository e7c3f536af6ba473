-- Which places of the files of chunks are wanted for a region.
use Rattle.std.specs.Prelude.{◌≡◌, ℕ, ◌+◌, ◌*◌, ◌/◌, ◌<◌, ◌≤◌, List, Option, Some, length, true}
use Rattle.zarrs_subset.specs.Boxes.{position_count, unravel}
use Rattle.zarrs_subset.specs.Regions.{Box, Holds}
use Rattle.zarrs_chunk_grid.specs.Grids.{box_at}
use Rattle.zarrs_data_type.specs.Kind.{Kind, element_size}
use Rattle.zarrs_codec_chain.specs.Places.{cell_places}
use Rattle.zarrs_engine_calls.specs.Layout.{Layout}
use Rattle.zarrs_engine_calls.specs.ChunkBoxes.{CoversBox, chunk_part}
use Rattle.zarrs_directory.specs.Excerpts.{IsWanted}
use Rattle.zarrs_directory.specs.declared.excerpt.Wanted.{Wanted}

-- cells have so many bytes, and a part of a chunk needs the places of its cells alone
pub record IsPlain (layout : Layout) (cell : ℕ) : Type 0 where
  pub size : element_size layout.kind ≡ Some cell
  pub places : (kind : Kind) (shape : List ℕ) (part : Box) (value : List ℕ) (place : ℕ)
      → layout.chain.places kind shape part value place ≡ cell_places kind shape part value place

-- the places from the first of these cells to the last one, of so many cells of so many bytes
pub record IsSpan (first last count cell : ℕ) (wanted : Wanted) : Type 0 where
  pub size : wanted.size ≡ count * cell
  pub start : wanted.start ≡ first * cell
  pub end : wanted.end ≡ (last + 1) * cell

-- of a file of cells of a chunk of this shape, the places of the cells of the part are wanted
pub record HasCells (shape : List ℕ) (cell : ℕ) (part : Box) (wanted : Wanted) : Type 0 where
  pub size : wanted.size ≡ position_count shape * cell
  pub places : (place : ℕ) → place < position_count shape * cell → Holds part (unravel shape (place / cell)) → (wanted.start ≤ place) × (place < wanted.end)

-- Each place of the file of a chunk is wanted that a read of the region needs: those of its part, and each place if the
-- region covers the chunk.
pub record ServesRegion (layout : Layout) (region : Box) (index : List ℕ) (wanted : Option Wanted) : Type 0 where
  pub part : (value : List ℕ) (place : ℕ)
      → layout.chain.places layout.kind (box_at layout.grid index).shape (chunk_part region (box_at layout.grid index)) value place ≡ true
      → IsWanted wanted (length value) place
  pub whole : CoversBox region (box_at layout.grid index) → (size place : ℕ) → place < size → IsWanted wanted size place
