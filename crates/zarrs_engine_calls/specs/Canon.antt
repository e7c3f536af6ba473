-- Canonical stores: the bytes are a function of the content.
use Rattle.std.specs.Prelude.{◌≡◌, ◌≢◌, ℕ, Bool, true, false, List, Option, Some, None}
use Rattle.std.specs.FinMap as map
use Rattle.zarrs_subset.specs.Regions.{Box, Holds}
use Rattle.zarrs_chunk_grid.specs.Grids.{box_at, has_box}
use Rattle.zarrs_keys.specs.Keys.{IsIndexList}
use Rattle.zarrs_storage.specs.Store.{StoreState, Values}
use Rattle.zarrs_data_type.specs.Cell.{Cell}
use Rattle.zarrs_engine_calls.specs.Layout.{Layout}
use Rattle.zarrs_engine_calls.specs.Content.{value_at, content, Reads}
use Rattle.zarrs_engine_calls.specs.Refusals.{is_left_out, encoded_cells}

-- what is present at the key of a chunk of this box for the function: nothing if that is all fill, else the bytes of
-- its cells
abbrev pub IsCanonicalValue : Layout → (List ℕ → Option Cell) → Box → Option (List ℕ) → Type 0
IsCanonicalValue layout f box None = (position : List ℕ) → Holds box position → f position ≡ Some layout.fill
IsCanonicalValue layout f box (Some encoded) =
    (cells : List Cell) × Reads f box cells × (is_left_out layout false cells ≡ false) × (encoded_cells layout false box.shape cells ≡ Some encoded)

-- each chunk key holds what the content over its box is encoded to, and nothing if that is all fill
pub record IsCanonical (layout : Layout) (stored : List ℕ → Option (List ℕ)) : Type 0 where
  pub boxed : (index : List ℕ) → has_box layout.grid index ≡ true
      → IsCanonicalValue layout (content layout stored) (box_at layout.grid index) (stored (layout.key index))
  pub unboxed : (index : List ℕ) → IsIndexList layout.grid.dimensions index → has_box layout.grid index ≡ false → stored (layout.key index) ≡ None

-- no chunk key is present
abbrev pub HasNoChunk : Layout → StoreState → Type 0
HasNoChunk layout state = (index : List ℕ) → IsIndexList layout.grid.dimensions index → value_at state (layout.key index) ≡ None

-- if empty chunks are not kept, a canonical store stays one
abbrev pub KeepsCanon : Layout → Bool → StoreState → StoreState → Type 0
KeepsCanon layout keep old new = keep ≡ false → IsCanonical layout (value_at old) → IsCanonical layout (value_at new)

-- ---- canonical maps

-- no chunk has the key
abbrev pub IsNoChunkKey : Layout → List ℕ → Type 0
IsNoChunkKey layout key = (index : List ℕ) → IsIndexList layout.grid.dimensions index → key ≢ layout.key index

-- no keys but those of chunks are present
abbrev pub HasChunksAlone : Layout → StoreState → Type 0
HasChunksAlone layout state = (key : List ℕ) → IsNoChunkKey layout key → value_at state key ≡ None

-- the part of a store at the keys of chunks
pub record IsChunkPart (layout : Layout) (state : StoreState) (values : Values) : Type 0 where
  pub chunks : (index : List ℕ) → IsIndexList layout.grid.dimensions index → map.get values (layout.key index) ≡ value_at state (layout.key index)
  pub others : (key : List ℕ) → IsNoChunkKey layout key → map.get values key ≡ None

-- The map of a function: one entry for each chunk whose box has a cell other than fill, which holds the bytes of its
-- cells, and no other entry.
pub record IsCanonicalMap (layout : Layout) (f : List ℕ → Option Cell) (values : Values) : Type 0 where
  pub chunks : (index : List ℕ) → has_box layout.grid index ≡ true
      → IsCanonicalValue layout f (box_at layout.grid index) (map.get values (layout.key index))
  pub others : (key : List ℕ) → ((index : List ℕ) → has_box layout.grid index ≡ true → key ≢ layout.key index) → map.get values key ≡ None
