-- What a store of cells, the compaction of a chunk, or the upgrade of a document leaves of a directory.
use Rattle.std.specs.Prelude.{◌≡◌, ◌≢◌, ℕ, List, Bool, true, false, Some, None, length, if◌then◌else◌}
use Rattle.std.specs.Borrow.{MutBor}
use Rattle.zarrs_subset.specs.Boxes.{position_count}
use Rattle.zarrs_subset.specs.Regions.{Box, IsLong, in_box, cell_in}
use Rattle.zarrs_storage.specs.Store.{StoreState}
use Rattle.zarrs_data_type.specs.Cell.{Cell}
use Rattle.zarrs_data_type.specs.ArrayData.{ArrayData}
use Rattle.zarrs_data_type.specs.Cells.{cells}
use Rattle.zarrs_engine_calls.specs.Layout.{Layout}
use Rattle.zarrs_engine_calls.specs.Content.{value_at, content}
use Rattle.zarrs_engine_calls.specs.Changes.{ChangesKeysOf, Makes}
use Rattle.zarrs_engine_calls.specs.ChunkBoxes.{chunks_met}
use Rattle.zarrs_engine_calls.specs.Compactions.{compacted_bytes}
use Rattle.zarrs_engine_calls.specs.Laws.{HaveEqualContent}
use Rattle.zarrs_engine_calls.specs.Reach.{MayAskParts}
use Rattle.zarrs_directory.specs.Directory.{directory_of, directory_state, lent_cache}
use Rattle.zarrs_directory.specs.declared.caching.Cache.{Cache}
use Rattle.zarrs_directory.specs.declared.lending.LentDirectory.{LentDirectory}
use Rattle.zarrs_directory.specs.declared.store.DirectoryStore.{DirectoryStore}
use Rattle.zarrs.specs.Arrays.{layout_of_array, metadata_of_array, metadata_options_of_array, path_of_array, storage_of_array}
use Rattle.zarrs.specs.Upgrade.{UpgradesMetadata}
use Rattle.zarrs.specs.declared.array.Array.{Array}
use Rattle.zarr_arrays.specs.Reading.{HasRead, KeepsStore}

-- what is held of the directory that is lent to an array
abbrev pub lent_to : {R : Type 0} → Array (LentDirectory R) → MutBor Cache
lent_to array = lent_cache (storage_of_array array)

-- ---- cells that are stored

-- the content is the data over the region, and elsewhere what it was; no value but those of the chunks that it meets changed;
-- for each of these one writing call was made, and none was refused
pub record StoresOver (layout : Layout) (region : Box) (held : ArrayData) (old new : StoreState) : Type 0 where
  pub given : List Cell
  pub are_cells : cells layout.kind held ≡ Some given
  pub count : length given ≡ position_count region.shape
  pub long : IsLong region
  pub updates : (position : List ℕ) → content layout (value_at new) position
      ≡ (if in_box region position then cell_in region given position else content layout (value_at old) position)
  pub keys : ChangesKeysOf layout (chunks_met layout.grid region) old new
  pub makes : Makes (length (chunks_met layout.grid region)) 0 old new

-- the same of a directory, of which each chunk was read that the region covers in part alone
pub record StoresCells {R : Type 0} (layout : Layout) (region : Box) (held : ArrayData) (old new : DirectoryStore R) : Type 0 where
  pub read : DirectoryStore R
  pub kept : KeepsStore old read
  pub asked : MayAskParts layout region (chunks_met layout.grid region) (directory_state read)
  pub stores : StoresOver layout region held (directory_state read) (directory_state new)
  pub directory : directory_of new ≡ directory_of old

-- ---- a chunk that is compacted

-- by one writing call the compaction of the bytes of the chunk took their place, and no other value changed
pub record CompactsBytes (layout : Layout) (index : List ℕ) (old new : StoreState) : Type 0 where
  pub encoded : List ℕ
  pub less : List ℕ
  pub stands : value_at old (layout.key index) ≡ Some encoded
  pub compacts : compacted_bytes layout index encoded ≡ Some (Some less)
  pub held : value_at new (layout.key index) ≡ Some less
  pub others : (key : List ℕ) → key ≢ layout.key index → value_at new key ≡ value_at old key
  pub makes : Makes 1 0 old new

-- nothing changed: the chunk is absent, or its bytes are compact
pub record LeavesBytes (layout : Layout) (index : List ℕ) (old new : StoreState) : Type 0 where
  pub same : new ≡ old
  pub compact : (encoded : List ℕ) → value_at old (layout.key index) ≡ Some encoded → compacted_bytes layout index encoded ≡ Some None

-- by the answer: whether the bytes changed
abbrev pub CompactsOver : Layout → List ℕ → Bool → StoreState → StoreState → Type 0
CompactsOver layout index true old new = CompactsBytes layout index old new
CompactsOver layout index false old new = LeavesBytes layout index old new

-- the same of a directory, of which the chunk was read
pub record CompactsRead {R : Type 0} (layout : Layout) (index : List ℕ) (answer : Bool) (old new : DirectoryStore R) : Type 0 where
  pub read : DirectoryStore R
  pub kept : KeepsStore old read
  pub asked : HasRead layout read index
  pub compacts : CompactsOver layout index answer (directory_state read) (directory_state new)
  pub directory : directory_of new ≡ directory_of old

-- ---- a document that is upgraded

-- by three writing calls the V3 document was stored, and those of V2 erased; of V3 metadata nothing was done; no cell changed
pub record UpgradesOver {S : Type 0} (array : Array S) (old new : StoreState) : Type 0 where
  pub documents : UpgradesMetadata (metadata_options_of_array array) (path_of_array array) (metadata_of_array array) old new
  pub content : HaveEqualContent (layout_of_array array) old new

-- the same of a directory
pub record UpgradesStore {R S : Type 0} (array : Array S) (old new : DirectoryStore R) : Type 0 where
  pub upgrades : UpgradesOver array (directory_state old) (directory_state new)
  pub directory : directory_of new ≡ directory_of old
