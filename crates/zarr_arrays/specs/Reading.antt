-- What may be asked of the store of a directory once chunks were read.
use Rattle.std.specs.Prelude.{◌≡◌, ◌⊎◌, ℕ, List, true, Contains}
use Rattle.zarrs_subset.specs.Regions.{Box}
use Rattle.zarrs_data_type.specs.ArrayData.{ArrayData}
use Rattle.zarrs_engine_calls.specs.Layout.{Layout}
use Rattle.zarrs_engine_calls.specs.ChunkBoxes.{chunks_met}
use Rattle.zarrs_engine_calls.specs.Reach.{MayAskChunk, MayReadPart, MayReadParts}
use Rattle.zarrs_engine_calls.specs.Reads.{ReadsRegion}
use Rattle.zarrs_engine_calls.specs.StateRefusals.{IsPart}
use Rattle.zarrs_directory.specs.Directory.{directory_of, directory_state, was_read, KeepsCounts}
use Rattle.zarrs_directory.specs.Excerpts.{excerpts_of, excerpts_state}
use Rattle.zarrs_directory.specs.declared.excerpts.Excerpts.{Excerpts}
use Rattle.zarrs_directory.specs.declared.files.Directory.{Directory}
use Rattle.zarrs_directory.specs.declared.store.DirectoryStore.{DirectoryStore}
use Rattle.zarrs_storage.specs.Store.{StoreState}

-- it is of the same directory, and no writing call was made
pub record KeepsStore {R : Type 0} (old new : DirectoryStore R) : Type 0 where
  pub directory : directory_of new ≡ directory_of old
  pub counts : KeepsCounts old.cache new.cache

-- the chunk may be asked
abbrev pub HasRead : {R : Type 0} → Layout → DirectoryStore R → List ℕ → Type 0
HasRead layout store index = MayAskChunk layout index (directory_state store)

-- the chunk may be asked, if the region covers a part of it alone
abbrev pub HasReadPart : {R : Type 0} → Layout → Box → DirectoryStore R → List ℕ → Type 0
HasReadPart layout region store index = IsPart layout region index → HasRead layout store index

-- more was read of the directory: each chunk that might be asked may be asked
pub record KeepsRead {R : Type 0} (layout : Layout) (old new : DirectoryStore R) : Type 0 where
  pub chunks : (index : List ℕ) → HasRead layout old index → HasRead layout new index
  pub kept : KeepsStore old new

-- ---- no more is read than is asked for

-- each key that may be asked now might be asked before, but that of this chunk
pub record ReadsAtMost {R : Type 0} (layout : Layout) (old new : DirectoryStore R) (index : List ℕ) : Type 0 where
  pub keys : (key : List ℕ) → was_read new key ≡ true → (was_read old key ≡ true) ⊎ (key ≡ layout.key index)

-- each key that may be asked now might be asked before, but those of these chunks
pub record ReadsNoOthers {R : Type 0} (layout : Layout) (chunks : List (List ℕ)) (old new : DirectoryStore R) : Type 0 where
  pub keys : (key : List ℕ) → was_read new key ≡ true → (was_read old key ≡ true) ⊎ ((index : List ℕ) × Contains chunks index × (key ≡ layout.key index))

-- ---- what is read of files for a region

-- of each chunk as much may be asked, and no key more but that of this chunk
pub record ReadsMore (layout : Layout) (index : List ℕ) (old new : StoreState) : Type 0 where
  pub parts : (region : Box) (other : List ℕ) → MayReadPart layout region other old → MayReadPart layout region other new
  pub keys : (key : List ℕ) → new.may_ask key ≡ true → (old.may_ask key ≡ true) ⊎ (key ≡ layout.key index)

-- what a read of the region may ask may be asked, and no key but those of its chunks
pub record HasReadOnly (layout : Layout) (region : Box) (state : StoreState) : Type 0 where
  pub each : MayReadParts layout region (chunks_met layout.grid region) state
  pub keys : (key : List ℕ) → state.may_ask key ≡ true → (index : List ℕ) × Contains (chunks_met layout.grid region) index × (key ≡ layout.key index)

-- the data is the cells of the region, as the chunks say them of whose files in the directory so much was read
pub record ReadsCells {R : Type 0} (layout : Layout) (directory : Directory R) (region : Box) (held : ArrayData) : Type 0 where
  pub files : Excerpts R
  pub same : excerpts_of files ≡ directory
  pub only : HasReadOnly layout region (excerpts_state files)
  pub cells : ReadsRegion layout region (chunks_met layout.grid region) held (excerpts_state files)
