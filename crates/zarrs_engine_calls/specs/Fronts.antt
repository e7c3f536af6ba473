-- What a write leaves: a front of its chunks is done.
use Rattle.std.specs.Prelude.{◌≡◌, ◌≢◌, ℕ, ◌+◌, ◌<◌, ◌≤◌, ◌⊎◌, ◌&&◌, Bool, List, length, take, Some, slice_get}
use Rattle.std.specs.Prelude.{if◌then◌else◌}
use Rattle.std.specs.List.{list_any}
use Rattle.std.specs.Str.{bytes_eq}
use Rattle.zarrs_subset.specs.Boxes.{position_count}
use Rattle.zarrs_subset.specs.Regions.{Box, in_box, cell_in}
use Rattle.zarrs_chunk_grid.specs.Grids.{index_at, is_covered}
use Rattle.zarrs_storage.specs.Store.{StoreState, last_call}
use Rattle.zarrs_data_type.specs.Cell.{Cell}
use Rattle.zarrs_data_type.specs.ArrayData.{ArrayData}
use Rattle.zarrs_data_type.specs.Cells.{cells}
use Rattle.zarrs_engine_calls.specs.Layout.{Layout}
use Rattle.zarrs_engine_calls.specs.Content.{value_at, content}
use Rattle.zarrs_engine_calls.specs.Changes.{Makes, Stores, Erases}
use Rattle.zarrs_engine_calls.specs.Cuts.{Cuts, cut_chunks, resized}

-- the data is one cell for each position of the region, and these chunks took their part of them
pub record Takes (layout : Layout) (keep : Bool) (region : Box) (held : ArrayData) (indices : List (List ℕ)) (old new : StoreState) : Type 0 where
  pub given : List Cell
  pub are_cells : cells layout.kind held ≡ Some given
  pub count : length given ≡ position_count region.shape
  pub stores : Stores layout keep region given indices old new

-- The first `done` of the chunks are done, each by one writing call, and `failed` writing calls were refused; `made` says what
-- calls these were. With none done, no value changed.
pub record Front (made : ℕ → ℕ → StoreState → StoreState → Type 0) (changed : List (List ℕ) → Type 0) (chunks : List (List ℕ))
    (done failed : ℕ) (old new : StoreState) : Type 0 where
  pub within : done ≤ length chunks
  pub untouched : done ≡ 0 → new.values ≡ old.values
  pub changes : 0 < done → changed (take done chunks)
  pub makes : made done failed old new

-- an accepted store: the content is the data over the region, and elsewhere what it was; the front is all of its chunks
pub record StoresAll (layout : Layout) (keep : Bool) (region : Box) (held : ArrayData) (chunks : List (List ℕ)) (old new : StoreState) : Type 0 where
  pub takes : Takes layout keep region held chunks old new
  pub updates : (position : List ℕ) → content layout (value_at new) position
      ≡ (if in_box region position then cell_in region takes.given position else content layout (value_at old) position)
  pub front : Front Makes (λ indices. Takes layout keep region held indices old new) chunks (length chunks) 0 old new

-- the position lies in one of these chunks
abbrev pub is_in_chunks : Layout → List (List ℕ) → List ℕ → Bool
is_in_chunks layout indices position = is_covered layout.grid position && list_any (bytes_eq (index_at layout.grid position)) indices

-- an accepted erasure: the content is fill in these chunks, and elsewhere what it was; the front is all of its chunks
pub record ErasesAll (layout : Layout) (chunks : List (List ℕ)) (old new : StoreState) : Type 0 where
  pub erases : Erases layout chunks old new
  pub updates : (position : List ℕ) → content layout (value_at new) position
      ≡ (if is_in_chunks layout chunks position then Some layout.fill else content layout (value_at old) position)
  pub front : Front Makes (λ indices. Erases layout indices old new) chunks (length chunks) 0 old new

-- an accepted change of the array's shape from `shape` to `wanted`: what is cut away is fill, and elsewhere the content
-- is what it was
pub record CutsAll (layout : Layout) (keep : Bool) (shape wanted : List ℕ) (old new : StoreState) : Type 0 where
  pub cuts : Cuts layout keep wanted (cut_chunks layout.grid shape wanted) old new
  pub updates : (position : List ℕ) → content layout (value_at new) position ≡ resized layout shape wanted (content layout (value_at old)) position
  pub front : Front Makes (λ indices. Cuts layout keep wanted indices old new) (cut_chunks layout.grid shape wanted)
      (length (cut_chunks layout.grid shape wanted)) 0 old new

-- Why a write was refused: for a reason that comes before any writing call, or at the first chunk that is not done.
abbrev pub HasWriteCause : List (List ℕ) → Type 0 → (List ℕ → ℕ → Type 0) → ℕ → ℕ → Type 0
HasWriteCause chunks early late done failed =
    (early × (done ≡ 0) × (failed ≡ 0)) ⊎ ((index : List ℕ) × (slice_get chunks done ≡ Some index) × late index failed)

-- a refused write: a front that is not all of its chunks, at most one writing call that failed, and the reason: one that comes
-- before any writing call, or one of the next chunk
pub record RefusesWrite (made : ℕ → ℕ → StoreState → StoreState → Type 0) (changed : List (List ℕ) → Type 0) (chunks : List (List ℕ))
    (early : Type 0) (late : List ℕ → ℕ → Type 0) (old new : StoreState) : Type 0 where
  pub done : ℕ
  pub failed : ℕ
  pub front : Front made changed chunks done failed old new
  -- if there is a chunk, one is not done
  pub below : 0 < length chunks → done < length chunks
  -- at most one writing call was refused, and none is counted if no call was left
  pub one : failed ≤ 1
  pub counted : 0 < failed → new.calls ≢ last_call + 1
  -- with its reason: nothing was done and no writing call made; or the next chunk was refused
  pub cause : HasWriteCause chunks early late done failed
