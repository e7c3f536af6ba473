-- What a write of a region leaves after some of its chunks.
use Rattle.std.specs.Prelude.{◌≡◌, ℕ, true, Bool, List, [], ◌∷◌, length, take, Some}
use Rattle.zarrs_subset.specs.Boxes.{position_count}
use Rattle.zarrs_subset.specs.Regions.{Box, Holds}
use Rattle.zarrs_chunk_grid.specs.Grids.{Grid, box_at, is_covered}
use Rattle.zarrs_storage.specs.Store.{StoreState}
use Rattle.zarrs_data_type.specs.Cell.{Cell}
use Rattle.zarrs_data_type.specs.ArrayData.{ArrayData}
use Rattle.zarrs_data_type.specs.Cells.{cells}
use Rattle.zarrs_engine_calls.specs.Layout.{Layout}
use Rattle.zarrs_engine_calls.specs.Refusals.{Refusal}
use Rattle.zarrs_engine_calls.specs.Changes.{Makes, Stores}
use Rattle.zarrs_engine_calls.specs.StateRefusals.{AreUpdated, RefusesPart}
use Rattle.zarrs_engine_layout.specs.Steps.{LeavesValues}

-- each position of the region lies in a chunk
abbrev pub AreCovered : Grid → Box → Type 0
AreCovered grid region = (position : List ℕ) → Holds region position → is_covered grid position ≡ true

-- the data is the cells of the chunk after it took its part of the region's data
pub record HasUpdated (layout : Layout) (region : Box) (held : ArrayData) (index : List ℕ) (state : StoreState) (made : ArrayData) : Type 0 where
  pub chunk : List Cell
  pub is_chunk : cells layout.kind made ≡ Some chunk
  pub updated : AreUpdated layout region held (box_at layout.grid index) state chunk

-- the first `done` of the chunks took their part, each by one writing call
pub record HasStored (layout : Layout) (keep : Bool) (region : Box) (held : ArrayData) (chunks : List (List ℕ)) (done : ℕ) (old new : StoreState) : Type 0 where
  pub given : List Cell
  pub are_cells : cells layout.kind held ≡ Some given
  pub count : length given ≡ position_count region.shape
  pub stores : Stores layout keep region given (take done chunks) old new
  pub untouched : done ≡ 0 → new.values ≡ old.values
  pub makes : Makes done 0 old new

-- one more chunk took its part
pub record StoresOneMore (layout : Layout) (keep : Bool) (region : Box) (held : ArrayData) (index : List ℕ) (old new : StoreState) : Type 0 where
  pub given : List Cell
  pub are_cells : cells layout.kind held ≡ Some given
  pub count : length given ≡ position_count region.shape
  pub stores : Stores layout keep region given (index ∷ []) old new
  pub makes : Makes 1 0 old new

-- one chunk did not take its part
abbrev pub LeavesPart : Layout → (keep : Bool) → Box → ArrayData → (index : List ℕ) → Refusal → StoreState → StoreState → Type 0
LeavesPart layout keep region held index r old new = LeavesValues Makes (λ failed state. RefusesPart layout keep region held index failed state r) old new
