-- What the steps inside a store leave that may write the parts of chunks by themselves.
use Rattle.std.specs.Prelude.{◌≡◌, ℕ, ◌<◌, Bool, List, [], ◌∷◌, length, take, Option, Some, Contains, slice_index}
use Rattle.zarrs_subset.specs.Boxes.{position_count}
use Rattle.zarrs_subset.specs.Regions.{Box, overlap_of}
use Rattle.zarrs_chunk_grid.specs.Grids.{Grid, box_at}
use Rattle.zarrs_storage.specs.Store.{StoreState}
use Rattle.zarrs_data_type.specs.Cell.{Cell}
use Rattle.zarrs_data_type.specs.ArrayData.{ArrayData}
use Rattle.zarrs_data_type.specs.Cells.{cells}
use Rattle.zarrs_engine_calls.specs.Layout.{Layout}
use Rattle.zarrs_engine_calls.specs.ChunkBoxes.{part_box}
use Rattle.zarrs_engine_calls.specs.Refusals.{Refusal}
use Rattle.zarrs_engine_calls.specs.Changes.{MakesParts, Puts}
use Rattle.zarrs_engine_calls.specs.Patches.{Patches, PatchesAll, RefusesPartly, RefusesPatch}
use Rattle.zarrs_engine_calls.specs.StateRefusals.{RefusesErasure}
use Rattle.zarrs_engine_layout.specs.Steps.{LeavesValues}

-- along each dimension the region shares a position with the box
abbrev pub Shares : Box → Box → Type 0
Shares region box = (k : ℕ) → k < length region.start → 0 < slice_index (overlap_of region box).shape k

-- so it does with each of these chunks
abbrev pub SharesEach : Grid → Box → List (List ℕ) → Type 0
SharesEach grid region chunks = (index : List ℕ) → Contains chunks index → Shares region (box_at grid index)

-- this value, or none, was put at the key by one writing call, which may be one of a part; and such a call was refused
abbrev pub PutsPart : List ℕ → Option (List ℕ) → StoreState → StoreState → Type 0
PutsPart key value old new = Puts (MakesParts (λ k. Unit {0}) (key ∷ [])) key value old new

abbrev pub RefusesPutPart : List ℕ → Refusal → StoreState → StoreState → Type 0
RefusesPutPart key r old new = LeavesValues (MakesParts (λ k. Unit {0}) (key ∷ [])) (λ failed state. RefusesErasure failed state r) old new

-- the chunk took this part, seen from its origin, by itself
abbrev pub PatchesChunk : Layout → Bool → List ℕ → Box → ArrayData → StoreState → StoreState → Type 0
PatchesChunk layout keep index part held old new = PatchesAll layout keep (λ i. Unit {0}) (part_box (box_at layout.grid index) part) held (index ∷ []) old new

-- the chunk did not take this part by itself
abbrev pub LeavesPartly : Layout → Bool → List ℕ → Box → ArrayData → Refusal → StoreState → StoreState → Type 0
LeavesPartly layout keep index part held r old new =
    LeavesValues (MakesParts (λ i. Unit {0}) (index ∷ [])) (λ failed state. RefusesPartly layout keep index part held failed state r) old new

-- one chunk did not take its part
abbrev pub LeavesPatch : Layout → Bool → (List ℕ → Type 0) → Box → ArrayData → List ℕ → Refusal → StoreState → StoreState → Type 0
LeavesPatch layout keep itself region held index r old new =
    LeavesValues (MakesParts itself (index ∷ [])) (λ failed state. RefusesPatch layout keep itself region held index failed state r) old new

-- the first `done` of the chunks took their part, each by one writing call
pub record HasPatched (layout : Layout) (keep : Bool) (itself : List ℕ → Type 0) (region : Box) (held : ArrayData) (chunks : List (List ℕ)) (done : ℕ)
    (old new : StoreState) : Type 0 where
  pub given : List Cell
  pub are_cells : cells layout.kind held ≡ Some given
  pub count : length given ≡ position_count region.shape
  pub patches : Patches layout keep itself region given (take done chunks) old new
  pub untouched : done ≡ 0 → new.values ≡ old.values
  pub makes : MakesParts itself chunks done 0 old new
