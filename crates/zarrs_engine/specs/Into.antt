-- Reads of regions into targets.
use Rattle.std.specs.Prelude.{◌≡◌, List, ℕ, Option, None, Some, Result, IfErr, IsSome, OnErr, OnOk}
use Rattle.zarrs_subset.specs.Boxes.{offset_by, offset_from}
use Rattle.zarrs_subset.specs.Regions.{Box, Holds, place_in}
use Rattle.zarrs_storage.specs.Store.{StoreState}
use Rattle.zarrs_data_type.specs.Cell.{Cell}
use Rattle.zarrs_data_type.specs.ArrayData.{ArrayData}
use Rattle.zarrs_data_type.specs.Cells.{cell_at}
use Rattle.zarrs_data_type.specs.Parts.{TakesEach}
use Rattle.zarrs_engine_calls.specs.Layout.{Layout}
use Rattle.zarrs_engine_calls.specs.Content.{value_at, content}
use Rattle.zarrs_engine_calls.specs.ArgumentRefusals.{into_refusal}
use Rattle.zarrs_engine_calls.specs.ChunkBoxes.{chunks_met}
use Rattle.zarrs_engine_calls.specs.Reads.{ReadsRegion}
use Rattle.zarrs_engine_calls.specs.Refusals.{Refusal, refusal_of}
use Rattle.zarrs_engine_calls.specs.StateRefusals.{RefusesRegionRead}
use Rattle.zarrs_data_type_region.specs.declared.target.ArrayBytesDecodeIntoTarget.{ArrayBytesDecodeIntoTarget}
use Rattle.zarrs_data_type.specs.States.{KeepsTarget, data_of_target, parent_box, target_box}
use Rattle.zarrs_data_type.specs.Targets.{takes_type}
use Rattle.zarrs_engine_calls.specs.declared.error.ArrayError.{ArrayError}
use Rattle.zarrs_chunk_grid.specs.declared.traits.ChunkGridTraits.{Ghosts as GridMeaning}
use Rattle.zarrs_keys.specs.declared.traits.ChunkKeyEncodingTraits.{Ghosts as KeyMeaning}
use Rattle.zarrs_codec_chain.specs.declared.traits.ChainTraits.{Ghosts as ChainMeanings}
use Rattle.zarrs_engine.specs.Engine.{layout_of, state_of}
use Rattle.zarrs_engine.specs.declared.engine.Engine.{Engine}

-- the first refusal that the arguments of a read into this target decide
abbrev pub target_refusal : Layout → List ℕ → Box → ArrayBytesDecodeIntoTarget → Option Refusal
target_refusal layout shape region t = into_refusal layout shape region (takes_type t.cell_size t.depth layout.kind) (target_box t).shape

-- an accepted read of a region into the target `old`, which is `new` then: its box has the cells of what a read of the
-- region returns, and the other cells are as before
pub record RetrievesInto (layout : Layout) (shape : List ℕ) (region : Box) (state : StoreState) (old new : ArrayBytesDecodeIntoTarget) : Type 0 where
  pub held : ArrayData
  pub accepted : target_refusal layout shape region old ≡ None
  pub reads : ReadsRegion layout region (chunks_met layout.grid region) held state
  pub written : TakesEach layout.kind (parent_box old) (target_box old) held (data_of_target old) (data_of_target new)

-- the place in the target's parent of what lies at a position of the region
abbrev pub place_of : Box → ArrayBytesDecodeIntoTarget → List ℕ → ℕ
place_of region t position = place_in (parent_box t) (offset_by (target_box t).start (offset_from region.start position))

-- the target has the content of the region, wherever there is one
abbrev pub HasContent : Layout → Box → StoreState → ArrayBytesDecodeIntoTarget → ArrayBytesDecodeIntoTarget → Type 0
HasContent layout region state old new =
    (position : List ℕ) (cell : Cell) → Holds region position → content layout (value_at state) position ≡ Some cell
    → cell_at layout.kind (data_of_target new) (place_of region old position) ≡ cell

-- a refused one: what the arguments decide first, then a cause among the chunks that the region meets
abbrev pub RefusesRetrieveInto : Layout → List ℕ → Box → ArrayBytesDecodeIntoTarget → Refusal → StoreState → Type 0
RefusesRetrieveInto layout shape region t r state =
    RefusesRegionRead layout (target_refusal layout shape region t) region (chunks_met layout.grid region) state r

module _ {S G K C : Type 0} {g : GridMeaning G} {k : KeyMeaning K} {c : ChainMeanings C} where
  -- A region was read into a target, or the read is refused. Every byte outside the target's box stays; what the arguments
  -- refuse leaves the inside too.
  pub record RetrievesIntoOrRefuses (state : S → StoreState) (region : Box) (engine : Engine S G K C g k c)
      (old new : ArrayBytesDecodeIntoTarget) (result : Result (Unit {0}) ArrayError) : Type 0 where
    pub kept : KeepsTarget old new
    pub cells : OnOk result (RetrievesInto (layout_of engine) (state_of state engine).shape region (state_of state engine).store old new)
    pub content : OnOk result (HasContent (layout_of engine) region (state_of state engine).store old new)
    pub refused : IfErr result (λ e.
        RefusesRetrieveInto (layout_of engine) (state_of state engine).shape region old (refusal_of e) (state_of state engine).store)
    pub kept_bytes : OnErr result (IsSome (target_refusal (layout_of engine) (state_of state engine).shape region old) → new.bytes.now ≡ old.bytes.now)
    pub kept_masks : OnErr result (IsSome (target_refusal (layout_of engine) (state_of state engine).shape region old) → new.masks.now ≡ old.masks.now)
