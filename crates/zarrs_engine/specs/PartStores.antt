-- What a store of a region leaves in one chunk and in its chunks: a chunk is stored whole, or takes its part by itself.
use Rattle.std.specs.Prelude.{◌≡◌, ℕ, Bool, true, false, List, [], ◌∷◌, Option, None, option_map, Result, IfOk, IfErr, OnOk, Vec}
use Rattle.std.specs.declared.alloc.Global.{Global}
use Rattle.zarrs_subset.specs.Regions.{Box}
use Rattle.zarrs_chunk_grid.specs.Grids.{box_at}
use Rattle.zarrs_storage.specs.Store.{StoreState}
use Rattle.zarrs_chunk_grid.specs.declared.traits.ChunkGridTraits.{Ghosts as GridMeaning}
use Rattle.zarrs_keys.specs.declared.traits.ChunkKeyEncodingTraits.{Ghosts as KeyMeaning}
use Rattle.zarrs_codec_chain.specs.declared.traits.ChainTraits.{Ghosts as ChainMeanings}
use Rattle.zarrs_data_type.specs.ArrayData.{ArrayData}
use Rattle.zarrs_data_type.specs.Cells.{cells}
use Rattle.zarrs_engine_calls.specs.Layout.{Layout}
use Rattle.zarrs_engine_calls.specs.Fronts.{StoresAll}
use Rattle.zarrs_engine_calls.specs.Patches.{PatchesAll, RefusesPatches}
use Rattle.zarrs_engine_calls.specs.Refusals.{data_refusal, is_too_large, refusal_of}
use Rattle.zarrs_engine_calls.specs.StateRefusals.{IsPart, RefusesPart}
use Rattle.zarrs_engine_calls.specs.Step.{RefusesStore}
use Rattle.zarrs_engine_calls.specs.declared.error.ArrayError.{ArrayError}
use Rattle.zarrs_engine_layout.specs.Steps.{HasValue}
use Rattle.zarrs_engine.specs.Engine.{layout_of}
use Rattle.zarrs_engine.specs.Outcomes.{Writes}
use Rattle.zarrs_engine.specs.Patches.{LeavesPatch}
use Rattle.zarrs_engine.specs.RegionWrites.{HasUpdated, LeavesPart, StoresOneMore}
use Rattle.zarrs_engine.specs.declared.engine.Engine.{Engine}

-- this is what is to be present at the key of the chunk after it took its part of the region's data
pub record IsPartValue (layout : Layout) (keep : Bool) (region : Box) (held : ArrayData) (index : List ℕ) (state : StoreState)
    (value : Option (List ℕ)) : Type 0 where
  pub made : ArrayData
  pub updated : HasUpdated layout region held index state made
  pub accepted : data_refusal layout keep (box_at layout.grid index).shape (cells layout.kind made) ≡ None
  pub has : HasValue layout keep (box_at layout.grid index) made value

-- so it was made of a chunk that is not too large, or the chunk does not take its part
pub record MakesPartValue (layout : Layout) (keep : Bool) (region : Box) (held : ArrayData) (index : List ℕ) (state : StoreState)
    (result : Result (Option (Vec ℕ Global)) ArrayError) : Type 0 where
  pub value : IfOk result (λ made. IsPartValue layout keep region held index state (option_map (λ v. v.items) made))
  pub fit : OnOk result (is_too_large layout (box_at layout.grid index).shape ≡ false)
  pub refused : IfErr result (λ e. RefusesPart layout keep region held index 0 state (refusal_of e))

-- the chunk takes its part by itself: parts are written so, and the region covers a part of it alone
abbrev pub TakesItself : Layout → Bool → Box → List ℕ → Type 0
TakesItself layout parts region index = (parts ≡ true) × IsPart layout region index

module _ {S G K C : Type 0} {g : GridMeaning G} {k : KeyMeaning K} {c : ChainMeanings C} where
  -- one chunk took its part of the region's data, or did not
  pub record StoresPartOf (state : S → StoreState) (keep parts : Bool) (region : Box) (held : ArrayData) (index : List ℕ)
      (old new : Engine S G K C g k c) (result : Result (Unit {0}) ArrayError) : Type 0 where
    pub whole : parts ≡ false → Writes refusal_of state (StoresOneMore (layout_of old) keep region held index)
        (LeavesPart (layout_of old) keep region held index) old new result
    pub partly : Writes refusal_of state (PatchesAll (layout_of old) keep (TakesItself (layout_of old) parts region) region held (index ∷ []))
        (LeavesPatch (layout_of old) keep (TakesItself (layout_of old) parts region) region held index) old new result

  -- so did these chunks, one after another, or a front of them
  pub record StoresPartsOf (state : S → StoreState) (keep parts : Bool) (region : Box) (held : ArrayData) (chunks : List (List ℕ))
      (old new : Engine S G K C g k c) (result : Result (Unit {0}) ArrayError) : Type 0 where
    pub whole : parts ≡ false → Writes refusal_of state (StoresAll (layout_of old) keep region held chunks)
        (RefusesStore (layout_of old) keep None region held chunks) old new result
    pub partly : Writes refusal_of state (PatchesAll (layout_of old) keep (TakesItself (layout_of old) parts region) region held chunks)
        (RefusesPatches (layout_of old) keep (TakesItself (layout_of old) parts region) None region held chunks) old new result
