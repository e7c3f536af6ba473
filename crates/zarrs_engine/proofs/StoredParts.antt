-- Chunks that take their part by themselves, and chunks that are stored whole.
use Rattle.std.proofs.Common.{◌≡◌, ◌∙◌, ℕ, Bool, true, List, [], ◌∷◌, sym, subst}
use Rattle.std.specs.Prelude.{Result}
use Rattle.std.proofs.lemmas.Bool.{false≢true}
use Rattle.zarrs_subset.specs.Regions.{Box}
use Rattle.zarrs_storage.specs.Store.{StoreState}
use Rattle.zarrs_chunk_grid.specs.declared.traits.ChunkGridTraits.{Ghosts as GridMeaning}
use Rattle.zarrs_keys.specs.declared.traits.ChunkKeyEncodingTraits.{Ghosts as KeyMeaning}
use Rattle.zarrs_codec_chain.specs.declared.traits.ChainTraits.{Ghosts as ChainMeanings}
use Rattle.zarrs_data_type.specs.ArrayData.{ArrayData}
use Rattle.zarrs_engine_calls.specs.Patches.{PatchesAll}
use Rattle.zarrs_engine_calls.specs.Refusals.{refusal_of}
use Rattle.zarrs_engine_calls.specs.declared.error.ArrayError.{ArrayError}
use Rattle.zarrs_engine.specs.Engine.{layout_of}
use Rattle.zarrs_engine.specs.Outcomes.{Writes}
use Rattle.zarrs_engine.specs.PartStores.{StoresPartOf, TakesItself}
use Rattle.zarrs_engine.specs.Patches.{LeavesPatch}
use Rattle.zarrs_engine.specs.declared.engine.Engine.{Engine}

module _ {S G K C : Type 0} {g : GridMeaning G} {k : KeyMeaning K} {c : ChainMeanings C} where
  -- a chunk took its part by itself
  pub by_itself : (state : S → StoreState) (keep parts : Bool) (region : Box) (held : ArrayData) (index : List ℕ) (old new : Engine S G K C g k c)
      (result : Result (Unit {0}) ArrayError) → parts ≡ true
      → Writes refusal_of state (PatchesAll (layout_of old) keep (TakesItself (layout_of old) true region) region held (index ∷ []))
      (LeavesPatch (layout_of old) keep (TakesItself (layout_of old) true region) region held index) old new result
      → StoresPartOf state keep parts region held index old new result
  by_itself state keep parts region held index old new result is e = record {
    whole = λ off. absurd (false≢true (sym off ∙ is));
    partly = subst (λ (p : Bool). Writes refusal_of state (PatchesAll (layout_of old) keep (TakesItself (layout_of old) p region) region held (index ∷ []))
        (LeavesPatch (layout_of old) keep (TakesItself (layout_of old) p region) region held index) old new result) (sym is) e;
  }
