-- Reads of the parts of one chunk.
use Rattle.std.specs.Prelude.{◌≡◌, ◌⊎◌, ℕ, List, Option, None, Result, IfErr, IsSome, OnErr, OnOk}
use Rattle.std.specs.Option.{option_or}
use Rattle.zarrs_subset.specs.Regions.{Box}
use Rattle.zarrs_chunk_grid.specs.Grids.{box_at}
use Rattle.zarrs_chunk_grid.specs.declared.traits.ChunkGridTraits.{Ghosts as GridMeaning}
use Rattle.zarrs_keys.specs.declared.traits.ChunkKeyEncodingTraits.{Ghosts as KeyMeaning}
use Rattle.zarrs_codec_chain.specs.declared.traits.ChainTraits.{Ghosts as ChainMeanings}
use Rattle.zarrs_storage.specs.Store.{StoreState}
use Rattle.zarrs_engine_calls.specs.ArgumentRefusals.{part_refusal, region_refusal}
use Rattle.zarrs_engine_calls.specs.ChunkBoxes.{part_box}
use Rattle.zarrs_engine_calls.specs.Layout.{Layout}
use Rattle.zarrs_engine_calls.specs.Refusals.{Refusal, RefusesBy, refusal_of}
use Rattle.zarrs_data_type_region.specs.declared.target.ArrayBytesDecodeIntoTarget.{ArrayBytesDecodeIntoTarget}
use Rattle.zarrs_engine.specs.Into.{HasContent, RefusesRetrieveInto, RetrievesInto, target_refusal}
use Rattle.zarrs_data_type.specs.States.{KeepsTarget}
use Rattle.zarrs_engine_calls.specs.declared.error.ArrayError.{ArrayError}
use Rattle.zarrs_engine_calls.specs.Layout.{ArrayState}
use Rattle.zarrs_engine.specs.declared.engine.Engine.{Engine}
use Rattle.zarrs_engine.specs.declared.partial_decoder.ChunkPartialDecoder.{ChunkPartialDecoder}

module _ {G K C : Type 0} {g : GridMeaning G} {k : KeyMeaning K} {c : ChainMeanings C} where
  module _ {S : Type 0} where
    -- the engine that a decoder reads, and the indices of its chunk
    abbrev pub engine_of : ChunkPartialDecoder S G K C g k c → Engine S G K C g k c
    engine_of decoder = decoder.engine.now

    abbrev pub indices_of : ChunkPartialDecoder S G K C g k c → List ℕ
    indices_of decoder = decoder.chunk_indices.items

-- the region of the array that this part of the chunk is
abbrev pub region_of_part : Layout → List ℕ → Box → Box
region_of_part layout index part = part_box (box_at layout.grid index) part

-- what the arguments of a read of a part into a target decide: a part that does not lie in the chunk, or a target that
-- takes no cells of its region
abbrev pub part_into_refusal : Layout → List ℕ → List ℕ → Box → ArrayBytesDecodeIntoTarget → Option Refusal
part_into_refusal layout shape index part t =
    option_or (part_refusal layout index part) (target_refusal layout shape (region_of_part layout index part) t)

-- a refused read of a part into a target: the part does not lie in the chunk, or its region is not read into the target
abbrev pub RefusesPartInto : Layout → List ℕ → List ℕ → Box → ArrayBytesDecodeIntoTarget → Refusal → StoreState → Type 0
RefusesPartInto layout shape index part t r state =
    RefusesBy (part_refusal layout index part) r
    ⊎ ((part_refusal layout index part ≡ None) × RefusesRetrieveInto layout shape (region_of_part layout index part) t r state)

-- A part of a chunk was read into a target, or the read is refused. Every byte outside the target's box stays; what the
-- arguments refuse leaves the inside too.
pub record DecodesPartInto (layout : Layout) (index : List ℕ) (part : Box) (state : ArrayState)
    (old new : ArrayBytesDecodeIntoTarget) (result : Result (Unit {0}) ArrayError) : Type 0 where
  pub kept : KeepsTarget old new
  pub accepted : OnOk result (part_refusal layout index part ≡ None)
  -- chunks cover a part that lies in the chunk, so it is not refused by E1
  pub covered : part_refusal layout index part ≡ None → region_refusal layout state.shape (region_of_part layout index part) ≡ None
  pub cells : OnOk result (RetrievesInto layout state.shape (region_of_part layout index part) state.store old new)
  pub content : OnOk result (HasContent layout (region_of_part layout index part) state.store old new)
  pub refused : IfErr result (λ e. RefusesPartInto layout state.shape index part old (refusal_of e) state.store)
  pub kept_bytes : OnErr result (IsSome (part_into_refusal layout state.shape index part old) → new.bytes.now ≡ old.bytes.now)
  pub kept_masks : OnErr result (IsSome (part_into_refusal layout state.shape index part old) → new.masks.now ≡ old.masks.now)
