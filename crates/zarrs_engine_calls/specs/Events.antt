-- Calls of an array as events: what was asked over data, and what it ended in. A call that takes or returns typed values
-- is one as well, by the data that stands for the values.
use Rattle.std.specs.Prelude.{◌≡◌, ℕ, Bool, true, false, List, [], ◌∷◌, Option, None, refl, if◌then◌else◌}
use Rattle.zarrs_subset.specs.Regions.{Box, positions}
use Rattle.zarrs_chunk_grid.specs.Grids.{box_at, chunks_box}
use Rattle.zarrs_data_type.specs.ArrayData.{ArrayData}
use Rattle.zarrs_engine_calls.specs.Layout.{ArrayState, Layout}
use Rattle.zarrs_engine_calls.specs.Acts.{Act, act_of, compact, erase, read, read_chunk, read_part_act, resize, shape_left, store}
use Rattle.zarrs_engine_calls.specs.ArgumentRefusals.{read_chunks_refusal, read_part_refusal, read_region_refusal, resize_refusal}
use Rattle.zarrs_engine_calls.specs.ArgumentRefusals.{store_chunk_refusal, store_chunks_refusal, store_part_refusal, store_region_refusal}
use Rattle.zarrs_engine_calls.specs.Changes.{RetrievesChunk, RetrievesIfExists}
use Rattle.zarrs_engine_calls.specs.ChunkBoxes.{chunks_met, is_whole_of, part_box}
use Rattle.zarrs_engine_calls.specs.Compactions.{CompactsChunk}
use Rattle.zarrs_engine_calls.specs.Outcome as outcome
use Rattle.zarrs_engine_calls.specs.Outcome.{Outcome, outcome_of}
use Rattle.zarrs_engine_calls.specs.Refusals.{Refusal, length_refusal}
use Rattle.zarrs_engine_calls.specs.StateRefusals.{RefusesChunkRead}
use Rattle.zarrs_engine_calls.specs.Step.{ActOutcome, ErasesChunk, ErasesChunks, RefusesCompactChunk, RefusesEraseChunk, RefusesEraseChunks}
use Rattle.zarrs_engine_calls.specs.Step.{RefusesResize, RefusesRetrieveChunks, RefusesRetrievePart, RefusesRetrieveRegion, ResizesArray}
use Rattle.zarrs_engine_calls.specs.Step.{RefusesStoreChunk, RefusesStoreChunks, RefusesStorePart, RefusesStoreRegion}
use Rattle.zarrs_engine_calls.specs.Step.{RetrievesChunks, RetrievesPart, RetrievesRegion, StoresChunk, StoresChunks, StoresPart, StoresRegion}
use Rattle.zarrs_engine_calls.specs.declared.call.Call.{Call}
use Rattle.zarrs_engine_calls.specs.declared.call.Reply.{Reply}

pub record Event : Type 0 where
  pub act : Act
  pub ended : Outcome

-- an accepted store, erasure or change of the shape
abbrev pub accepted_write : Act → Event
accepted_write act = record { act = act; ended = outcome.done }

-- The event takes an array from old to new; empty chunks are kept or not.
pub record Happens (layout : Layout) (keep : Bool) (event : Event) (old new : ArrayState) : Type 0 where
  pub shape : new.shape ≡ shape_left event.act event.ended old.shape
  -- the first refusal that its arguments decide
  pub first : Option Refusal
  pub does : ActOutcome layout keep old.shape first event.act event.ended old.store new.store

-- these events, one after another, each from the state that the one before it left
abbrev pub Course : Layout → Bool → List Event → ArrayState → ArrayState → Type 0
Course layout keep [] old new = new ≡ old
Course layout keep (event ∷ events) old new = (mid : ArrayState) × Happens layout keep event old mid × Course layout keep events mid new

-- the event of a call with this reply
abbrev pub event_of : Layout → Call → Reply → Event
event_of layout call reply = record { act = act_of layout call; ended = outcome_of reply }

-- those of these calls with these replies
abbrev pub events_of : Layout → List Call → List Reply → List Event
events_of layout [] replies = []
events_of layout (call ∷ calls) [] = []
events_of layout (call ∷ calls) (reply ∷ replies) = event_of layout call reply ∷ events_of layout calls replies

-- ---- the events of calls that are made by themselves

abbrev pub store_of_chunk : Layout → List ℕ → ArrayData → Outcome → Event
store_of_chunk layout index held ended = record { act = store (box_at layout.grid index) held (index ∷ []); ended = ended }

abbrev pub store_of_chunks : Layout → Box → ArrayData → Outcome → Event
store_of_chunks layout range held ended = record { act = store (chunks_box layout.grid range) held (positions range); ended = ended }

abbrev pub store_of_part : Layout → List ℕ → Box → ArrayData → Outcome → Event
store_of_part layout index part held ended = record { act = store (part_box (box_at layout.grid index) part) held (index ∷ []); ended = ended }

abbrev pub store_of_region : Layout → Box → ArrayData → Outcome → Event
store_of_region layout region held ended = record { act = store region held (chunks_met layout.grid region); ended = ended }

abbrev pub erasure_of_chunk : List ℕ → Outcome → Event
erasure_of_chunk index ended = record { act = erase (index ∷ []); ended = ended }

abbrev pub erasure_of_chunks : Box → Outcome → Event
erasure_of_chunks range ended = record { act = erase (positions range); ended = ended }

abbrev pub compaction_of_chunk : List ℕ → Outcome → Event
compaction_of_chunk index ended = record { act = compact index; ended = ended }

abbrev pub change_of_shape : List ℕ → Outcome → Event
change_of_shape wanted ended = record { act = resize wanted; ended = ended }

abbrev pub read_of_chunk : List ℕ → Outcome → Event
read_of_chunk index ended = record { act = read_chunk true index; ended = ended }

-- of a chunk that may be absent
abbrev pub read_if_exists : List ℕ → Outcome → Event
read_if_exists index ended = record { act = read_chunk false index; ended = ended }

abbrev pub read_of_chunks : Layout → Box → Outcome → Event
read_of_chunks layout range ended = record { act = read (chunks_box layout.grid range) (positions range); ended = ended }

abbrev pub read_of_part : Layout → List ℕ → Box → Outcome → Event
read_of_part layout index part ended = record { act = read_part_act layout index part; ended = ended }

abbrev pub read_of_region : Layout → Box → Outcome → Event
read_of_region layout region ended = record { act = read region (chunks_met layout.grid region); ended = ended }

-- ---- what a call promises makes its event happen

module _ (layout : Layout) (keep : Bool) (old new : ArrayState) where
  -- one event by itself
  pub one_event : (event : Event) → Happens layout keep event old new → Course layout keep (event ∷ []) old new
  one_event event happens = (new, happens, refl)

  pub shape_was_changed : (wanted : List ℕ) → new.shape ≡ wanted → ResizesArray layout keep old.shape wanted old.store new.store
      → Happens layout keep (change_of_shape wanted outcome.done) old new
  shape_was_changed wanted is does = record { shape = is; first = resize_refusal layout wanted; does = does }

  -- writes that leave the shape
  module _ (same : new.shape ≡ old.shape) where
    pub change_of_shape_was_refused : (wanted : List ℕ) (r : Refusal) → RefusesResize layout keep old.shape wanted r old.store new.store
        → Happens layout keep (change_of_shape wanted (outcome.refused r)) old new
    change_of_shape_was_refused wanted r does = record { shape = same; first = resize_refusal layout wanted; does = does }

    pub chunk_was_stored : (index : List ℕ) (held : ArrayData) → StoresChunk layout keep index held old.store new.store
        → Happens layout keep (store_of_chunk layout index held outcome.done) old new
    chunk_was_stored index held does = record { shape = same; first = store_chunk_refusal layout index held; does = does }

    pub store_of_chunk_was_refused : (index : List ℕ) (held : ArrayData) (r : Refusal) → RefusesStoreChunk layout keep index held r old.store new.store
        → Happens layout keep (store_of_chunk layout index held (outcome.refused r)) old new
    store_of_chunk_was_refused index held r does = record { shape = same; first = store_chunk_refusal layout index held; does = does }

    pub chunks_were_stored : (range : Box) (held : ArrayData) → StoresChunks layout keep range held old.store new.store
        → Happens layout keep (store_of_chunks layout range held outcome.done) old new
    chunks_were_stored range held does = record { shape = same; first = store_chunks_refusal layout range held; does = does }

    pub store_of_chunks_was_refused : (range : Box) (held : ArrayData) (r : Refusal) → RefusesStoreChunks layout keep range held r old.store new.store
        → Happens layout keep (store_of_chunks layout range held (outcome.refused r)) old new
    store_of_chunks_was_refused range held r does = record { shape = same; first = store_chunks_refusal layout range held; does = does }

    pub part_was_stored : (index : List ℕ) (part : Box) (held : ArrayData) → StoresPart layout keep index part held old.store new.store
        → Happens layout keep (store_of_part layout index part held outcome.done) old new
    part_was_stored index part held does = record { shape = same; first = store_part_refusal layout index part held; does = does }

    pub store_of_part_was_refused : (index : List ℕ) (part : Box) (held : ArrayData) (r : Refusal)
        → RefusesStorePart layout keep index part held r old.store new.store
        → Happens layout keep (store_of_part layout index part held (outcome.refused r)) old new
    store_of_part_was_refused index part held r does = record { shape = same; first = store_part_refusal layout index part held; does = does }

    pub region_was_stored : (region : Box) (held : ArrayData) → StoresRegion layout keep old.shape region held old.store new.store
        → Happens layout keep (store_of_region layout region held outcome.done) old new
    region_was_stored region held does = record { shape = same; first = store_region_refusal layout old.shape region held; does = does }

    pub store_of_region_was_refused : (region : Box) (held : ArrayData) (r : Refusal)
        → RefusesStoreRegion layout keep old.shape region held r old.store new.store
        → Happens layout keep (store_of_region layout region held (outcome.refused r)) old new
    store_of_region_was_refused region held r does = record { shape = same; first = store_region_refusal layout old.shape region held; does = does }

    pub chunk_was_erased : (index : List ℕ) → ErasesChunk layout index old.store new.store
        → Happens layout keep (erasure_of_chunk index outcome.done) old new
    chunk_was_erased index does = record { shape = same; first = length_refusal layout index; does = does }

    pub erasure_of_chunk_was_refused : (index : List ℕ) (r : Refusal) → RefusesEraseChunk layout index r old.store new.store
        → Happens layout keep (erasure_of_chunk index (outcome.refused r)) old new
    erasure_of_chunk_was_refused index r does = record { shape = same; first = length_refusal layout index; does = does }

    pub chunks_were_erased : (range : Box) → ErasesChunks layout range old.store new.store
        → Happens layout keep (erasure_of_chunks range outcome.done) old new
    chunks_were_erased range does = record { shape = same; first = length_refusal layout range.start; does = does }

    pub erasure_of_chunks_was_refused : (range : Box) (r : Refusal) → RefusesEraseChunks layout range r old.store new.store
        → Happens layout keep (erasure_of_chunks range (outcome.refused r)) old new
    erasure_of_chunks_was_refused range r does = record { shape = same; first = length_refusal layout range.start; does = does }

    pub chunk_was_compacted : (index : List ℕ) (answer : Bool) → CompactsChunk layout index answer old.store new.store
        → Happens layout keep (compaction_of_chunk index (outcome.compacted answer)) old new
    chunk_was_compacted index answer does = record { shape = same; first = None; does = (refl, does) }

    pub compaction_of_chunk_was_refused : (index : List ℕ) (r : Refusal) → RefusesCompactChunk layout index r old.store new.store
        → Happens layout keep (compaction_of_chunk index (outcome.refused r)) old new
    compaction_of_chunk_was_refused index r does = record { shape = same; first = length_refusal layout index; does = does }

-- a read changes nothing
module _ (layout : Layout) (keep : Bool) (state : ArrayState) where
  pub chunk_was_read : (index : List ℕ) (held : ArrayData) → RetrievesChunk layout index held state.store
      → Happens layout keep (read_of_chunk index (outcome.cells held)) state state
  chunk_was_read index held does = record { shape = refl; first = None; does = (refl, refl, does) }

  pub read_of_chunk_was_refused : (index : List ℕ) (r : Refusal) → RefusesChunkRead layout (length_refusal layout index) true index state.store r
      → Happens layout keep (read_of_chunk index (outcome.refused r)) state state
  read_of_chunk_was_refused index r why = record { shape = refl; first = length_refusal layout index; does = (refl, why) }

  pub chunk_was_read_if_exists : (index : List ℕ) (found : Option ArrayData) → RetrievesIfExists layout index found state.store
      → Happens layout keep (read_if_exists index (outcome.maybe found)) state state
  chunk_was_read_if_exists index found does = record { shape = refl; first = None; does = (refl, refl, does) }

  pub read_if_exists_was_refused : (index : List ℕ) (r : Refusal) → RefusesChunkRead layout (length_refusal layout index) false index state.store r
      → Happens layout keep (read_if_exists index (outcome.refused r)) state state
  read_if_exists_was_refused index r why = record { shape = refl; first = length_refusal layout index; does = (refl, why) }

  pub chunks_were_read : (range : Box) (held : ArrayData) → RetrievesChunks layout state.shape range held state.store
      → Happens layout keep (read_of_chunks layout range (outcome.cells held)) state state
  chunks_were_read range held does = record { shape = refl; first = read_chunks_refusal layout state.shape range; does = (refl, does.0, does.1) }

  pub read_of_chunks_was_refused : (range : Box) (r : Refusal) → RefusesRetrieveChunks layout state.shape range r state.store
      → Happens layout keep (read_of_chunks layout range (outcome.refused r)) state state
  read_of_chunks_was_refused range r why = record { shape = refl; first = read_chunks_refusal layout state.shape range; does = (refl, why) }

  pub region_was_read : (region : Box) (held : ArrayData) → RetrievesRegion layout state.shape region held state.store
      → Happens layout keep (read_of_region layout region (outcome.cells held)) state state
  region_was_read region held does = record { shape = refl; first = read_region_refusal layout state.shape region; does = (refl, does.0, does.1) }

  pub read_of_region_was_refused : (region : Box) (r : Refusal) → RefusesRetrieveRegion layout state.shape region r state.store
      → Happens layout keep (read_of_region layout region (outcome.refused r)) state state
  read_of_region_was_refused region r why = record { shape = refl; first = read_region_refusal layout state.shape region; does = (refl, why) }

  -- the act of a part is one of two, by whether the part is the whole chunk
  module _ (index : List ℕ) (part : Box) where
    abbrev PartEnds : Act → Outcome → Type 0
    PartEnds act ended = ActOutcome layout keep state.shape (read_part_refusal layout index part) act ended state.store state.store

    abbrev one_of : Bool → Act
    one_of whole = if whole then read_chunk true index else read (part_box (box_at layout.grid index) part) (index ∷ [])

    part_ends : (ended : Outcome)
        → (is_whole_of (box_at layout.grid index).shape part ≡ true → PartEnds (one_of true) ended)
        → (is_whole_of (box_at layout.grid index).shape part ≡ false → PartEnds (one_of false) ended)
        → Happens layout keep (read_of_part layout index part ended) state state
    part_ends ended whole proper =
        let shape = (box_at layout.grid index).shape in
        record {
          shape = elim (is_whole_of shape part) as (λ b. state.shape ≡ shape_left (one_of b) ended state.shape) [ true ↦ refl | false ↦ refl ];
          first = read_part_refusal layout index part;
          does = elim (is_whole_of shape part) as (λ b. is_whole_of shape part ≡ b → PartEnds (one_of b) ended) [ true ↦ whole | false ↦ proper ] refl;
        }

    pub part_was_read : (held : ArrayData) → RetrievesPart layout index part held state.store
        → Happens layout keep (read_of_part layout index part (outcome.cells held)) state state
    part_was_read held does = part_ends (outcome.cells held) (λ is. (refl, does.accepted, does.whole is)) (λ is. (refl, does.accepted, does.proper is))

    pub read_of_part_was_refused : (r : Refusal) → RefusesRetrievePart layout index part r state.store
        → Happens layout keep (read_of_part layout index part (outcome.refused r)) state state
    read_of_part_was_refused r why = part_ends (outcome.refused r) (λ is. (refl, why.whole is)) (λ is. (refl, why.proper is))
