-- What a call does to the array, and what it returns.
use Rattle.std.specs.Prelude.{◌≡◌, ℕ, Bool, true, false, List, [], ◌∷◌, Option, None}
use Rattle.zarrs_storage.specs.Store.{StoreState}
use Rattle.zarrs_subset.specs.Regions.{Box, positions}
use Rattle.zarrs_chunk_grid.specs.Grids.{box_at, chunks_box}
use Rattle.zarrs_data_type.specs.ArrayData.{ArrayData}
use Rattle.zarrs_engine_calls.specs.Layout.{Layout, ArrayState}
use Rattle.zarrs_engine_calls.specs.Outcome as outcome
use Rattle.zarrs_engine_calls.specs.Outcome.{Outcome, outcome_of}
use Rattle.zarrs_engine_calls.specs.Refusals.{Refusal, RefusesBy, length_refusal}
use Rattle.zarrs_engine_calls.specs.Changes.{Erases, Makes, RetrievesChunk, RetrievesIfExists}
use Rattle.zarrs_engine_calls.specs.declared.call.Call.{Call}
use Rattle.zarrs_engine_calls.specs.declared.call.Reply.{Reply}
use Rattle.zarrs_engine_calls.specs.Acts.{Act, store, erase, compact, read, read_chunk, resize, act_of, shape_after}
use Rattle.zarrs_engine_calls.specs.ChunkBoxes.{chunks_met, part_box, is_whole_of}
use Rattle.zarrs_engine_calls.specs.ArgumentRefusals.{argument_refusal, resize_refusal, store_chunk_refusal, store_chunks_refusal}
use Rattle.zarrs_engine_calls.specs.ArgumentRefusals.{store_part_refusal, store_region_refusal, read_chunks_refusal, read_part_refusal, read_region_refusal}
use Rattle.zarrs_engine_calls.specs.Compactions.{CompactsChunk, RefusesCompactionOf}
use Rattle.zarrs_engine_calls.specs.Cuts.{Cuts, cut_chunks}
use Rattle.zarrs_engine_calls.specs.Fronts.{Takes, StoresAll, ErasesAll, CutsAll, RefusesWrite}
use Rattle.zarrs_engine_calls.specs.Reads.{ReadsRegion}
use Rattle.zarrs_engine_calls.specs.StateRefusals.{RefusesPart, RefusesErasure, RefusesCut, RefusesRegionRead, RefusesChunkRead}

-- a refused store: a front of its chunks took their part
abbrev pub RefusesStore : Layout → Bool → Option Refusal → Box → ArrayData → List (List ℕ) → Refusal → StoreState → StoreState → Type 0
RefusesStore layout keep first region held chunks r old new =
    RefusesWrite Makes (λ indices. Takes layout keep region held indices old new) chunks (RefusesBy first r)
    (λ index failed. (first ≡ None) × RefusesPart layout keep region held index failed new r) old new

-- a refused erasure: a front of its chunks is gone
abbrev pub RefusesErase : Layout → Option Refusal → List (List ℕ) → Refusal → StoreState → StoreState → Type 0
RefusesErase layout first chunks r old new =
    RefusesWrite Makes (λ indices. Erases layout indices old new) chunks (RefusesBy first r)
    (λ index failed. (first ≡ None) × RefusesErasure failed new r) old new

-- a refused compaction: nothing is done
abbrev pub RefusesCompact : Layout → Option Refusal → List ℕ → Refusal → StoreState → StoreState → Type 0
RefusesCompact layout first index r old new =
    RefusesWrite Makes (λ indices. ⊥) (index ∷ []) (RefusesBy first r)
    (λ index failed. (first ≡ None) × RefusesCompactionOf layout index failed new r) old new

-- an accepted store of one chunk, by one writing call
abbrev pub StoresChunk : Layout → Bool → List ℕ → ArrayData → StoreState → StoreState → Type 0
StoresChunk layout keep index held old new =
    (store_chunk_refusal layout index held ≡ None) × StoresAll layout keep (box_at layout.grid index) held (index ∷ []) old new

-- a refused store of one chunk, which changes no value
abbrev pub RefusesStoreChunk : Layout → Bool → List ℕ → ArrayData → Refusal → StoreState → StoreState → Type 0
RefusesStoreChunk layout keep index held r old new =
    RefusesStore layout keep (store_chunk_refusal layout index held) (box_at layout.grid index) held (index ∷ []) r old new

-- an accepted store over the chunks of a range, each by one writing call
abbrev pub StoresChunks : Layout → Bool → Box → ArrayData → StoreState → StoreState → Type 0
StoresChunks layout keep range held old new =
    (store_chunks_refusal layout range held ≡ None) × StoresAll layout keep (chunks_box layout.grid range) held (positions range) old new

-- a refused store over a range, of which a front is done
abbrev pub RefusesStoreChunks : Layout → Bool → Box → ArrayData → Refusal → StoreState → StoreState → Type 0
RefusesStoreChunks layout keep range held r old new =
    RefusesStore layout keep (store_chunks_refusal layout range held) (chunks_box layout.grid range) held (positions range) r old new

-- an accepted store over a part of a chunk, by one writing call
abbrev pub StoresPart : Layout → Bool → List ℕ → Box → ArrayData → StoreState → StoreState → Type 0
StoresPart layout keep index part held old new =
    (store_part_refusal layout index part held ≡ None) × StoresAll layout keep (part_box (box_at layout.grid index) part) held (index ∷ []) old new

-- a refused store over a part of a chunk, which changes no value
abbrev pub RefusesStorePart : Layout → Bool → List ℕ → Box → ArrayData → Refusal → StoreState → StoreState → Type 0
RefusesStorePart layout keep index part held r old new =
    RefusesStore layout keep (store_part_refusal layout index part held) (part_box (box_at layout.grid index) part) held (index ∷ []) r old new

-- an accepted store over a region of an array of this shape, by one writing call for each chunk that it meets
abbrev pub StoresRegion : Layout → Bool → List ℕ → Box → ArrayData → StoreState → StoreState → Type 0
StoresRegion layout keep shape region held old new =
    (store_region_refusal layout shape region held ≡ None) × StoresAll layout keep region held (chunks_met layout.grid region) old new

-- a refused store over a region, of which a front is done
abbrev pub RefusesStoreRegion : Layout → Bool → List ℕ → Box → ArrayData → Refusal → StoreState → StoreState → Type 0
RefusesStoreRegion layout keep shape region held r old new =
    RefusesStore layout keep (store_region_refusal layout shape region held) region held (chunks_met layout.grid region) r old new

-- an accepted erasure of one chunk, by one writing call
abbrev pub ErasesChunk : Layout → List ℕ → StoreState → StoreState → Type 0
ErasesChunk layout index old new = (length_refusal layout index ≡ None) × ErasesAll layout (index ∷ []) old new

-- a refused erasure of one chunk, which changes no value
abbrev pub RefusesEraseChunk : Layout → List ℕ → Refusal → StoreState → StoreState → Type 0
RefusesEraseChunk layout index r old new = RefusesErase layout (length_refusal layout index) (index ∷ []) r old new

-- an accepted erasure of the chunks of a range, each by one writing call
abbrev pub ErasesChunks : Layout → Box → StoreState → StoreState → Type 0
ErasesChunks layout range old new = (length_refusal layout range.start ≡ None) × ErasesAll layout (positions range) old new

-- a refused erasure of the chunks of a range, of which a front is done
abbrev pub RefusesEraseChunks : Layout → Box → Refusal → StoreState → StoreState → Type 0
RefusesEraseChunks layout range r old new = RefusesErase layout (length_refusal layout range.start) (positions range) r old new

-- a refused compaction of one chunk, which changes no value
abbrev pub RefusesCompactChunk : Layout → List ℕ → Refusal → StoreState → StoreState → Type 0
RefusesCompactChunk layout index r old new = RefusesCompact layout (length_refusal layout index) index r old new

-- an accepted read of the chunks of a range, as of the region that they fill
abbrev pub RetrievesChunks : Layout → List ℕ → Box → ArrayData → StoreState → Type 0
RetrievesChunks layout shape range held state =
    (read_chunks_refusal layout shape range ≡ None) × ReadsRegion layout (chunks_box layout.grid range) (positions range) held state

-- a refused read of a range
abbrev pub RefusesRetrieveChunks : Layout → List ℕ → Box → Refusal → StoreState → Type 0
RefusesRetrieveChunks layout shape range r state =
    RefusesRegionRead layout (read_chunks_refusal layout shape range) (chunks_box layout.grid range) (positions range) state r

-- an accepted read of a part of a chunk; of all of it, that of the chunk
pub record RetrievesPart (layout : Layout) (index : List ℕ) (part : Box) (held : ArrayData) (state : StoreState) : Type 0 where
  pub accepted : read_part_refusal layout index part ≡ None
  pub whole : is_whole_of (box_at layout.grid index).shape part ≡ true → RetrievesChunk layout index held state
  pub proper : is_whole_of (box_at layout.grid index).shape part ≡ false
      → ReadsRegion layout (part_box (box_at layout.grid index) part) (index ∷ []) held state

-- a refused read of a part of a chunk; of all of it, as of the chunk once the arguments are tested
pub record RefusesRetrievePart (layout : Layout) (index : List ℕ) (part : Box) (r : Refusal) (state : StoreState) : Type 0 where
  pub whole : is_whole_of (box_at layout.grid index).shape part ≡ true
      → RefusesChunkRead layout (read_part_refusal layout index part) true index state r
  pub proper : is_whole_of (box_at layout.grid index).shape part ≡ false
      → RefusesRegionRead layout (read_part_refusal layout index part) (part_box (box_at layout.grid index) part) (index ∷ []) state r

-- an accepted read of a region: one cell for each position, that of the content if it has one there, which it has except in chunks
-- that do not decode
abbrev pub RetrievesRegion : Layout → List ℕ → Box → ArrayData → StoreState → Type 0
RetrievesRegion layout shape region held state =
    (read_region_refusal layout shape region ≡ None) × ReadsRegion layout region (chunks_met layout.grid region) held state

-- a refused read of a region: what the arguments decide first, then a cause among the chunks that it meets
abbrev pub RefusesRetrieveRegion : Layout → List ℕ → Box → Refusal → StoreState → Type 0
RefusesRetrieveRegion layout shape region r state =
    RefusesRegionRead layout (read_region_refusal layout shape region) region (chunks_met layout.grid region) state r

-- an accepted change of the array's shape, by one writing call for each chunk that it cuts
abbrev pub ResizesArray : Layout → Bool → List ℕ → List ℕ → StoreState → StoreState → Type 0
ResizesArray layout keep shape wanted old new = (resize_refusal layout wanted ≡ None) × CutsAll layout keep shape wanted old new

-- a refused one, whose arguments decide this refusal first: a front of these chunks is cut
abbrev pub RefusesCuts : Layout → Bool → List ℕ → Option Refusal → List ℕ → Refusal → StoreState → StoreState → Type 0
RefusesCuts layout keep shape first wanted r old new =
    RefusesWrite Makes (λ indices. Cuts layout keep wanted indices old new) (cut_chunks layout.grid shape wanted) (RefusesBy first r)
    (λ index failed. (first ≡ None) × RefusesCut layout keep wanted index failed new r) old new

abbrev pub RefusesResize : Layout → Bool → List ℕ → List ℕ → Refusal → StoreState → StoreState → Type 0
RefusesResize layout keep shape wanted r old new = RefusesCuts layout keep shape (resize_refusal layout wanted) wanted r old new

-- What an act does to the store of an array of this shape, and what it ends in, if this is the first refusal that its
-- arguments decide.
abbrev pub ActOutcome : Layout → Bool → List ℕ → Option Refusal → Act → Outcome → StoreState → StoreState → Type 0
ActOutcome layout keep shape first (store region held chunks) outcome.done old new = (first ≡ None) × StoresAll layout keep region held chunks old new
ActOutcome layout keep shape first (store region held chunks) (outcome.refused r) old new = RefusesStore layout keep first region held chunks r old new
ActOutcome layout keep shape first (erase chunks) outcome.done old new = (first ≡ None) × ErasesAll layout chunks old new
ActOutcome layout keep shape first (erase chunks) (outcome.refused r) old new = RefusesErase layout first chunks r old new
ActOutcome layout keep shape first (compact index) (outcome.compacted answer) old new = (first ≡ None) × CompactsChunk layout index answer old new
ActOutcome layout keep shape first (compact index) (outcome.refused r) old new = RefusesCompact layout first index r old new
ActOutcome layout keep shape first (read region chunks) (outcome.cells held) old new =
    (new ≡ old) × (first ≡ None) × ReadsRegion layout region chunks held old
ActOutcome layout keep shape first (read region chunks) (outcome.refused r) old new = (new ≡ old) × RefusesRegionRead layout first region chunks old r
ActOutcome layout keep shape first (read_chunk true index) (outcome.cells held) old new =
    (new ≡ old) × (first ≡ None) × RetrievesChunk layout index held old
ActOutcome layout keep shape first (read_chunk false index) (outcome.maybe found) old new =
    (new ≡ old) × (first ≡ None) × RetrievesIfExists layout index found old
ActOutcome layout keep shape first (read_chunk needed index) (outcome.refused r) old new = (new ≡ old) × RefusesChunkRead layout first needed index old r
ActOutcome layout keep shape first (resize wanted) outcome.done old new = (first ≡ None) × CutsAll layout keep shape wanted old new
ActOutcome layout keep shape first (resize wanted) (outcome.refused r) old new = RefusesCuts layout keep shape first wanted r old new
-- it ends in nothing else
ActOutcome layout keep shape first act ended old new = ⊥

-- the same with a reply
abbrev pub ActStep : Layout → Bool → List ℕ → Option Refusal → Act → Reply → StoreState → StoreState → Type 0
ActStep layout keep shape first act reply old new = ActOutcome layout keep shape first act (outcome_of reply) old new

-- The engine may return this reply to the call and go from old to new; empty chunks are kept or not.
abbrev pub Step : Layout → Bool → Call → Reply → ArrayState → ArrayState → Type 0
Step layout keep call reply old new =
    (new.shape ≡ shape_after (act_of layout call) reply old.shape)
    × ActStep layout keep old.shape (argument_refusal layout old.shape call) (act_of layout call) reply old.store new.store

-- these replies to these calls, one step after another, each from the state that the one before it left
abbrev pub Run : Layout → Bool → List Call → List Reply → ArrayState → ArrayState → Type 0
Run layout keep [] [] old new = new ≡ old
Run layout keep (call ∷ calls) (reply ∷ replies) old new =
    (mid : ArrayState) × Step layout keep call reply old mid × Run layout keep calls replies mid new
Run layout keep [] (reply ∷ replies) old new = ⊥
Run layout keep (call ∷ calls) [] old new = ⊥
