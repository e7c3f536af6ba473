-- The keys that a call may ask.
use Rattle.std.specs.Prelude.{◌≡◌, ◌⊎◌, ℕ, true, List, [], ◌∷◌, Option, Some, None, Contains, if◌then◌else◌}
use Rattle.std.specs.Option.{option_or}
use Rattle.zarrs_subset.specs.Regions.{Box, box_of, positions}
use Rattle.zarrs_chunk_grid.specs.Grids.{box_at}
use Rattle.zarrs_keys.specs.Keys.{IsIndexList}
use Rattle.zarrs_storage.specs.Store.{StoreState, MayReadWhole}
use Rattle.zarrs_engine_calls.specs.Layout.{Layout, ArrayState}
use Rattle.zarrs_engine_calls.specs.declared.call.Call.{Call}
use Rattle.zarrs_engine_calls.specs.declared.call.Call.TheVariants as call
use Rattle.zarrs_engine_calls.specs.Refusals.{Refusal}
use Rattle.zarrs_engine_calls.specs.ArgumentRefusals.{chunk_refusal, dimensions_refusal, part_refusal, range_refusal, region_refusal, resize_refusal}
use Rattle.zarrs_engine_calls.specs.ChunkBoxes.{CoversBox, chunk_part, chunks_met, is_empty, part_box}
use Rattle.zarrs_engine_calls.specs.Content.{value_at}
use Rattle.zarrs_engine_calls.specs.Cuts.{cut_chunks, keeps_some}
use Rattle.zarrs_engine_calls.specs.StateRefusals.{IsPart}

-- What is refused of where a call is to read or write. It is a region that chunks do not cover, or a range whose
-- first or last index has no chunk. It is a part of an index without a chunk, or one that passes its chunk, or a
-- shape that the grid does not take. Such a call names no chunk.
abbrev pub location_refusal : Layout → List ℕ → Call → Option Refusal
location_refusal layout shape (call.StoreChunkSubset index part held) =
    option_or (chunk_refusal layout index.items) (part_refusal layout index.items (box_of part))
location_refusal layout shape (call.StoreArraySubset region held) = region_refusal layout shape (box_of region)
location_refusal layout shape (call.RetrieveChunks range) =
    option_or (dimensions_refusal layout shape (box_of range)) (if is_empty (box_of range) then None else range_refusal layout (box_of range))
location_refusal layout shape (call.RetrieveChunkSubset index part) =
    option_or (chunk_refusal layout index.items) (part_refusal layout index.items (box_of part))
location_refusal layout shape (call.RetrieveArraySubset region) = region_refusal layout shape (box_of region)
location_refusal layout shape (call.Resize wanted) = resize_refusal layout wanted.items
location_refusal layout shape _ = None

-- The chunks of which the call may ask the key. Of a read they are those that it names or meets, of a store of a part
-- or of a region those of which it covers a part only. Of a compaction it is its one chunk, of a change of the shape
-- those that it cuts and of which it keeps some. (The shape is that of the array as the call begins.)
abbrev pub Reach : Layout → List ℕ → Call → List ℕ → Type 0
Reach layout shape (call.StoreChunk index held) i = ⊥
Reach layout shape (call.StoreChunks range held) i = ⊥
Reach layout shape (call.StoreChunkSubset index part held) i = (i ≡ index.items) × IsPart layout (part_box (box_at layout.grid index.items) (box_of part)) i
Reach layout shape (call.StoreArraySubset region held) i = Contains (chunks_met layout.grid (box_of region)) i × IsPart layout (box_of region) i
Reach layout shape (call.EraseChunk index) i = ⊥
Reach layout shape (call.EraseChunks range) i = ⊥
Reach layout shape (call.CompactChunk index) i = i ≡ index.items
Reach layout shape (call.RetrieveChunkIfExists index) i = i ≡ index.items
Reach layout shape (call.RetrieveChunk index) i = i ≡ index.items
Reach layout shape (call.RetrieveChunks range) i = Contains (positions (box_of range)) i
Reach layout shape (call.RetrieveChunkSubset index part) i = i ≡ index.items
Reach layout shape (call.RetrieveArraySubset region) i = Contains (chunks_met layout.grid (box_of region)) i
Reach layout shape (call.Resize wanted) i = Contains (cut_chunks layout.grid shape wanted.items) i × (keeps_some layout.grid wanted.items i ≡ true)

-- the key of the chunk and each place of its bytes may be asked
pub record MayAsk (layout : Layout) (index : List ℕ) (state : ArrayState) : Type 0 where
  pub key : state.store.may_ask (layout.key index) ≡ true
  pub places : (place : ℕ) → state.store.may_read (layout.key index) place ≡ true

-- What the call may ask may be asked. A call whose region, range, part or shape is refused asks nothing, and an index list
-- of another length names no key.
abbrev pub MayAskCall : Layout → Call → ArrayState → Type 0
MayAskCall layout call state =
    location_refusal layout state.shape call ≡ None
    → (index : List ℕ) → Reach layout state.shape call index → IsIndexList layout.grid.dimensions index → MayAsk layout index state

-- the shape that the call may leave an array of this shape: the same, or that of a change of the shape which its arguments
-- do not refuse
abbrev pub MayLeave : Layout → Call → List ℕ → List ℕ → Type 0
MayLeave layout (call.Resize wanted) shape later = (later ≡ shape) ⊎ ((resize_refusal layout wanted.items ≡ None) × (later ≡ wanted.items))
MayLeave layout _ shape later = later ≡ shape

-- what each of these calls may ask may be asked, whatever shape the calls before it leave
abbrev pub MayAskCalls : Layout → List Call → ArrayState → Type 0
MayAskCalls layout [] state = Unit {0}
MayAskCalls layout (call ∷ calls) state =
    MayAskCall layout call state
    × ((later : List ℕ) → MayLeave layout call state.shape later → MayAskCalls layout calls (record state { shape = later }))

-- the key of the chunk and each place of its value may be asked; an index list of another length names no key
pub record MayAskChunk (layout : Layout) (index : List ℕ) (state : StoreState) : Type 0 where
  pub key : IsIndexList layout.grid.dimensions index → state.may_ask (layout.key index) ≡ true
  pub places : IsIndexList layout.grid.dimensions index → MayReadWhole state (layout.key index)

-- what reads of these chunks may ask may be asked
abbrev pub MayAskChunks : Layout → List (List ℕ) → StoreState → Type 0
MayAskChunks layout chunks state = (index : List ℕ) → Contains chunks index → MayAskChunk layout index state

-- the same for each of these chunks of which a position is below the shape
abbrev pub MayAskKept : Layout → List ℕ → List (List ℕ) → StoreState → Type 0
MayAskKept layout shape chunks state =
    (index : List ℕ) → Contains chunks index → keeps_some layout.grid shape index ≡ true → MayAskChunk layout index state

-- the same for each of these chunks of which the region covers a part alone
abbrev pub MayAskParts : Layout → Box → List (List ℕ) → StoreState → Type 0
MayAskParts layout region chunks state = (index : List ℕ) → Contains chunks index → IsPart layout region index → MayAskChunk layout index state

-- ---- reads of parts

-- The key of the chunk may be asked, and the places of its value that a decode of this part needs. The part is seen from
-- the corner of the chunk. An index list of another length names no key.
pub record MayDecodePart (layout : Layout) (part : Box) (index : List ℕ) (state : StoreState) : Type 0 where
  pub key : IsIndexList layout.grid.dimensions index → state.may_ask (layout.key index) ≡ true
  pub places : IsIndexList layout.grid.dimensions index → (value : List ℕ) (place : ℕ) → value_at state (layout.key index) ≡ Some value
      → layout.chain.places layout.kind (box_at layout.grid index).shape part value place ≡ true
      → state.may_read (layout.key index) place ≡ true

-- The key of the chunk may be asked, and the places of its value that a read of the region needs: those of its part, and
-- each place if the region covers the chunk.
pub record MayReadPart (layout : Layout) (region : Box) (index : List ℕ) (state : StoreState) : Type 0 where
  pub part : MayDecodePart layout (chunk_part region (box_at layout.grid index)) index state
  pub whole : CoversBox region (box_at layout.grid index) → MayAskChunk layout index state

-- the same for each of these chunks
abbrev pub MayReadParts : Layout → Box → List (List ℕ) → StoreState → Type 0
MayReadParts layout region chunks state = (index : List ℕ) → Contains chunks index → MayReadPart layout region index state
