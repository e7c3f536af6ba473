-- The answer to a call depends on what the call may ask alone.
use Rattle.std.specs.Prelude.{◌≡◌, ◌⊎◌, ℕ, true, Bool, List, length, Option, None, Some, slice_get}
use Rattle.zarrs_subset.specs.Regions.{Box, IsLong, Holds}
use Rattle.zarrs_chunk_grid.specs.Grids.{box_at, chunks_box, has_box}
use Rattle.zarrs_storage.specs.Store.{StoreState}
use Rattle.zarrs_data_type.specs.ArrayData.{ArrayData}
use Rattle.zarrs_engine_calls.specs.Layout.{ArrayState, Layout, IsLawful}
use Rattle.zarrs_engine_calls.specs.Content.{value_at, content}
use Rattle.zarrs_engine_calls.specs.Changes.{RetrievesChunk}
use Rattle.zarrs_engine_calls.specs.ChunkBoxes.{part_box}
use Rattle.zarrs_engine_calls.specs.declared.call.Call.{Call}
use Rattle.zarrs_engine_calls.specs.declared.call.Reply.{Reply}
use Rattle.zarrs_engine_calls.specs.Laws.{DecodesOver}
use Rattle.zarrs_engine_calls.specs.Reach.{Reach, location_refusal}
use Rattle.zarrs_engine_calls.specs.ChunkBoxes.{chunk_part}
use Rattle.zarrs_engine_calls.specs.Step.{RetrievesChunks, RetrievesPart, RetrievesRegion, Step}

-- the same bytes are present at the key of the chunk, or none in both, and both refuse to read it or neither
pub record AgreeAt (layout : Layout) (a b : StoreState) (index : List ℕ) : Type 0 where
  pub values : value_at b (layout.key index) ≡ value_at a (layout.key index)
  pub refuses : b.refuses (layout.key index) ≡ a.refuses (layout.key index)

-- The states agree at each key that the call may ask, and have made as many writing calls (so both have one left, or
-- none). A call whose region, range, part or shape is refused asks none, and an index list of another length names none.
pub record AgreeFor (layout : Layout) (call : Call) (a b : ArrayState) : Type 0 where
  pub shape : b.shape ≡ a.shape
  pub reach : location_refusal layout a.shape call ≡ None → (index : List ℕ) → length index ≡ layout.grid.dimensions → Reach layout a.shape call index
      → AgreeAt layout a.store b.store index
  pub calls : b.store.calls ≡ a.store.calls

-- At each key the same bytes are present in the end, or both stores have what they had; and both have made as many writing
-- calls.
pub record AreChangedAlike (a b new_a new_b : StoreState) : Type 0 where
  pub values : (key : List ℕ)
      → (value_at new_b key ≡ value_at new_a key) ⊎ ((value_at new_a key ≡ value_at a key) × (value_at new_b key ≡ value_at b key))
  pub calls : new_b.calls ≡ new_a.calls

-- what a call may answer over one store it may answer over any other that agrees with it, and both are changed alike
abbrev pub AnswersDependOnTheReach : Type 0
AnswersDependOnTheReach =
    (layout : Layout) → IsLawful layout → (keep : Bool) (call : Call) (reply : Reply) (a b new_a : ArrayState)
    → AgreeFor layout call a b → Step layout keep call reply a new_a
    → (new_b : ArrayState) × Step layout keep call reply b new_b × AreChangedAlike a.store b.store new_a.store new_b.store

-- ---- places

-- both values are absent, or both are as long and have the same byte at each place that a read of the region needs
abbrev pub AgreeInPart : Layout → Box → Box → Option (List ℕ) → Option (List ℕ) → Type 0
AgreeInPart layout region chunk None None = Unit {0}
AgreeInPart layout region chunk (Some x) (Some y) =
    (length y ≡ length x)
    × ((n : ℕ) → layout.chain.places layout.kind chunk.shape (chunk_part region chunk) x n ≡ true → slice_get y n ≡ slice_get x n)
AgreeInPart layout region chunk x y = ⊥

-- so they do at each chunk that has a position of the region
abbrev pub AgreeAtPlaces : Layout → Box → StoreState → StoreState → Type 0
AgreeAtPlaces layout region a b =
    (index position : List ℕ) → has_box layout.grid index ≡ true → Holds region position → Holds (box_at layout.grid index) position
    → AgreeInPart layout region (box_at layout.grid index) (value_at a (layout.key index)) (value_at b (layout.key index))

-- for a read of the region the stores are the same: the chunks of both that have a position of it decode, and both agree at
-- the places that the read needs
pub record AgreeForRead (layout : Layout) (region : Box) (a b : StoreState) : Type 0 where
  pub decodes : DecodesOver layout region a
  pub other_decodes : DecodesOver layout region b
  pub places : AgreeAtPlaces layout region a b

-- then they have the same cells over it: so has each read of it that is accepted, into a target or by a decoder too
abbrev pub CellsDependOnPlaces : Type 0
CellsDependOnPlaces =
    (layout : Layout) → IsLawful layout → (region : Box) (a b : StoreState) → AgreeForRead layout region a b
    → (position : List ℕ) → Holds region position → content layout (value_at b) position ≡ content layout (value_at a) position

-- what an accepted read of the one returns an accepted read of the other may return: of a chunk, of a part of it, of the
-- chunks of a range, of a region
pub record AreReadAlike (layout : Layout) (shape : List ℕ) (a b : StoreState) : Type 0 where
  pub chunk : (index : List ℕ) (held : ArrayData) → AgreeForRead layout (box_at layout.grid index) a b
      → RetrievesChunk layout index held a → RetrievesChunk layout index held b
  pub part : (index : List ℕ) (part : Box) (held : ArrayData) → AgreeForRead layout (part_box (box_at layout.grid index) part) a b
      → RetrievesPart layout index part held a → RetrievesPart layout index part held b
  pub chunks : (range : Box) (held : ArrayData) → IsLong range → AgreeForRead layout (chunks_box layout.grid range) a b
      → RetrievesChunks layout shape range held a → RetrievesChunks layout shape range held b
  pub region : (region : Box) (held : ArrayData) → AgreeForRead layout region a b
      → RetrievesRegion layout shape region held a → RetrievesRegion layout shape region held b

abbrev pub ReadsDependOnPlaces : Type 0
ReadsDependOnPlaces = (layout : Layout) → IsLawful layout → (shape : List ℕ) (a b : StoreState) → AreReadAlike layout shape a b
