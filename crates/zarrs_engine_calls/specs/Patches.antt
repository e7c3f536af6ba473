-- What a store leaves that may write the parts of chunks by themselves: which chunks take their part by themselves, the cells
-- of a chunk whose cells were known, and what its key holds.
use Rattle.std.specs.Prelude.{◌≡◌, ◌⊎◌, ◌&&◌, ℕ, Bool, true, List, [], ◌∷◌, length, Option, None, Some, Contains}
use Rattle.std.specs.Prelude.{IsSome, if◌then◌else◌}
use Rattle.zarrs_subset.specs.Boxes.{position_count}
use Rattle.zarrs_subset.specs.Regions.{Box, Holds, cell_in, in_box, overlap_of}
use Rattle.zarrs_chunk_grid.specs.Grids.{box_at, has_box}
use Rattle.zarrs_storage.specs.Store.{StoreState}
use Rattle.zarrs_data_type.specs.Cell.{Cell}
use Rattle.zarrs_data_type.specs.ArrayData.{ArrayData}
use Rattle.zarrs_data_type.specs.Cells.{cells}
use Rattle.zarrs_data_type.specs.Parts.{ExtractsCells}
use Rattle.zarrs_codec_leaf.specs.declared.error.CodecError.{CodecError}
use Rattle.zarrs_codec_shard.specs.PartialShards.{PartialChange, after}
use Rattle.zarrs_codec_chain.specs.Chain.{chunk_cells, partial_encoding}
use Rattle.zarrs_codec_chain.specs.Refusals.{RefusesPartialEncoding}
use Rattle.zarrs_engine_calls.specs.Layout.{ArrayState, Layout}
use Rattle.zarrs_engine_calls.specs.declared.call.Call.{Call}
use Rattle.zarrs_engine_calls.specs.declared.call.Reply.{Reply}
use Rattle.zarrs_engine_calls.specs.declared.call.Reply.TheVariants.{Done, Refused}
use Rattle.zarrs_engine_calls.specs.Acts.{Act, store, act_of, shape_after}
use Rattle.zarrs_engine_calls.specs.Content.{value_at, content, Reads}
use Rattle.zarrs_engine_calls.specs.Refusals as refusal
use Rattle.zarrs_engine_calls.specs.Refusals.{Refusal, RefusesBy, refusal_of, refusal_of_codec}
use Rattle.zarrs_engine_calls.specs.Changes.{ChangesKeysOf, HoldsValue, MakesParts}
use Rattle.zarrs_engine_calls.specs.ChunkBoxes.{chunks_met, part_box}
use Rattle.zarrs_engine_calls.specs.ArgumentRefusals.{argument_refusal, store_part_refusal, store_region_refusal}
use Rattle.zarrs_engine_calls.specs.Step.{ActStep}
use Rattle.zarrs_engine_calls.specs.Fronts.{RefusesWrite}
use Rattle.zarrs_engine_calls.specs.ChunkBoxes.{chunk_part}
use Rattle.zarrs_engine_calls.specs.StateRefusals.{CallFails, IsPart, RefusesPart}

-- ---- which chunks take their part by themselves

-- whether the parts of chunks are written by themselves: that is asked for, and the chain and the store can
abbrev pub writes_parts : Bool → Layout → StoreState → Bool
writes_parts asked layout state = asked && (layout.chain.encodes_partly && state.sets_parts)

-- A store over the region writes the part of this chunk by itself: it writes parts, and covers a part of the chunk alone.
abbrev pub IsPatched : Layout → Bool → Box → StoreState → List ℕ → Type 0
IsPatched layout asked region state index = (writes_parts asked layout state ≡ true) × IsPart layout region index

-- so does an encoder, whatever the part
abbrev pub IsEncoded : Layout → StoreState → List ℕ → Type 0
IsEncoded layout state index = writes_parts true layout state ≡ true

-- ---- what is left

-- the cells of the chunk, if it is absent or its bytes decode
abbrev pub known_cells : Layout → List ℕ → StoreState → Option (List Cell)
known_cells layout index state = chunk_cells layout.chain layout.kind layout.fill (box_at layout.grid index).shape (value_at state (layout.key index))

-- The key of the chunk holds what a partial encode makes of what stood at it, for the part that the region has of the chunk and
-- the cells of the region there.
pub record HoldsPart (layout : Layout) (keep : Bool) (region : Box) (given : List Cell) (index : List ℕ) (old new : StoreState) : Type 0 where
  pub taken : List Cell
  pub reads : Reads (cell_in region given) (overlap_of region (box_at layout.grid index)) taken
  pub change : PartialChange
  pub encoded : layout.chain.partly_encoded keep layout.kind layout.fill (box_at layout.grid index).shape (value_at old (layout.key index))
      (chunk_part region (box_at layout.grid index)) taken ≡ Some change
  pub held : value_at new (layout.key index) ≡ after change (value_at old (layout.key index))

-- These chunks, and no others, took their part of the cells of a region, some of them by themselves: such a one has these cells
-- if its cells were known.
pub record Patches (layout : Layout) (keep : Bool) (itself : List ℕ → Type 0) (region : Box) (given : List Cell) (indices : List (List ℕ))
    (old new : StoreState) : Type 0 where
  pub boxed : (index : List ℕ) → Contains indices index → has_box layout.grid index ≡ true
  pub keys : ChangesKeysOf layout indices old new
  pub inside : (index : List ℕ) → Contains indices index → (itself index → IsSome (known_cells layout index old))
      → (position : List ℕ) → Holds (box_at layout.grid index) position
      → content layout (value_at new) position
      ≡ (if in_box region position then cell_in region given position else content layout (value_at old) position)
  -- what the key holds of a chunk that is stored whole, and of one that took its part by itself
  pub whole : (index : List ℕ) → Contains indices index → (itself index → ⊥) → HoldsValue layout keep index new
  pub partly : (index : List ℕ) → Contains indices index → itself index → HoldsPart layout keep region given index old new

-- the data is one cell for each position of the region, and these chunks took their part of them
pub record TakesPatches (layout : Layout) (keep : Bool) (itself : List ℕ → Type 0) (region : Box) (held : ArrayData) (indices : List (List ℕ))
    (old new : StoreState) : Type 0 where
  pub given : List Cell
  pub are_cells : cells layout.kind held ≡ Some given
  pub count : length given ≡ position_count region.shape
  pub patches : Patches layout keep itself region given indices old new

-- an accepted store: each chunk took its part, by one writing call
pub record PatchesAll (layout : Layout) (keep : Bool) (itself : List ℕ → Type 0) (region : Box) (held : ArrayData) (chunks : List (List ℕ))
    (old new : StoreState) : Type 0 where
  pub takes : TakesPatches layout keep itself region held chunks old new
  pub makes : MakesParts itself chunks (length chunks) 0 old new

-- ---- why a chunk does not take its part

-- the cells of a part are not encoded into what is present at the key of a chunk of this shape
pub record IsNotEncoded (layout : Layout) (keep : Bool) (shape : List ℕ) (stored : Option (List ℕ))
    (part : Box) (held : ArrayData) (r : Refusal) : Type 0 where
  pub error : CodecError
  pub is : r ≡ refusal_of_codec error
  pub cause : RefusesPartialEncoding layout.chain keep layout.kind layout.fill shape stored part held error

-- they are
abbrev pub IsEncodedAs : Layout → Bool → List ℕ → StoreState → Box → ArrayData → Type 0
IsEncodedAs layout keep index state part held =
    IsSome (partial_encoding layout.chain keep layout.kind layout.fill (box_at layout.grid index).shape (value_at state (layout.key index)) part held)

-- the key of the chunk refuses to be read
abbrev pub RefusesKey : Layout → List ℕ → ℕ → StoreState → Type 0
RefusesKey layout index failed new = (failed ≡ 0) × (new.refuses (layout.key index) ≡ true)

-- Why this part, seen from the chunk's origin, is not written by itself, in the store state at that moment. The key
-- of its chunk refuses to be read, or the part is encoded and the writing call failed (E7). The part is not encoded
-- (E4, E8), or out of memory (E9).
abbrev pub RefusesPartly : Layout → Bool → List ℕ → Box → ArrayData → ℕ → StoreState → Refusal → Type 0
RefusesPartly layout keep index part held failed new refusal.storage =
    RefusesKey layout index failed new ⊎ (IsEncodedAs layout keep index new part held × CallFails failed new)
RefusesPartly layout keep index part held failed new refusal.out_of_memory = Unit {0}
RefusesPartly layout keep index part held failed new r =
    (failed ≡ 0) × IsNotEncoded layout keep (box_at layout.grid index).shape (value_at new (layout.key index)) part held r

-- the same of the part that the region has of the chunk, and of data that are the cells of the region there
pub record RefusesPartOf (layout : Layout) (keep : Bool) (region : Box) (held : ArrayData) (index : List ℕ) (failed : ℕ) (new : StoreState)
    (r : Refusal) : Type 0 where
  pub taken : ArrayData
  pub are_cells : ExtractsCells layout.kind region held (overlap_of region (box_at layout.grid index)) taken
  pub cause : RefusesPartly layout keep index (chunk_part region (box_at layout.grid index)) taken failed new r

-- why a chunk that takes its part by itself does not: this, or out of memory (E9)
abbrev pub RefusesItself : Layout → Bool → Box → ArrayData → List ℕ → ℕ → StoreState → Refusal → Type 0
RefusesItself layout keep region held index failed new r = (r ≡ refusal.out_of_memory) ⊎ RefusesPartOf layout keep region held index failed new r

-- why a chunk does not take its part: it is not stored whole, or, of one that takes it by itself, its part is not written
pub record RefusesPatch (layout : Layout) (keep : Bool) (itself : List ℕ → Type 0) (region : Box) (held : ArrayData) (index : List ℕ) (failed : ℕ)
    (new : StoreState) (r : Refusal) : Type 0 where
  pub whole : (itself index → ⊥) → RefusesPart layout keep region held index failed new r
  pub partly : itself index → RefusesItself layout keep region held index failed new r

-- a refused store: a front of its chunks took their part
abbrev pub RefusesPatches : Layout → Bool → (List ℕ → Type 0) → Option Refusal → Box → ArrayData → List (List ℕ) → Refusal → StoreState → StoreState → Type 0
RefusesPatches layout keep itself first region held chunks r old new =
    RefusesWrite (MakesParts itself chunks) (λ indices. TakesPatches layout keep itself region held indices old new) chunks (RefusesBy first r)
    (λ index failed. (first ≡ None) × RefusesPatch layout keep itself region held index failed new r) old new

-- ---- stores

-- an accepted store over a part of a chunk, and a refused one, which changes no value
abbrev pub PatchesPart : Layout → Bool → Bool → List ℕ → Box → ArrayData → StoreState → StoreState → Type 0
PatchesPart layout keep asked index part held old new =
    (store_part_refusal layout index part held ≡ None)
    × PatchesAll layout keep (IsPatched layout asked (part_box (box_at layout.grid index) part) old) (part_box (box_at layout.grid index) part) held
    (index ∷ []) old new

abbrev pub RefusesPatchPart : Layout → Bool → Bool → List ℕ → Box → ArrayData → Refusal → StoreState → StoreState → Type 0
RefusesPatchPart layout keep asked index part held r old new =
    RefusesPatches layout keep (IsPatched layout asked (part_box (box_at layout.grid index) part) old) (store_part_refusal layout index part held)
    (part_box (box_at layout.grid index) part) held (index ∷ []) r old new

-- an accepted store over a region of an array of this shape, and a refused one, of which a front is done
abbrev pub PatchesRegion : Layout → Bool → Bool → List ℕ → Box → ArrayData → StoreState → StoreState → Type 0
PatchesRegion layout keep asked shape region held old new =
    (store_region_refusal layout shape region held ≡ None)
    × PatchesAll layout keep (IsPatched layout asked region old) region held (chunks_met layout.grid region) old new

abbrev pub RefusesPatchRegion : Layout → Bool → Bool → List ℕ → Box → ArrayData → Refusal → StoreState → StoreState → Type 0
RefusesPatchRegion layout keep asked shape region held r old new =
    RefusesPatches layout keep (IsPatched layout asked region old) (store_region_refusal layout shape region held) region held
    (chunks_met layout.grid region) r old new

-- ---- an encoder of the parts of one chunk, which asks its key whatever the part

-- a part that was written
abbrev pub EncodesPart : Layout → Bool → List ℕ → Box → ArrayData → StoreState → StoreState → Type 0
EncodesPart layout keep index part held old new =
    (store_part_refusal layout index part held ≡ None)
    × PatchesAll layout keep (IsEncoded layout old) (part_box (box_at layout.grid index) part) held (index ∷ []) old new

-- why it is not: as of a store, and a chunk that is stored whole is refused by its key too
pub record RefusesEncoding (layout : Layout) (keep : Bool) (itself : List ℕ → Type 0) (region : Box) (held : ArrayData) (index : List ℕ) (failed : ℕ)
    (new : StoreState) (r : Refusal) : Type 0 where
  pub whole : (itself index → ⊥) → RefusesPart layout keep region held index failed new r ⊎ ((r ≡ refusal.storage) × RefusesKey layout index failed new)
  pub partly : itself index → RefusesItself layout keep region held index failed new r

-- a part that was refused: no value changes
abbrev pub RefusesEncodePart : Layout → Bool → List ℕ → Box → ArrayData → Refusal → StoreState → StoreState → Type 0
RefusesEncodePart layout keep index part held r old new =
    RefusesWrite (MakesParts (IsEncoded layout old) (index ∷ []))
    (λ indices. TakesPatches layout keep (IsEncoded layout old) (part_box (box_at layout.grid index) part) held indices old new) (index ∷ [])
    (RefusesBy (store_part_refusal layout index part held) r)
    (λ i failed. (store_part_refusal layout index part held ≡ None)
    × RefusesEncoding layout keep (IsEncoded layout old) (part_box (box_at layout.grid index) part) held i failed new r) old new

-- ---- steps and runs of which the stores may write parts by themselves

-- what an act does, as `ActStep` says, but for a store
abbrev pub PatchActStep : Layout → Bool → Bool → List ℕ → Option Refusal → Act → Reply → StoreState → StoreState → Type 0
PatchActStep layout keep asked shape first (store region held chunks) Done old new =
    (first ≡ None) × PatchesAll layout keep (IsPatched layout asked region old) region held chunks old new
PatchActStep layout keep asked shape first (store region held chunks) (Refused e) old new =
    RefusesPatches layout keep (IsPatched layout asked region old) first region held chunks (refusal_of e) old new
PatchActStep layout keep asked shape first act reply old new = ActStep layout keep shape first act reply old new

abbrev pub PatchStep : Layout → Bool → Bool → Call → Reply → ArrayState → ArrayState → Type 0
PatchStep layout keep asked call reply old new =
    (new.shape ≡ shape_after (act_of layout call) reply old.shape)
    × PatchActStep layout keep asked old.shape (argument_refusal layout old.shape call) (act_of layout call) reply old.store new.store

abbrev pub PatchRun : Layout → Bool → Bool → List Call → List Reply → ArrayState → ArrayState → Type 0
PatchRun layout keep asked [] [] old new = new ≡ old
PatchRun layout keep asked (call ∷ calls) (reply ∷ replies) old new =
    (mid : ArrayState) × PatchStep layout keep asked call reply old mid × PatchRun layout keep asked calls replies mid new
PatchRun layout keep asked [] (reply ∷ replies) old new = ⊥
PatchRun layout keep asked (call ∷ calls) [] old new = ⊥
