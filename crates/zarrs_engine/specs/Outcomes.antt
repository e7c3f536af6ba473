-- What the calls of an engine end in: what was asked is done, or refused. Each is of the state before, the state after and
-- the result. And what the store may be asked for a call: nothing where its indices, range, part or region is refused.
use Rattle.std.specs.Prelude.{◌≡◌, ℕ, Bool, true, false, if◌then◌else◌, List, [], ◌∷◌, Option, None, option_map, Result, OnOk, OnErr, IfOk, IfErr, IsErr}
use Rattle.std.specs.declared.alloc.AllocError.{AllocError}
use Rattle.std.specs.Prelude.{Vec}
use Rattle.std.specs.declared.alloc.Global.{Global}
use Rattle.std.specs.Option.{option_or}
use Rattle.zarrs_subset.specs.Regions.{Box, positions}
use Rattle.zarrs_storage.specs.Store.{KeepsRules, StoreState}
use Rattle.zarrs_storage.specs.declared.error.StorageError.{StorageError}
use Rattle.zarrs_chunk_grid.specs.declared.traits.ChunkGridTraits.{Ghosts as GridMeaning}
use Rattle.zarrs_keys.specs.declared.traits.ChunkKeyEncodingTraits.{Ghosts as KeyMeaning}
use Rattle.zarrs_codec_chain.specs.declared.traits.ChainTraits.{Ghosts as ChainMeanings}
use Rattle.zarrs_codec_chain.specs.Options.{encodes_partially, stores_empty_chunks}
use Rattle.zarrs_codec_chain.specs.declared.options.CodecOptions.{CodecOptions}
use Rattle.zarrs_data_type_bytes.specs.declared.array_bytes.ArrayBytes.{ArrayBytes}
use Rattle.zarrs_data_type.specs.ArrayData.{ArrayData, data_of}
use Rattle.zarrs_chunk_grid.specs.Grids.{box_at}
use Rattle.zarrs_engine_calls.specs.ArgumentRefusals.{chunk_refusal, dimensions_refusal, part_refusal, range_refusal, region_refusal}
use Rattle.zarrs_engine_calls.specs.ChunkBoxes.{chunks_met, is_empty, is_whole_of, part_box}
use Rattle.zarrs_engine_calls.specs.Step.{RetrievesChunks, RefusesRetrieveChunks, RetrievesPart, RefusesRetrievePart, RetrievesRegion, RefusesRetrieveRegion}
use Rattle.zarrs_engine_calls.specs.Step.{StoresChunks, RefusesStoreChunks, StoresPart, RefusesStorePart, ErasesChunks, RefusesEraseChunks}
use Rattle.zarrs_engine_calls.specs.Reach.{MayAskChunks, MayAskParts, MayReadPart, MayReadParts}
use Rattle.zarrs_engine_calls.specs.Refusals.{Refusal, refusal_of, refusal_of_storage, length_refusal}
use Rattle.zarrs_engine_calls.specs.Canon.{IsCanonical, KeepsCanon}
use Rattle.zarrs_engine_calls.specs.Changes.{RetrievesChunk, RetrievesIfExists}
use Rattle.zarrs_engine_calls.specs.Compactions.{CompactsChunk}
use Rattle.zarrs_engine_calls.specs.Content.{value_at}
use Rattle.zarrs_engine_calls.specs.StateRefusals.{RefusesChunkRead}
use Rattle.zarrs_engine_calls.specs.Step.{StoresChunk, RefusesStoreChunk, ErasesChunk, RefusesEraseChunk, RefusesCompactChunk}
use Rattle.zarrs_engine_calls.specs.Step.{StoresRegion, RefusesStoreRegion, ResizesArray, RefusesResize, Run, Step}
use Rattle.zarrs_engine_calls.specs.Headline.{IsOneFunctionThrough}
use Rattle.zarrs_engine_calls.specs.Laws.{EachDecodes}
use Rattle.zarrs_engine_calls.specs.Layout.{ArrayState, Layout}
use Rattle.zarrs_engine_calls.specs.declared.call.Call.{Call}
use Rattle.zarrs_engine_calls.specs.declared.call.Reply.{Reply}
use Rattle.zarrs_engine_calls.specs.Patches.{EncodesPart, PatchRun, PatchStep, PatchesPart, PatchesRegion, writes_parts}
use Rattle.zarrs_engine_calls.specs.Patches.{RefusesEncodePart, RefusesPatchPart, RefusesPatchRegion}
use Rattle.zarrs_engine_calls.specs.declared.error.ArrayError.{ArrayError}
use Rattle.zarrs_engine.specs.Engine.{layout_of, store_of, state_of, KeepsLayout, KeepsOthers}
use Rattle.zarrs_engine.specs.declared.engine.Engine.{Engine}

-- a read was made: it returns this data, or is refused
pub record Reads (returns : ArrayData → Type 0) (refuses : Refusal → Type 0) (result : Result ArrayBytes ArrayError) : Type 0 where
  pub cells : IfOk result (λ made. returns (data_of made))
  pub refused : IfErr result (λ e. refuses (refusal_of e))

-- The engine may return this reply to the call and go from old to new with these options: by a step that says of each chunk
-- whether it took its part by itself, and by one of whole chunks if none does.
pub record StepsAs (layout : Layout) (options : CodecOptions) (call : Call) (reply : Reply) (old new : ArrayState) : Type 0 where
  pub whole : writes_parts (encodes_partially options) layout old.store ≡ false → Step layout (stores_empty_chunks options) call reply old new
  pub partly : PatchStep layout (stores_empty_chunks options) (encodes_partially options) call reply old new

-- The calls were made in turn, and got these replies. Whatever the options, that is a run of steps: so says what the keys hold
-- of the chunks of which a part was written by itself; and the array is one function through the calls, if each chunk decodes
-- at first. If no part is written by itself, since none is asked for or the chain or the store cannot, the keys of the chunks
-- that were stored hold what their cells are encoded to.
pub record RunsAs (layout : Layout) (options : CodecOptions) (calls : List Call) (replies : List Reply) (old new : ArrayState) : Type 0 where
  pub patched : PatchRun layout (stores_empty_chunks options) (encodes_partially options) calls replies old new
  pub one_function : EachDecodes layout old.store → IsOneFunctionThrough layout calls replies old new
  pub run : writes_parts (encodes_partially options) layout old.store ≡ false → Run layout (stores_empty_chunks options) calls replies old new

-- Each chunk still decodes. If empty chunks are not kept, the bytes of a canonical store stay a function of its content.
pub record KeepsBytes (layout : Layout) (keep : Bool) (old new : StoreState) : Type 0 where
  pub decodes : EachDecodes layout old → EachDecodes layout new
  pub canonical : keep ≡ false → IsCanonical layout (value_at old) → IsCanonical layout (value_at new)

module _ {S G K C : Type 0} {g : GridMeaning G} {k : KeyMeaning K} {c : ChainMeanings C} where
  -- A writing call was made: its write is done, or refused by this error. Nothing but the store changed.
  pub record Writes {E : Type 0} (refusal : E → Refusal) (state : S → StoreState)
      (does : StoreState → StoreState → Type 0) (refuses : Refusal → StoreState → StoreState → Type 0)
      (old new : Engine S G K C g k c) (result : Result (Unit {0}) E) : Type 0 where
    pub done : OnOk result (does (store_of state old) (store_of state new))
    pub refused : IfErr result (λ e. refuses (refusal e) (store_of state old) (store_of state new))
    pub layout_kept : KeepsLayout old new

  -- The same of whole chunks: besides, a canonical store stays one, done or refused, if empty chunks are not kept.
  pub record WritesChunks {E : Type 0} (refusal : E → Refusal) (state : S → StoreState) (keep : Bool)
      (does : StoreState → StoreState → Type 0) (refuses : Refusal → StoreState → StoreState → Type 0)
      (old new : Engine S G K C g k c) (result : Result (Unit {0}) E) : Type 0 where
    pub done : OnOk result (does (store_of state old) (store_of state new))
    pub refused : IfErr result (λ e. refuses (refusal e) (store_of state old) (store_of state new))
    pub canonical : KeepsCanon (layout_of old) keep (store_of state old) (store_of state new)
    pub layout_kept : KeepsLayout old new

  -- a store of one chunk
  abbrev pub StoresChunkOrRefuses : (S → StoreState) → Bool → List ℕ → ArrayData
      → Engine S G K C g k c → Engine S G K C g k c → Result (Unit {0}) ArrayError → Type 0
  StoresChunkOrRefuses state keep index held old =
      WritesChunks refusal_of state keep (StoresChunk (layout_of old) keep index held) (RefusesStoreChunk (layout_of old) keep index held) old

  -- a store over the chunks of a range
  abbrev pub StoresChunksOrRefuses : (S → StoreState) → Bool → Box → ArrayData
      → Engine S G K C g k c → Engine S G K C g k c → Result (Unit {0}) ArrayError → Type 0
  StoresChunksOrRefuses state keep range held old =
      WritesChunks refusal_of state keep (StoresChunks (layout_of old) keep range held) (RefusesStoreChunks (layout_of old) keep range held) old

  -- a store over a part of a chunk, and that it may be asked for, if there is such a chunk and the part lies in it
  abbrev pub StoresPartOrRefuses : (S → StoreState) → Bool → List ℕ → Box → ArrayData
      → Engine S G K C g k c → Engine S G K C g k c → Result (Unit {0}) ArrayError → Type 0
  StoresPartOrRefuses state keep index part held old =
      WritesChunks refusal_of state keep (StoresPart (layout_of old) keep index part held) (RefusesStorePart (layout_of old) keep index part held) old

  abbrev pub MayStorePart : (S → StoreState) → List ℕ → Box → Engine S G K C g k c → Type 0
  MayStorePart state index part engine =
      let layout = layout_of engine in
      chunk_refusal layout index ≡ None → part_refusal layout index part ≡ None
      → MayAskParts layout (part_box (box_at layout.grid index) part) (index ∷ []) (store_of state engine)

  -- a store over a region, and that it may be asked for, if chunks cover the region
  abbrev pub StoresRegionOrRefuses : (S → StoreState) → Bool → Box → ArrayData
      → Engine S G K C g k c → Engine S G K C g k c → Result (Unit {0}) ArrayError → Type 0
  StoresRegionOrRefuses state keep region held old =
      let shape = (state_of state old).shape in
      WritesChunks refusal_of state keep (StoresRegion (layout_of old) keep shape region held) (RefusesStoreRegion (layout_of old) keep shape region held) old

  abbrev pub MayStoreRegion : (S → StoreState) → Box → Engine S G K C g k c → Type 0
  MayStoreRegion state region engine =
      let layout = layout_of engine in
      let now = state_of state engine in
      region_refusal layout now.shape region ≡ None → MayAskParts layout region (chunks_met layout.grid region) now.store

  -- an erasure of one chunk
  abbrev pub ErasesChunkOrRefuses : (S → StoreState) → List ℕ → Engine S G K C g k c → Engine S G K C g k c → Result (Unit {0}) StorageError → Type 0
  ErasesChunkOrRefuses state index old =
      WritesChunks refusal_of_storage state false (ErasesChunk (layout_of old) index) (RefusesEraseChunk (layout_of old) index) old

  -- the same by an encoder of its parts, whose refusals are those of arrays
  abbrev pub ErasesEncodedOrRefuses : (S → StoreState) → List ℕ → Engine S G K C g k c → Engine S G K C g k c → Result (Unit {0}) ArrayError → Type 0
  ErasesEncodedOrRefuses state index old = WritesChunks refusal_of state false (ErasesChunk (layout_of old) index) (RefusesEraseChunk (layout_of old) index) old

  -- an erasure of the chunks of a range
  abbrev pub ErasesChunksOrRefuses : (S → StoreState) → Box → Engine S G K C g k c → Engine S G K C g k c → Result (Unit {0}) StorageError → Type 0
  ErasesChunksOrRefuses state range old =
      WritesChunks refusal_of_storage state false (ErasesChunks (layout_of old) range) (RefusesEraseChunks (layout_of old) range) old

  -- a change of the array's shape: it is done, and nothing but the store and the shape changed; or it is refused, and the shape stays
  pub record ResizesOrRefuses (state : S → StoreState) (keep : Bool) (wanted : List ℕ) (old new : Engine S G K C g k c)
      (result : Result (Unit {0}) ArrayError) : Type 0 where
    pub done : OnOk result (ResizesArray (layout_of old) keep (state_of state old).shape wanted (store_of state old) (store_of state new))
    pub shape : OnOk result ((state_of state new).shape ≡ wanted)
    pub refused : IfErr result (λ e. RefusesResize (layout_of old) keep (state_of state old).shape wanted (refusal_of e) (store_of state old)
        (store_of state new))
    pub canonical : KeepsCanon (layout_of old) keep (store_of state old) (store_of state new)
    pub layout : layout_of new ≡ layout_of old
    pub others : KeepsOthers old new
    pub layout_kept : OnErr result (KeepsLayout old new)

  -- A compaction of one chunk: it answers whether it wrote, or is refused, as it is where the store refuses the key. On a
  -- canonical store it writes nothing.
  pub record CompactsChunkOrRefuses (state : S → StoreState) (index : List ℕ) (old new : Engine S G K C g k c) (result : Result Bool ArrayError) : Type 0 where
    pub done : IfOk result (λ answer. CompactsChunk (layout_of old) index answer (store_of state old) (store_of state new))
    pub refused : IfErr result (λ e. RefusesCompactChunk (layout_of old) index (refusal_of e) (store_of state old) (store_of state new))
    pub compact : IsCanonical (layout_of old) (value_at (store_of state old))
        → IfOk result (λ answer. (answer ≡ false) × (store_of state new ≡ store_of state old))
    pub canonical : KeepsCanon (layout_of old) false (store_of state old) (store_of state new)
    pub refusing : (store_of state old).refuses ((layout_of old).key index) ≡ true → IsErr result
    pub layout_kept : KeepsLayout old new

  -- a read of one chunk: its cells are returned, or the read is refused, as it is where the store refuses the key
  pub record RetrievesChunkOrRefuses (state : S → StoreState) (index : List ℕ)
      (engine : Engine S G K C g k c) (result : Result ArrayBytes ArrayError) : Type 0 where
    pub cells : IfOk result (λ made. RetrievesChunk (layout_of engine) index (data_of made) (store_of state engine))
    pub refused : IfErr result (λ e.
        RefusesChunkRead (layout_of engine) (length_refusal (layout_of engine) index) true index (store_of state engine) (refusal_of e))
    pub refusing : (store_of state engine).refuses ((layout_of engine).key index) ≡ true → IsErr result

  -- the same, if the chunk is present
  pub record RetrievesIfExistsOrRefuses (state : S → StoreState) (index : List ℕ)
      (engine : Engine S G K C g k c) (result : Result (Option ArrayBytes) ArrayError) : Type 0 where
    pub cells : IfOk result (λ found. RetrievesIfExists (layout_of engine) index (option_map data_of found) (store_of state engine))
    pub refused : IfErr result (λ e.
        RefusesChunkRead (layout_of engine) (length_refusal (layout_of engine) index) false index (store_of state engine) (refusal_of e))
    pub refusing : (store_of state engine).refuses ((layout_of engine).key index) ≡ true → IsErr result

  -- of the chunks of a range, and that it may be asked for, if there are such chunks
  abbrev pub RetrievesChunksOrRefuses : (S → StoreState) → Box → Engine S G K C g k c → Result ArrayBytes ArrayError → Type 0
  RetrievesChunksOrRefuses state range engine =
      let layout = layout_of engine in
      let now = state_of state engine in
      Reads (λ held. RetrievesChunks layout now.shape range held now.store) (λ r. RefusesRetrieveChunks layout now.shape range r now.store)

  abbrev pub MayRetrieveChunks : (S → StoreState) → Box → Engine S G K C g k c → Type 0
  MayRetrieveChunks state range engine =
      let layout = layout_of engine in
      let now = state_of state engine in
      option_or (dimensions_refusal layout now.shape range) (if is_empty range then None else range_refusal layout range) ≡ None
      → MayAskChunks layout (positions range) now.store

  -- of a part of a chunk: its cells are returned, or the read is refused; if the part is the whole chunk, it is where the store
  -- refuses the key
  pub record RetrievesPartOrRefuses (state : S → StoreState) (index : List ℕ) (part : Box)
      (engine : Engine S G K C g k c) (result : Result ArrayBytes ArrayError) : Type 0 where
    pub cells : IfOk result (λ made. RetrievesPart (layout_of engine) index part (data_of made) (store_of state engine))
    pub refused : IfErr result (λ e. RefusesRetrievePart (layout_of engine) index part (refusal_of e) (store_of state engine))
    pub refusing : is_whole_of (box_at (layout_of engine).grid index).shape part ≡ true
        → (store_of state engine).refuses ((layout_of engine).key index) ≡ true → IsErr result

  -- the store may be asked for a part of a chunk, if there is such a chunk and the part lies in it
  abbrev pub MayRetrievePart : (S → StoreState) → List ℕ → Box → Engine S G K C g k c → Type 0
  MayRetrievePart state index part engine =
      let layout = layout_of engine in
      chunk_refusal layout index ≡ None → part_refusal layout index part ≡ None
      → MayReadPart layout (part_box (box_at layout.grid index) part) index (store_of state engine)

  -- of a region, and that it may be asked for, if chunks cover the region
  abbrev pub RetrievesRegionOrRefuses : (S → StoreState) → Box → Engine S G K C g k c → Result ArrayBytes ArrayError → Type 0
  RetrievesRegionOrRefuses state region engine =
      let layout = layout_of engine in
      let now = state_of state engine in
      Reads (λ held. RetrievesRegion layout now.shape region held now.store) (λ r. RefusesRetrieveRegion layout now.shape region r now.store)

  abbrev pub MayRetrieveRegion : (S → StoreState) → Box → Engine S G K C g k c → Type 0
  MayRetrieveRegion state region engine =
      let layout = layout_of engine in
      let now = state_of state engine in
      region_refusal layout now.shape region ≡ None → MayReadParts layout region (chunks_met layout.grid region) now.store

  -- a store over a part of a chunk, whose parts are written by themselves where that is asked for
  abbrev pub PatchesPartOrRefuses : (S → StoreState) → Bool → Bool → List ℕ → Box → ArrayData
      → Engine S G K C g k c → Engine S G K C g k c → Result (Unit {0}) ArrayError → Type 0
  PatchesPartOrRefuses state keep asked index part held old =
      Writes refusal_of state (PatchesPart (layout_of old) keep asked index part held) (RefusesPatchPart (layout_of old) keep asked index part held) old

  -- a part of a chunk that an encoder writes: it is written, or refused, as it is where the store refuses the key of the chunk
  pub record EncodesPartOrRefuses (state : S → StoreState) (keep : Bool) (index : List ℕ) (part : Box) (held : ArrayData)
      (old new : Engine S G K C g k c) (result : Result (Unit {0}) ArrayError) : Type 0 where
    pub done : OnOk result (EncodesPart (layout_of old) keep index part held (store_of state old) (store_of state new))
    pub refused : IfErr result (λ e. RefusesEncodePart (layout_of old) keep index part held (refusal_of e) (store_of state old) (store_of state new))
    pub refusing : (store_of state old).refuses ((layout_of old).key index) ≡ true → IsErr result
    pub layout_kept : KeepsLayout old new

  -- a store over a part of a chunk with these options: the whole chunk is stored if no part is written by itself
  pub record StoresPartAs (state : S → StoreState) (options : CodecOptions) (index : List ℕ) (part : Box) (held : ArrayData)
      (old new : Engine S G K C g k c) (result : Result (Unit {0}) ArrayError) : Type 0 where
    pub whole : writes_parts (encodes_partially options) (layout_of old) (store_of state old) ≡ false
        → StoresPartOrRefuses state (stores_empty_chunks options) index part held old new result
    pub partly : PatchesPartOrRefuses state (stores_empty_chunks options) (encodes_partially options) index part held old new result

  -- the same over a region
  abbrev pub PatchesRegionOrRefuses : (S → StoreState) → Bool → Bool → Box → ArrayData
      → Engine S G K C g k c → Engine S G K C g k c → Result (Unit {0}) ArrayError → Type 0
  PatchesRegionOrRefuses state keep asked region held old =
      let shape = (state_of state old).shape in
      Writes refusal_of state (PatchesRegion (layout_of old) keep asked shape region held) (RefusesPatchRegion (layout_of old) keep asked shape region held) old

  pub record StoresRegionAs (state : S → StoreState) (options : CodecOptions) (region : Box) (held : ArrayData)
      (old new : Engine S G K C g k c) (result : Result (Unit {0}) ArrayError) : Type 0 where
    pub whole : writes_parts (encodes_partially options) (layout_of old) (store_of state old) ≡ false
        → StoresRegionOrRefuses state (stores_empty_chunks options) region held old new result
    pub partly : PatchesRegionOrRefuses state (stores_empty_chunks options) (encodes_partially options) region held old new result

  -- the calls were made in turn, and got these replies; or none was made, since the list of replies is out of memory. Nothing but the
  -- store and the array's shape changed
  pub record RepliesInTurn (state : S → StoreState) (options : CodecOptions) (calls : List Call) (old new : Engine S G K C g k c)
      (result : Result (Vec Reply Global) AllocError) : Type 0 where
    pub run : IfOk result (λ replies. RunsAs (layout_of old) options calls replies.items (state_of state old) (state_of state new))
    pub untouched : OnErr result (new ≡ old)
    pub layout : layout_of new ≡ layout_of old
    pub others : KeepsOthers old new
    pub reach : KeepsRules (store_of state old) (store_of state new)
    -- so it is if no part is written by itself
    pub bytes : writes_parts (encodes_partially options) (layout_of old) (store_of state old) ≡ false
        → KeepsBytes (layout_of old) (stores_empty_chunks options) (store_of state old) (store_of state new)
