-- What a read of a region has after some of its chunks.
use Rattle.std.specs.Prelude.{◌≡◌, ℕ, ◌++◌, List, [], ◌∷◌, length, None, Some, Contains, Option, Result, IfErr, IfNone, IfOk, IfSome, OnOk, if◌then◌else◌}
use Rattle.zarrs_chunk_grid.specs.Grids.{box_at}
use Rattle.zarrs_subset.specs.Boxes.{position_count}
use Rattle.zarrs_subset.specs.Regions.{Box, Holds, IsLong, cell_in, seen_from, LiesInBox}
use Rattle.zarrs_storage.specs.Store.{StoreState}
use Rattle.zarrs_data_type.specs.Cell.{Cell}
use Rattle.zarrs_data_type_bytes.specs.declared.array_bytes.ArrayBytes.{ArrayBytes}
use Rattle.zarrs_data_type.specs.ArrayData.{ArrayData, data_of}
use Rattle.zarrs_data_type.specs.Cells.{cells, HasCells}
use Rattle.zarrs_data_type.specs.Parts.{TakesCells}
use Rattle.zarrs_data_type.specs.RegionData.{region_data}
use Rattle.zarrs_data_type_region.specs.declared.region_cells.RegionCells.{RegionCells}
use Rattle.zarrs_engine_calls.specs.Layout.{Layout}
use Rattle.zarrs_codec_chain.specs.Parts.{DecodesPart}
use Rattle.zarrs_engine_calls.specs.Content.{value_at, content, decoded_cells}
use Rattle.zarrs_engine_calls.specs.ChunkBoxes.{CoversBox}
use Rattle.zarrs_engine_calls.specs.Fronts.{is_in_chunks}
use Rattle.zarrs_engine_calls.specs.ArgumentRefusals.{size_refusal}
use Rattle.zarrs_engine_calls.specs.Reach.{MayReadParts}
use Rattle.zarrs_engine_calls.specs.Reads.{IsBroken, ReadsRegion}
use Rattle.zarrs_engine_calls.specs.Refusals.{refusal_of}
use Rattle.zarrs_engine_calls.specs.StateRefusals.{IsPart, RefusesRegionRead, RefusesSomeChunk}
use Rattle.zarrs_engine_layout.specs.Covers.{CoverRegion}
use Rattle.zarrs_engine_calls.specs.declared.error.ArrayError.{ArrayError}

-- The data is one cell for each position of the region: in these chunks the content, wherever there is one, and else fill.
-- A chunk that the region covers decodes.
pub record HasRead (layout : Layout) (region : Box) (chunks : List (List ℕ)) (state : StoreState) (held : ArrayData) : Type 0 where
  pub given : List Cell
  pub are_cells : cells layout.kind held ≡ Some given
  pub count : length given ≡ position_count region.shape
  pub each : (position : List ℕ) (cell : Cell) → Holds region position
      → (if is_in_chunks layout chunks position then content layout (value_at state) position else Some layout.fill) ≡ Some cell
      → cell_in region given position ≡ Some cell
  pub whole : (index : List ℕ) → Contains chunks index → CoversBox region (box_at layout.grid index) → IsBroken layout index state → ⊥

-- one more chunk was read
abbrev pub ReadsOneMore : Layout → Box → List ℕ → StoreState → ArrayData → ArrayData → Type 0
ReadsOneMore layout region index state old new =
    (chunks : List (List ℕ)) → HasRead layout region chunks state old → HasRead layout region (chunks ++ index ∷ []) state new

-- the data is the cells that one chunk has of the region, which lie in this box: whatever takes them has read the chunk
pub record IsShare (layout : Layout) (region : Box) (index : List ℕ) (state : StoreState) (own : Box) (held : ArrayData) : Type 0 where
  pub dimensions : length region.start ≡ length own.start
  pub has : HasCells layout.kind held (position_count own.shape)
  pub reads : (old new : ArrayData) → TakesCells layout.kind region own held old new → ReadsOneMore layout region index state old new

-- the cells that one chunk has of the region were read, or it has none that are not fill, or the read is refused
pub record ReadsShare (layout : Layout) (region : Box) (index : List ℕ) (state : StoreState) (own : Box)
    (result : Result (Option ArrayBytes) ArrayError) : Type 0 where
  pub none : IfOk result (λ found. IfNone found ((held : ArrayData) → ReadsOneMore layout region index state held held))
  pub some : IfOk result (λ found. IfSome found (λ made. IsShare layout region index state own (data_of made)))
  pub refused : IfErr result (λ e. RefusesSomeChunk layout region (index ∷ []) state (refusal_of e))

-- the cells of a region took those that one chunk has of it, or the read is refused
pub record ReadsChunkOf (layout : Layout) (region : Box) (index : List ℕ) (state : StoreState) (held : ArrayData)
    (result : Result RegionCells ArrayError) : Type 0 where
  pub read : IfOk result (λ made. ReadsOneMore layout region index state held (region_data made))
  pub refused : IfErr result (λ e. RefusesSomeChunk layout region (index ∷ []) state (refusal_of e))

-- the chunk is present, and the data is a decode of a part of it, which is seen from its corner
pub record DecodesStored (layout : Layout) (index : List ℕ) (part : Box) (state : StoreState) (made : ArrayData) : Type 0 where
  pub encoded : List ℕ
  pub stands : value_at state (layout.key index) ≡ Some encoded
  pub decodes : DecodesPart layout.kind (box_at layout.grid index).shape part (decoded_cells layout (box_at layout.grid index) encoded) made

-- the region is this part of the chunk with this index, seen from the origin of the array, and does not cover the chunk
pub record IsRegionOf (layout : Layout) (index : List ℕ) (part region : Box) : Type 0 where
  pub long : IsLong region
  pub lies : LiesInBox region (box_at layout.grid index)
  pub seen : part ≡ seen_from region (box_at layout.grid index).start
  pub proper : IsPart layout region index

-- these chunks cover the region, and may be asked for their parts of it
pub record MayReadOver (layout : Layout) (region : Box) (chunks : List (List ℕ)) (state : StoreState) : Type 0 where
  pub cover : CoverRegion layout.grid region chunks
  pub ask : MayReadParts layout region chunks state

-- the region, which these chunks cover, was read, or the read is refused: first for its size
pub record ReadsOver (layout : Layout) (region : Box) (chunks : List (List ℕ)) (state : StoreState) (result : Result ArrayBytes ArrayError) : Type 0 where
  pub read : IfOk result (λ made. ReadsRegion layout region chunks (data_of made) state)
  pub accepted : OnOk result (size_refusal layout region.shape ≡ None)
  pub refused : IfErr result (λ e. RefusesRegionRead layout (size_refusal layout region.shape) region chunks state (refusal_of e))
