-- What reads of regions leave in data over a larger box, and in targets.
use Rattle.std.specs.Prelude.{◌≡◌, ◌++◌, Bool, List, [], ◌∷◌, ℕ, true, false, Some, Contains, Result, IfErr, OnOk}
use Rattle.zarrs_subset.specs.Boxes.{offset_by, offset_from}
use Rattle.zarrs_subset.specs.Regions.{Box, Holds, place_in}
use Rattle.zarrs_chunk_grid.specs.Grids.{box_at}
use Rattle.zarrs_storage.specs.Store.{StoreState}
use Rattle.zarrs_data_type.specs.Cell.{Cell, is_value}
use Rattle.zarrs_data_type.specs.ArrayData.{ArrayData}
use Rattle.zarrs_data_type.specs.Cells.{cell_at}
use Rattle.zarrs_engine_calls.specs.ChunkBoxes.{CoversBox}
use Rattle.zarrs_engine_calls.specs.Content.{value_at, content}
use Rattle.zarrs_engine_calls.specs.Fronts.{is_in_chunks}
use Rattle.zarrs_engine_calls.specs.Layout.{Layout}
use Rattle.zarrs_engine_calls.specs.Reads.{IsBroken}
use Rattle.zarrs_engine_calls.specs.Refusals.{refusal_of}
use Rattle.zarrs_engine_calls.specs.StateRefusals.{RefusesSomeChunk}
use Rattle.zarrs_engine_calls.specs.declared.error.ArrayError.{ArrayError}
use Rattle.zarrs_data_type_region.specs.declared.target.ArrayBytesDecodeIntoTarget.{ArrayBytesDecodeIntoTarget}
use Rattle.zarrs_data_type.specs.States.{KeepsTarget, data_of_target, parent_box, target_box}
use Rattle.zarrs_data_type.specs.Targets.{takes_type}

-- the cell is a value of the type, and the content at the position, wherever there is one
pub record IsRead (layout : Layout) (state : StoreState) (position : List ℕ) (cell : Cell) : Type 0 where
  pub value : is_value layout.kind cell ≡ true
  pub same : (found : Cell) → content layout (value_at state) position ≡ Some found → cell ≡ found

-- where in an array over `box` a position of a region lies, if the region's first position lies at the corner
abbrev pub place_from : (box : Box) (corner : List ℕ) (region : Box) (position : List ℕ) → ℕ
place_from box corner region position = place_in box (offset_by corner (offset_from region.start position))

-- data over `box` has a cell that was read for each position of the region, which lies at `own`
abbrev pub HasPositions : Layout → (region : Box) → StoreState → (box own : Box) → ArrayData → Type 0
HasPositions layout region state box own held =
    (position : List ℕ) → Holds region position → IsRead layout state position (cell_at layout.kind held (place_from box own.start region position))

-- The same for each position of the region that these chunks have. A chunk that the region covers decodes.
pub record HasReadInto (layout : Layout) (region : Box) (chunks : List (List ℕ)) (state : StoreState) (box own : Box) (held : ArrayData) : Type 0 where
  pub each : (position : List ℕ) → Holds region position → is_in_chunks layout chunks position ≡ true
      → IsRead layout state position (cell_at layout.kind held (place_from box own.start region position))
  pub whole : (index : List ℕ) → Contains chunks index → CoversBox region (box_at layout.grid index) → IsBroken layout index state → ⊥

-- data over `box` has the fill value at each position of the region, which lies at `own`, that these chunks do not have
abbrev pub HasFillElsewhere : Layout → (region : Box) → (chunks : List (List ℕ)) → (box own : Box) → ArrayData → Type 0
HasFillElsewhere layout region chunks box own held =
    (position : List ℕ) → Holds region position → is_in_chunks layout chunks position ≡ false
    → cell_at layout.kind held (place_from box own.start region position) ≡ layout.fill

-- these chunks were read so far, and the rest of a box that was filled is still fill
pub record HasReadSoFar (layout : Layout) (filled : Bool) (region : Box) (chunks : List (List ℕ)) (state : StoreState) (box own : Box)
    (held : ArrayData) : Type 0 where
  pub read : HasReadInto layout region chunks state box own held
  pub rest : filled ≡ true → HasFillElsewhere layout region chunks box own held

-- one more chunk was read
abbrev pub ReadsOneMoreInto : Layout → Bool → Box → List ℕ → StoreState → (box own : Box) → ArrayData → ArrayData → Type 0
ReadsOneMoreInto layout filled region index state box own old new =
    (chunks : List (List ℕ)) → HasReadSoFar layout filled region chunks state box own old
    → HasReadSoFar layout filled region (chunks ++ index ∷ []) state box own new

-- the target takes the cells of the region: it has the cells of the array's type, in a box of the region's shape
pub record TakesRegion (layout : Layout) (region : Box) (t : ArrayBytesDecodeIntoTarget) : Type 0 where
  pub takes : takes_type t.cell_size t.depth layout.kind ≡ true
  pub same_shape : (target_box t).shape ≡ region.shape

-- One chunk was read into its part of the target's box, or the read is refused. Every byte outside the box stays.
pub record ReadsChunkInto (layout : Layout) (filled : Bool) (region : Box) (index : List ℕ) (state : StoreState)
    (old new : ArrayBytesDecodeIntoTarget) (result : Result (Unit {0}) ArrayError) : Type 0 where
  pub kept : KeepsTarget old new
  pub read : OnOk result (ReadsOneMoreInto layout filled region index state (parent_box old) (target_box old) (data_of_target old) (data_of_target new))
  pub refused : IfErr result (λ e. RefusesSomeChunk layout region (index ∷ []) state (refusal_of e))
