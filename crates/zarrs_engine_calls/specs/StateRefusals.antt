-- Why a call is refused that its arguments do not refuse.
use Rattle.std.specs.Prelude.{◌≡◌, ◌⊎◌, ℕ, [], ◌*◌, ◌<◌, ◌≤◌, ◌^◌, Bool, true, false, List, length, Option, Some, None}
use Rattle.std.specs.Prelude.{Contains, if◌then◌else◌}
use Rattle.std.specs.Option.{option_or}
use Rattle.std.specs.List.{sum_by}
use Rattle.zarrs_subset.specs.Boxes.{position_count}
use Rattle.zarrs_subset.specs.Regions.{Box, Holds, in_box, cell_in}
use Rattle.zarrs_chunk_grid.specs.Grids.{box_at}
use Rattle.zarrs_storage.specs.Store.{StoreState, last_call}
use Rattle.zarrs_data_type.specs.Kind.{cell_size}
use Rattle.zarrs_data_type.specs.Cell.{Cell, held_size}
use Rattle.zarrs_data_type.specs.Cell as cell
use Rattle.zarrs_data_type.specs.ArrayData.{ArrayData}
use Rattle.zarrs_data_type.specs.Cells.{cells}
use Rattle.zarrs_codec_chain.specs.Refusals.{IsTooLargeToDecode}
use Rattle.zarrs_engine_calls.specs.Layout.{Layout}
use Rattle.zarrs_engine_calls.specs.Content.{value_at, content, Reads}
use Rattle.zarrs_engine_calls.specs.Refusals as refusal
use Rattle.zarrs_engine_calls.specs.Refusals.{Refusal, RefusesBy, box_refusal, is_too_large, data_refusal, fill_refusal, key_refusal, read_refusal}
use Rattle.zarrs_engine_calls.specs.ChunkBoxes.{CoversBox, chunk_part}
use Rattle.zarrs_engine_calls.specs.Cuts.{beyond_box, is_below, keeps_some}
use Rattle.zarrs_engine_calls.specs.Reads.{IsBroken}

-- the number of bytes that a cell holds, and a list of cells
abbrev pub cell_length : Cell → ℕ
cell_length (cell.bytes b) = length b
cell_length cell.none = 0
cell_length (cell.some inner) = cell_length inner

-- the cells hold more bytes than a usize counts
abbrev pub AreLarge : List Cell → Type 0
AreLarge given = 2 ^ 64 ≤ sum_by cell_length given

-- the cell, or one without bytes if there is none
abbrev pub known_cell : Option Cell → Cell
known_cell None = cell.bytes []
known_cell (Some found) = found

-- the cells that are known in the box hold more bytes than a usize counts
abbrev pub IsLargeBox : Layout → Box → StoreState → Type 0
IsLargeBox layout box state =
    (given : List Cell) × Reads (λ position. Some (known_cell (content layout (value_at state) position))) box given × AreLarge given

-- the bytes of the chunk leave out cells, and a chunk of fill is too large
pub record NeedsLargeFill (layout : Layout) (index : List ℕ) (state : StoreState) : Type 0 where
  pub encoded : List ℕ
  pub stands : value_at state (layout.key index) ≡ Some encoded
  pub left_out : layout.chain.leaves_out (box_at layout.grid index).shape encoded ≡ true
  pub large : fill_refusal layout (box_at layout.grid index).shape ≡ Some refusal.size_overflow

-- the region covers a part of the chunk alone: a write reads it first
abbrev pub IsPart : Layout → Box → List ℕ → Type 0
IsPart layout region index = CoversBox region (box_at layout.grid index) → ⊥

-- the cells of a chunk of this box after it took its part of the data
pub record AreUpdated (layout : Layout) (region : Box) (held : ArrayData) (box : Box) (state : StoreState) (chunk : List Cell) : Type 0 where
  pub given : List Cell
  pub are_cells : cells layout.kind held ≡ Some given
  pub count : length chunk ≡ position_count box.shape
  pub each : (position : List ℕ) → Holds box position
      → cell_in box chunk position ≡ (if in_box region position then cell_in region given position else content layout (value_at state) position)

-- the chunk of these indices is to have cells of which this is the refusal
abbrev pub IsRefusedAs : Layout → Bool → Box → ArrayData → List ℕ → StoreState → Option Refusal → Type 0
IsRefusedAs layout keep region held index state r =
    (chunk : List Cell) × AreUpdated layout region held (box_at layout.grid index) state chunk
    × (data_refusal layout keep (box_at layout.grid index).shape (Some chunk) ≡ r)

-- the writing call failed, or none was left
abbrev pub CallFails : ℕ → StoreState → Type 0
CallFails failed new = (failed ≡ 1) ⊎ (new.calls ≡ last_call)

-- Why a chunk does not take its part, in the store state at that moment. Its key refuses to be read, or the writing
-- call failed (E7). It does not decode, or the chain takes no such chunk (E4). A size (E8), or out of memory (E9).
abbrev pub RefusesPart : Layout → Bool → Box → ArrayData → List ℕ → ℕ → StoreState → Refusal → Type 0
RefusesPart layout keep region held index failed new refusal.storage =
    ((failed ≡ 0) × (is_too_large layout (box_at layout.grid index).shape ≡ false) × IsPart layout region index
    × (new.refuses (layout.key index) ≡ true))
    ⊎ ((is_too_large layout (box_at layout.grid index).shape ≡ false) × IsRefusedAs layout keep region held index new None × CallFails failed new)
RefusesPart layout keep region held index failed new refusal.codec =
    (failed ≡ 0) × (is_too_large layout (box_at layout.grid index).shape ≡ false)
    × ((IsPart layout region index × IsBroken layout index new) ⊎ IsRefusedAs layout keep region held index new (Some refusal.codec))
RefusesPart layout keep region held index failed new refusal.size_overflow =
    (failed ≡ 0)
    × ((is_too_large layout (box_at layout.grid index).shape ≡ true)
    ⊎ (IsPart layout region index
    × (IsLargeBox layout (box_at layout.grid index) new ⊎ NeedsLargeFill layout index new))
    ⊎ IsRefusedAs layout keep region held index new (Some refusal.size_overflow))
RefusesPart layout keep region held index failed new refusal.out_of_memory = Unit {0}
RefusesPart layout keep region held index failed new _ = ⊥

-- why a chunk is not erased
abbrev pub RefusesErasure : ℕ → StoreState → Refusal → Type 0
RefusesErasure failed new refusal.storage = CallFails failed new
RefusesErasure failed new refusal.out_of_memory = Unit {0}
RefusesErasure failed new _ = ⊥

-- the cells of a chunk of this box after it was cut to the shape
pub record AreCut (layout : Layout) (shape : List ℕ) (box : Box) (state : StoreState) (chunk : List Cell) : Type 0 where
  pub count : length chunk ≡ position_count box.shape
  pub each : (position : List ℕ) → Holds box position
      → cell_in box chunk position ≡ (if is_below shape position then content layout (value_at state) position else Some layout.fill)

-- the chunk of these indices is to be cut to cells of which this is the refusal
abbrev pub IsCutAs : Layout → Bool → List ℕ → List ℕ → StoreState → Option Refusal → Type 0
IsCutAs layout keep shape index state r =
    (chunk : List Cell) × AreCut layout shape (box_at layout.grid index) state chunk
    × (data_refusal layout keep (box_at layout.grid index).shape (Some chunk) ≡ r)

-- a fill value for each position of the box that is not below the shape along some dimension takes more bytes than a usize counts
abbrev pub IsLargeFilling : Layout → List ℕ → Box → Type 0
IsLargeFilling layout shape box = (k : ℕ) × (k < length shape) × (fill_refusal layout (beyond_box box shape k).shape ≡ Some refusal.size_overflow)

-- Why a chunk that has a position below the shape is not cut to it, in the store state at that moment. Its key
-- refuses to be read, or the writing call failed (E7). It does not decode, or the chain takes no such chunk (E4). A
-- size is too large (E8): that of the chunk, of its cells, of its bytes, of the fill in place of what is cut away, or
-- of a chunk of fill where its bytes leave out cells. Or out of memory (E9).
abbrev pub RefusesKeptCut : Layout → Bool → List ℕ → List ℕ → ℕ → StoreState → Refusal → Type 0
RefusesKeptCut layout keep shape index failed new refusal.storage =
    ((failed ≡ 0) × (is_too_large layout (box_at layout.grid index).shape ≡ false) × (new.refuses (layout.key index) ≡ true))
    ⊎ ((is_too_large layout (box_at layout.grid index).shape ≡ false) × IsCutAs layout keep shape index new None × CallFails failed new)
RefusesKeptCut layout keep shape index failed new refusal.codec =
    (failed ≡ 0) × (is_too_large layout (box_at layout.grid index).shape ≡ false)
    × (IsBroken layout index new ⊎ IsCutAs layout keep shape index new (Some refusal.codec))
RefusesKeptCut layout keep shape index failed new refusal.size_overflow =
    (failed ≡ 0)
    × ((is_too_large layout (box_at layout.grid index).shape ≡ true)
    ⊎ (IsLargeBox layout (box_at layout.grid index) new ⊎ NeedsLargeFill layout index new ⊎ IsLargeFilling layout shape (box_at layout.grid index))
    ⊎ IsCutAs layout keep shape index new (Some refusal.size_overflow))
RefusesKeptCut layout keep shape index failed new refusal.out_of_memory = Unit {0}
RefusesKeptCut layout keep shape index failed new _ = ⊥

-- why a chunk is not cut to the shape. If it keeps no cell: as one that is not erased. Else its key refuses, or the
-- writing call failed (E7). It does not decode, or the chain takes no such chunk (E4). A size (E8), or out of memory
-- (E9)
pub record RefusesCut (layout : Layout) (keep : Bool) (shape index : List ℕ) (failed : ℕ) (new : StoreState) (r : Refusal) : Type 0 where
  pub gone : keeps_some layout.grid shape index ≡ false → RefusesErasure failed new r
  pub kept : keeps_some layout.grid shape index ≡ true → RefusesKeptCut layout keep shape index failed new r

-- a chunk of this shape has more bytes than a usize counts, or so has its fill, where its bytes leave out cells
abbrev pub IsTooLargeWhole : Layout → List ℕ → List ℕ → Type 0
IsTooLargeWhole layout shape encoded =
    (2 ^ 64 ≤ position_count shape * cell_size layout.kind)
    ⊎ ((layout.chain.leaves_out shape encoded ≡ true) × (2 ^ 64 ≤ position_count shape * held_size layout.kind layout.fill))

-- the chunk is present, and something that a read of the region decodes whole is too large: all of the chunk, if the region
-- covers it; for a part of it the chunk or a subchunk that the part meets, as the chain says
pub record IsTooLargeToRead (layout : Layout) (region : Box) (index : List ℕ) (state : StoreState) : Type 0 where
  pub encoded : List ℕ
  pub stands : value_at state (layout.key index) ≡ Some encoded
  pub large : (CoversBox region (box_at layout.grid index) × IsTooLargeWhole layout (box_at layout.grid index).shape encoded)
      ⊎ (IsPart layout region index × IsTooLargeToDecode layout.chain layout.kind layout.fill (box_at layout.grid index).shape
      (chunk_part region (box_at layout.grid index)) encoded)

-- Why a region is not read: some key of its chunks refuses (E7), some chunk does not decode (E4), a size (E8): of what is
-- decoded whole of some chunk, or of the region's cells; out of memory (E9). Which of these comes if several hold is open.
abbrev pub RefusesSomeChunk : Layout → Box → List (List ℕ) → StoreState → Refusal → Type 0
RefusesSomeChunk layout region chunks state refusal.storage = (index : List ℕ) × Contains chunks index × (state.refuses (layout.key index) ≡ true)
RefusesSomeChunk layout region chunks state refusal.codec = (index : List ℕ) × Contains chunks index × IsBroken layout index state
RefusesSomeChunk layout region chunks state refusal.size_overflow =
    ((index : List ℕ) × Contains chunks index × IsTooLargeToRead layout region index state) ⊎ IsLargeBox layout region state
RefusesSomeChunk layout region chunks state refusal.out_of_memory = Unit {0}
RefusesSomeChunk layout region chunks state _ = ⊥

-- a refused read of a region: first what the arguments decide, then a cause
abbrev pub RefusesRegionRead : Layout → Option Refusal → Box → List (List ℕ) → StoreState → Refusal → Type 0
RefusesRegionRead layout first region chunks state r = RefusesBy first r ⊎ ((first ≡ None) × RefusesSomeChunk layout region chunks state r)

-- A refused read of a whole chunk: what the arguments decide first, then the key, then the bytes. A chunk whose bytes
-- leave out cells needs a chunk of fill as well; which comes if it does not decode either is open.
abbrev pub RefusesChunkRead : Layout → Option Refusal → Bool → List ℕ → StoreState → Refusal → Type 0
RefusesChunkRead layout early needed index state r =
    let first = option_or early (option_or (key_refusal layout index state) (read_refusal layout needed index (value_at state (layout.key index)))) in
    RefusesBy first r
    ⊎ ((r ≡ refusal.size_overflow) × (option_or early (option_or (key_refusal layout index state) (box_refusal layout index)) ≡ None)
    × NeedsLargeFill layout index state)
