-- What the arguments of a call decide.
use Rattle.std.specs.Cmp.Lexicographic.{pointwise}
use Rattle.std.specs.Prelude.{nat_eq, ℕ, ◌^◌, ◌==◌, not, nat_le, Bool, if◌then◌else◌, List, length, Option, Some, None}
use Rattle.std.specs.Option.{option_or}
use Rattle.zarrs_subset.specs.Boxes.{position_count}
use Rattle.zarrs_subset.specs.Regions.{Box, box_of}
use Rattle.zarrs_chunk_grid.specs.Grids.{box_at, has_box, range_box}
use Rattle.zarrs_data_type.specs.Kind.{is_variable}
use Rattle.zarrs_data_type.specs.Cell.{Cell}
use Rattle.zarrs_data_type.specs.ArrayData.{ArrayData, data_of}
use Rattle.zarrs_data_type.specs.Cells.{cells}
use Rattle.zarrs_engine_calls.specs.Layout.{Layout}
use Rattle.zarrs_engine_calls.specs.Refusals as refusal
use Rattle.zarrs_engine_calls.specs.Refusals.{Refusal, refuse_if, length_refusal, box_refusal, is_too_large}
use Rattle.zarrs_engine_calls.specs.declared.call.Call.{Call}
use Rattle.zarrs_engine_calls.specs.declared.call.Call.TheVariants as call
use Rattle.zarrs_engine_calls.specs.ChunkBoxes.{is_empty, last_of, is_one_chunk, is_part_of, is_whole_of, is_covered_box}

-- E4: the data is no cells of the type, or not this many
abbrev pub count_refusal : ℕ → Option (List Cell) → Option Refusal
count_refusal count None = Some refusal.codec
count_refusal count (Some found) = refuse_if (not (length found == count)) refusal.codec

-- E4: the data is no cells of the type, or not this many
abbrev pub cells_refusal : Layout → ℕ → ArrayData → Option Refusal
cells_refusal layout count held = count_refusal count (cells layout.kind held)

-- E8: a box of this shape is too large
abbrev pub size_refusal : Layout → List ℕ → Option Refusal
size_refusal layout shape = refuse_if (is_too_large layout shape) refusal.size_overflow

-- E3: no such chunk
abbrev pub chunk_refusal : Layout → List ℕ → Option Refusal
chunk_refusal layout index = refuse_if (not (has_box layout.grid index)) (refusal.indices index)

-- E3: the first chunk of the range, or else the last one, is none
abbrev pub range_refusal : Layout → Box → Option Refusal
range_refusal layout range = option_or (chunk_refusal layout range.start) (chunk_refusal layout (last_of range))

-- E2: the part has other dimensions than the chunk, or passes it
abbrev pub part_refusal : Layout → List ℕ → Box → Option Refusal
part_refusal layout index part =
    let shape = (box_at layout.grid index).shape in
    refuse_if (not (is_part_of shape part)) (refusal.chunk_subset part index shape)

-- E1: the region has other dimensions than the array, or a position that no chunk covers
abbrev pub dimensions_refusal : Layout → List ℕ → Box → Option Refusal
dimensions_refusal layout shape region = refuse_if (not (length region.start == layout.grid.dimensions)) (refusal.array_subset region shape)

abbrev pub region_refusal : Layout → List ℕ → Box → Option Refusal
region_refusal layout shape region =
    option_or (dimensions_refusal layout shape region) (refuse_if (not (is_covered_box layout.grid region)) (refusal.array_subset region shape))

-- data over a box: if the box is a whole chunk its size (E8), then the cells (E4)
abbrev pub box_data_refusal : Layout → Bool → List ℕ → ArrayData → Option Refusal
box_data_refusal layout is_whole shape held =
    option_or (if is_whole then size_refusal layout shape else None) (cells_refusal layout (position_count shape) held)

-- a store of one chunk: the index list, the size, the cells, in this order
abbrev pub store_chunk_refusal : Layout → List ℕ → ArrayData → Option Refusal
store_chunk_refusal layout index held = option_or (box_refusal layout index) (cells_refusal layout (position_count (box_at layout.grid index).shape) held)

-- a store of a range: more chunks than a `u64` counts (E8); of no chunk the cells only; of one chunk as a store of that chunk;
-- else the first and the last chunk, and the cells
abbrev pub store_chunks_refusal : Layout → Box → ArrayData → Option Refusal
store_chunks_refusal layout range held =
    let number = position_count range.shape in
    if nat_le (2 ^ 64) number then Some refusal.size_overflow
    else if number == 0 then cells_refusal layout 0 held
    else if number == 1 then store_chunk_refusal layout range.start held
    else option_or (range_refusal layout range) (cells_refusal layout (position_count (range_box layout.grid range).shape) held)

-- a store of a part: the length, the chunk, the part; if it is the whole chunk, its size; the cells
abbrev pub store_part_refusal : Layout → List ℕ → Box → ArrayData → Option Refusal
store_part_refusal layout index part held =
    let shape = (box_at layout.grid index).shape in
    option_or (refuse_if (not (length index == layout.grid.dimensions)) (refusal.dimensionality (length index) layout.grid.dimensions))
    (option_or (chunk_refusal layout index)
    (option_or (part_refusal layout index part)
    (box_data_refusal layout (is_whole_of shape part) part.shape held)))

-- data over a region: if the region is one whole chunk its size, then the cells
abbrev pub region_data_refusal : Layout → Box → ArrayData → Option Refusal
region_data_refusal layout region held = box_data_refusal layout (is_one_chunk layout.grid region) region.shape held

-- a store of a region: the dimensions, the cover, the data, in this order
abbrev pub store_region_refusal : Layout → List ℕ → Box → ArrayData → Option Refusal
store_region_refusal layout shape region held = option_or (region_refusal layout shape region) (region_data_refusal layout region held)

-- a read of a region: the dimensions, the cover, the size, in this order
abbrev pub read_region_refusal : Layout → List ℕ → Box → Option Refusal
read_region_refusal layout shape region = option_or (region_refusal layout shape region) (size_refusal layout region.shape)

-- a read of a range: the dimensions, the first and the last chunk, the size; of an empty range the dimensions only
abbrev pub read_chunks_refusal : Layout → List ℕ → Box → Option Refusal
read_chunks_refusal layout shape range =
    option_or (dimensions_refusal layout shape range)
    (if is_empty range then None
    else option_or (range_refusal layout range) (size_refusal layout (range_box layout.grid range).shape))

-- a read of a part: the index list, the part, and the part's size if it is not the whole chunk
abbrev pub read_part_refusal : Layout → List ℕ → Box → Option Refusal
read_part_refusal layout index part =
    option_or (chunk_refusal layout index)
    (option_or (part_refusal layout index part)
    (if is_whole_of (box_at layout.grid index).shape part then None else size_refusal layout part.shape))

-- a change of the shape: the number of dimensions (E10); a grid whose boxes depend on the shape (E28)
abbrev pub resize_refusal : Layout → List ℕ → Option Refusal
resize_refusal layout wanted =
    option_or (refuse_if (not (length wanted == layout.grid.dimensions)) (refusal.dimensionality (length wanted) layout.grid.dimensions))
    (refuse_if (not layout.grid.resizes) refusal.unsupported)

-- The first refusal that the arguments decide, before the store is asked for anything.
abbrev pub argument_refusal : Layout → List ℕ → Call → Option Refusal
argument_refusal layout shape (call.StoreChunk index held) = store_chunk_refusal layout index.items (data_of held)
argument_refusal layout shape (call.StoreChunks range held) = store_chunks_refusal layout (box_of range) (data_of held)
argument_refusal layout shape (call.StoreChunkSubset index part held) = store_part_refusal layout index.items (box_of part) (data_of held)
argument_refusal layout shape (call.StoreArraySubset region held) = store_region_refusal layout shape (box_of region) (data_of held)
argument_refusal layout shape (call.EraseChunk index) = length_refusal layout index.items
argument_refusal layout shape (call.EraseChunks range) = length_refusal layout (box_of range).start
argument_refusal layout shape (call.CompactChunk index) = length_refusal layout index.items
argument_refusal layout shape (call.RetrieveChunkIfExists index) = length_refusal layout index.items
argument_refusal layout shape (call.RetrieveChunk index) = length_refusal layout index.items
argument_refusal layout shape (call.RetrieveChunks range) = read_chunks_refusal layout shape (box_of range)
argument_refusal layout shape (call.RetrieveChunkSubset index part) = read_part_refusal layout index.items (box_of part)
argument_refusal layout shape (call.RetrieveArraySubset region) = read_region_refusal layout shape (box_of region)
argument_refusal layout shape (call.Resize wanted) = resize_refusal layout wanted.items

-- A read into a target, whose box has this shape, and of which the cell size and the depth are the type's or not: the
-- dimensions, the type, the target, the shape of its box, the cover.
abbrev pub into_refusal : Layout → List ℕ → Box → Bool → List ℕ → Option Refusal
into_refusal layout shape region is_fit target =
    option_or (dimensions_refusal layout shape region)
    (option_or (refuse_if (is_variable layout.kind) refusal.codec)
    (option_or (refuse_if (not is_fit) refusal.codec)
    (option_or (refuse_if (not (pointwise nat_eq target region.shape)) (refusal.data_shape target region.shape))
    (region_refusal layout shape region))))
