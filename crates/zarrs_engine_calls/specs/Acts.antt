-- What a call is to do, whichever call it is.
use Rattle.std.specs.Prelude.{ℕ, Bool, true, false, List, [], ◌∷◌, if◌then◌else◌}
use Rattle.zarrs_subset.specs.Regions.{Box, box_of, positions}
use Rattle.zarrs_chunk_grid.specs.Grids.{box_at, chunks_box}
use Rattle.zarrs_data_type.specs.ArrayData.{ArrayData, data_of}
use Rattle.zarrs_engine_calls.specs.Layout.{Layout}
use Rattle.zarrs_engine_calls.specs.ChunkBoxes.{chunks_met, part_box, is_whole_of}
use Rattle.zarrs_engine_calls.specs.Outcome as outcome
use Rattle.zarrs_engine_calls.specs.Outcome.{Outcome, outcome_of}
use Rattle.zarrs_engine_calls.specs.declared.call.Call.{Call}
use Rattle.zarrs_engine_calls.specs.declared.call.Call.TheVariants as call
use Rattle.zarrs_engine_calls.specs.declared.call.Reply.{Reply}

-- one for each kind of step; the chunks of an act are in row-major order
pub data Act : Type 0 where
  -- store the data over the region, in these chunks
  store : Box → ArrayData → List (List ℕ) → Act
  -- erase these chunks
  erase : List (List ℕ) → Act
  -- read the region, from these chunks
  read : Box → List (List ℕ) → Act
  -- read a whole chunk: if it is absent, its cells are fill (true) or there are none (false)
  read_chunk : Bool → List ℕ → Act
  -- write the compaction of a chunk's bytes in their place
  compact : List ℕ → Act
  -- make the array's shape this one
  resize : List ℕ → Act

-- a read of a part of a chunk: of all of it that of the chunk, of another part that of a region of one chunk
abbrev pub read_part_act : Layout → List ℕ → Box → Act
read_part_act layout index part =
    let chunk = box_at layout.grid index in
    if is_whole_of chunk.shape part then read_chunk true index else read (part_box chunk part) (index ∷ [])

-- what the call is to do
abbrev pub act_of : Layout → Call → Act
act_of layout (call.StoreChunk index held) = store (box_at layout.grid index.items) (data_of held) (index.items ∷ [])
act_of layout (call.StoreChunks range held) = store (chunks_box layout.grid (box_of range)) (data_of held) (positions (box_of range))
act_of layout (call.StoreChunkSubset index part held) = store (part_box (box_at layout.grid index.items) (box_of part)) (data_of held) (index.items ∷ [])
act_of layout (call.StoreArraySubset region held) = store (box_of region) (data_of held) (chunks_met layout.grid (box_of region))
act_of layout (call.EraseChunk index) = erase (index.items ∷ [])
act_of layout (call.EraseChunks range) = erase (positions (box_of range))
act_of layout (call.CompactChunk index) = compact index.items
act_of layout (call.RetrieveChunkIfExists index) = read_chunk false index.items
act_of layout (call.RetrieveChunk index) = read_chunk true index.items
act_of layout (call.RetrieveChunks range) = read (chunks_box layout.grid (box_of range)) (positions (box_of range))
act_of layout (call.RetrieveChunkSubset index part) = read_part_act layout index.items (box_of part)
act_of layout (call.RetrieveArraySubset region) = read (box_of region) (chunks_met layout.grid (box_of region))
act_of layout (call.Resize shape) = resize shape.items

-- the array's shape after an act with this outcome
abbrev pub shape_left : Act → Outcome → List ℕ → List ℕ
shape_left (resize wanted) outcome.done shape = wanted
shape_left act ended shape = shape

-- and with this reply
abbrev pub shape_after : Act → Reply → List ℕ → List ℕ
shape_after act reply shape = shape_left act (outcome_of reply) shape
