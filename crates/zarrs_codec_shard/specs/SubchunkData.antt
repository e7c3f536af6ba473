-- The data of subchunks, out of the data of their chunk and into it.
use Rattle.std.specs.Prelude.{◌≡◌, ◌≢◌, ℕ, ◌<◌, ◌≤◌, Bool, false, Some, List, [], length, replicate, slice_index_or}
use Rattle.zarrs_data_type.specs.ArrayData.{ArrayData}
use Rattle.zarrs_data_type.specs.Cells.{cells}
use Rattle.zarrs_subset.specs.Boxes.{position_count}
use Rattle.zarrs_subset.specs.Regions.{Box, box_of}
use Rattle.zarrs_data_type.specs.Cell.{Cell}
use Rattle.zarrs_data_type.specs.Kind.{Kind}
use Rattle.zarrs_codec_shard.specs.declared.subchunks.Subchunks.{Subchunks}
use Rattle.zarrs_codec_shard.specs.PartialShards.{updated_subchunk}
use Rattle.zarrs_codec_shard.specs.Subchunks.{subchunk_count, subchunk_at}

-- the shape of the chunk that is cut, and that of its subchunks
abbrev pub chunk_shape : Subchunks → List ℕ
chunk_shape subchunks = (box_of subchunks.chunk_box).shape

abbrev pub subchunk_shape : Subchunks → List ℕ
subchunk_shape subchunks = subchunks.shape.items

-- `new` has the cells of the subchunk of this number of `old`
pub record ExtractsSubchunk (k : Kind) (shape sub : List ℕ) (number : ℕ) (old new : ArrayData) : Type 0 where
  pub held : List Cell
  pub old_is : cells k old ≡ Some held
  pub new_is : cells k new ≡ Some (subchunk_at shape sub held number)

-- `new` has the cells of `part` in the subchunk of this number, and those of `old` in each other one
pub record PutsSubchunk (k : Kind) (shape sub : List ℕ) (number : ℕ) (part old new : ArrayData) : Type 0 where
  pub held : List Cell
  pub made : List Cell
  pub old_is : cells k old ≡ Some held
  pub new_is : cells k new ≡ Some made
  pub count : length made ≡ position_count shape
  pub put : cells k part ≡ Some (subchunk_at shape sub made number)
  pub others : (j : ℕ) → j < subchunk_count shape sub → j ≢ number → subchunk_at shape sub made j ≡ subchunk_at shape sub held j

-- a chunk into which subchunks are put: its cells are one, which is fill if a subchunk may be left out
pub record StartsChunk (k : Kind) (fill : Cell) (shape : List ℕ) (is_whole : Bool) (chunk : ArrayData) : Type 0 where
  pub filler : Cell
  pub cells_are : cells k chunk ≡ Some (replicate (position_count shape) filler)
  pub fill_is : is_whole ≡ false → filler ≡ fill

-- the first subchunks of a chunk have these cells, and the other ones are all fill
pub record HasSubchunks (k : Kind) (fill : Cell) (shape sub : List ℕ) (subchunks : List (List Cell)) (chunk : ArrayData) : Type 0 where
  pub held : List Cell
  pub held_is : cells k chunk ≡ Some held
  pub count : length held ≡ position_count shape
  pub first : (j : ℕ) → j < length subchunks → subchunk_at shape sub held j ≡ slice_index_or subchunks j []
  pub others : (j : ℕ) → length subchunks ≤ j → j < subchunk_count shape sub
      → subchunk_at shape sub held j ≡ replicate (position_count sub) fill

-- The first subchunks of such a chunk have these cells.
pub record FillsChunk (k : Kind) (fill : Cell) (shape sub : List ℕ) (is_whole : Bool) (subchunks : List (List Cell)) (chunk : ArrayData) : Type 0 where
  pub filler : Cell
  pub fill_is : is_whole ≡ false → filler ≡ fill
  pub has : HasSubchunks k filler shape sub subchunks chunk

-- `new` has the cells of `old`, a subchunk of this number, and those of the data of a part where it has the position
pub record UpdatesSubchunk (k : Kind) (shape sub : List ℕ) (part : Box) (number : ℕ) (given old new : ArrayData) : Type 0 where
  pub part_cells : List Cell
  pub held : List Cell
  pub given_is : cells k given ≡ Some part_cells
  pub old_is : cells k old ≡ Some held
  pub new_is : cells k new ≡ Some (updated_subchunk shape sub part part_cells number held)
