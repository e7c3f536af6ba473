-- Cells of one size that are written into a shard as they stand in memory.
use Rattle.std.specs.Prelude.{ℕ, Bool, not, ◌&&◌, None, Some, List, if◌then◌else◌}
use Rattle.zarrs_data_type.specs.ArrayData.{fixed}
use Rattle.zarrs_data_type.specs.Parts.{ExtractsCells}
use Rattle.zarrs_subset.specs.Regions.{Box}
use Rattle.zarrs_data_type.specs.Cell.{Cell}
use Rattle.zarrs_data_type.specs.Kind.{Kind}
use Rattle.zarrs_codec_shard.specs.declared.shard_index.ShardWriter.{ShardWriter}
use Rattle.zarrs_codec_shard.specs.Sharded.{is_all_fill}
use Rattle.zarrs_codec_shard.specs.ShardIndex.{PushesPart}
use Rattle.zarrs_codec_shard.specs.SubchunkData.{ExtractsSubchunk}
use Rattle.zarrs_codec_shard.specs.Subchunks.{subchunk_at}

-- the writer got the cells at the positions of `part`, of an array over `box`, as one more part: it is absent if they
-- are all fill and empty ones are not stored
pub record PushesExtract (k : Kind) (store_empty : Bool) (fill : Cell) (box : Box) (bytes : List ℕ) (part : Box)
    (old new : ShardWriter) : Type 0 where
  pub added : List ℕ
  pub extracts : ExtractsCells k box (fixed bytes) part (fixed added)
  pub pushes : PushesPart old new (if not store_empty && is_all_fill fill extracts.made then None else Some added)

-- the same, of the cells of the subchunk of this number
pub record PushesSubchunk (k : Kind) (store_empty : Bool) (fill : Cell) (shape sub : List ℕ) (number : ℕ) (bytes : List ℕ)
    (old new : ShardWriter) : Type 0 where
  pub added : List ℕ
  pub extracts : ExtractsSubchunk k shape sub number (fixed bytes) (fixed added)
  pub pushes : PushesPart old new
      (if not store_empty && is_all_fill fill (subchunk_at shape sub extracts.held number) then None else Some added)
