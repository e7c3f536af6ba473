-- What is read of a shard in the code's value of it.
use Rattle.zarrs_codec_leaf.specs.declared.source.ByteSource.{Ghosts as SourceMeaning}
use Rattle.zarrs_codec_shard.specs.LentData.{lent_chunk_shape, lent_shape}
use Rattle.zarrs_subset.specs.Regions.{box_of}
use Rattle.zarrs_codec_chain.specs.ShardReads.{ShardRead, shard_read}
use Rattle.zarrs_codec_chain.specs.Stored.{bytes_of, refuses_of}
use Rattle.zarrs_codec_chain.specs.declared.shard_part.ShardPart.{ShardPart}

module _ {B : Type 0} {b : SourceMeaning B} where
  abbrev pub read_of : ShardPart B b → ShardRead
  read_of read =
      shard_read read.at_start (lent_chunk_shape read.subchunks) (lent_shape read.subchunks) (box_of read.part.now) (bytes_of read.stored)
      (refuses_of read.stored)
