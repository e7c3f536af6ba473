use Rattle.std.proofs.Common.{map}
use Rattle.zarrs_data_type.specs.ArrayData.{fixed}
use Rattle.zarrs_data_type.specs.Kind.{kind}
use Rattle.zarrs_codec_shard.specs.ShardIndex.{range_part}
use Rattle.zarrs_codec_shard.specs.SubchunkData.{chunk_shape, subchunk_shape}
use Rattle.zarrs_codec.proofs.CopiedParts.{IsCopied}
use Rattle.zarrs_codec.proofs.decode.copy_parts.Given as goal

abbrev pub invariant-loop-number : goal.invariant-loop-number
invariant-loop-number l =
    IsCopied (kind l.data_type) (chunk_shape l.subchunks) (subchunk_shape l.subchunks) (map (range_part l.encoded) l.ranges) l.number (fixed l.initial.chunk) (fixed l.chunk)
