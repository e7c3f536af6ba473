use Rattle.std.proofs.Common.{length, map, take}
use Rattle.zarrs_codec_shard.specs.ShardIndex.{range_part, IsWriting}
use Rattle.zarrs_codec_shard.proofs.compact.rewritten.Given as goal

abbrev pub invariant-loop-range : goal.invariant-loop-range
invariant-loop-range l = IsWriting l.at_start (length l.ranges) l.writer (map (range_part l.shard) (take l.range-index l.ranges))
