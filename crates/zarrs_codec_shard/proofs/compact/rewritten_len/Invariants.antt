use Rattle.std.proofs.Common.{◌≡◌, ◌+◌, ◌*◌, length, take}
use Rattle.std.specs.List.{sum_by}
use Rattle.zarrs_codec_shard.specs.ShardIndex.{range_len}
use Rattle.zarrs_codec_shard.proofs.compact.rewritten_len.Given as goal

abbrev pub invariant-loop-range : goal.invariant-loop-range
invariant-loop-range l = l.len ≡ length l.ranges * 16 + sum_by range_len (take l.range-index l.ranges)
