use Rattle.std.proofs.Common.{◌≡◌, length}
use Rattle.std.specs.Prelude.{vec_capacity}
use Rattle.zarrs_codec_shard.proofs.ShardReading.{IsRead}
use Rattle.zarrs_codec_shard.proofs.shard_index.read_entries.Given as goal

abbrev pub invariant-loop-number : goal.invariant-loop-number
invariant-loop-number l = record {
  read : IsRead l.number l.start l.end l.index l.ranges.items;
  count : length l.ranges.items ≡ l.number;
  room : vec_capacity l.ranges ≡ l.count;
}
