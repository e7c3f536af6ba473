use Rattle.std.proofs.Common.{◌≡◌, ◌≤◌, length, take}
use Rattle.zarrs_codec_shard.specs.Subchunks.{quotients}
use Rattle.zarrs_codec_shard.proofs.corners.tiny_quotients.Given as goal

abbrev pub invariant-loop-axis : goal.invariant-loop-axis
invariant-loop-axis l = record {
  made_is : l.made.items ≡ take l.axis (quotients l.numbers l.sub);
  room : length l.sub ≤ l.made.capacity;
}
