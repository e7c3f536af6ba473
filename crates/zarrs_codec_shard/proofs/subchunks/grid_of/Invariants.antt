use Rattle.std.proofs.Common.{◌≡◌, take}
use Rattle.zarrs_codec_shard.specs.Subchunks.{quotients}
use Rattle.zarrs_codec_shard.proofs.subchunks.grid_of.Given as goal

abbrev pub invariant-loop-axis : goal.invariant-loop-axis
invariant-loop-axis l = l.grid.items ≡ take l.axis (quotients l.shape l.sub)
