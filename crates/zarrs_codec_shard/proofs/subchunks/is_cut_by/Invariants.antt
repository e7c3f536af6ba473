use Rattle.std.proofs.Common.{◌≡◌, drop}
use Rattle.zarrs_codec_shard.specs.Subchunks.{is_cut_by}
use Rattle.zarrs_codec_shard.proofs.subchunks.is_cut_by.Given as goal

abbrev pub invariant-loop-axis : goal.invariant-loop-axis
invariant-loop-axis l = is_cut_by l.shape l.sub ≡ is_cut_by (drop l.axis l.shape) (drop l.axis l.sub)
