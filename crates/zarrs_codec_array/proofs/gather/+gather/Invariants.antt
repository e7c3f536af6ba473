use Rattle.std.proofs.Common.{length, ◌∷◌, slice_range}
use Rattle.zarrs_codec_array.specs.Gathered.{IsGathered}
use Rattle.zarrs_codec_array.proofs.gather.+gather.Given as goal

abbrev pub decreases-gather : goal.decreases-gather
decreases-gather l = length l.extents.now

abbrev pub invariant-loop-i : goal.invariant-loop-i
invariant-loop-i l =
    IsGathered l.size (l.i ∷ slice_range l.extents 1 (length l.extents)) l.steps l.start l.from l.to
