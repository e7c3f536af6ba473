use Rattle.std.proofs.Common.{◌≡◌, ◌+◌, ◌-◌, ◌≤◌, length}
use Rattle.zarrs_codec_array.specs.ArrayCodecs.{AreMadeShapes}
use Rattle.zarrs_codec_array.proofs.array.made_shapes.Given as goal

abbrev pub invariant-loop-k : goal.invariant-loop-k
invariant-loop-k l =
    (length l.made.items + 1 ≡ l.k) × (length l.made.items ≤ length l.codecs - 1) × AreMadeShapes l.codecs l.shape l.made.items
