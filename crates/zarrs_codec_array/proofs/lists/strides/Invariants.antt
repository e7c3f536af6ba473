use Rattle.std.proofs.Common.{◌≡◌, ◌≤◌, ◌*◌, length, drop}
use Rattle.zarrs_subset.specs.Boxes.{position_count}
use Rattle.zarrs_codec_array.specs.Orders.{strides, scaled}
use Rattle.zarrs_codec_array.proofs.lists.strides.Given as goal

abbrev pub decreases-loop-axis : goal.decreases-loop-axis
decreases-loop-axis l = l.axis

abbrev pub invariant-loop-axis : goal.invariant-loop-axis
invariant-loop-axis l = record {
  within : l.axis ≤ length l.shape;
  len : length l.made.items ≡ length l.shape;
  stride : l.stride ≡ position_count (drop l.axis l.shape) * l.size;
  behind : drop l.axis l.made.items ≡ scaled l.size (strides (drop l.axis l.shape));
}
