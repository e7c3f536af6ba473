use Rattle.std.proofs.Common.{◌≡◌, ◌≤◌, length, drop}
use Rattle.zarrs_data_type_region.proofs.target.row_axis.Given as goal

abbrev pub decreases-loop-axis : goal.decreases-loop-axis
decreases-loop-axis l = l.axis

-- the dimensions from number `axis` on are whole
abbrev pub invariant-loop-axis : goal.invariant-loop-axis
invariant-loop-axis l = record {
  within : l.axis ≤ length l.shape;
  whole : drop l.axis l.shape ≡ drop l.axis l.extents;
}
