use Rattle.std.proofs.Common.{ℕ, ◌≤◌, length, slice_index}
use Rattle.zarrs_engine_layout.proofs.cut_walk.last_axis.Given as goal

abbrev pub decreases-loop-axis : goal.decreases-loop-axis
decreases-loop-axis l = l.axis

abbrev pub invariant-loop-axis : goal.invariant-loop-axis
invariant-loop-axis l = record {
  within : l.axis ≤ length l.shape;
  later : (k : ℕ) → l.axis ≤ k → slice_index l.shape k ≤ slice_index l.whole k;
}
