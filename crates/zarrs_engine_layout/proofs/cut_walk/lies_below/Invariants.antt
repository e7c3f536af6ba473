use Rattle.std.proofs.Common.{ℕ, ◌<◌, slice_index}
use Rattle.zarrs_engine_layout.proofs.cut_walk.lies_below.Given as goal

abbrev pub invariant-loop-axis : goal.invariant-loop-axis
invariant-loop-axis l = (k : ℕ) → k < l.axis → slice_index l.position k < slice_index l.shape k
