use Rattle.std.proofs.Common.{◌≤◌, length, drop}
use Rattle.zarrs_subset.specs.Plans.{IsPlan}
use Rattle.zarrs_subset.proofs.copy.copy_box.Given as goal

abbrev pub decreases-loop-k : goal.decreases-loop-k
decreases-loop-k l = l.k

-- the runs copy the dimensions from number `k` on
abbrev pub invariant-loop-k : goal.invariant-loop-k
invariant-loop-k l = record {
  within : l.k ≤ length l.extents;
  plan : IsPlan l.cell_size (drop l.k l.from.shape.now) (drop l.k l.from.start.now) (drop l.k l.to.shape.now) (drop l.k l.to.start.now) (drop l.k l.extents) l.runs;
}
