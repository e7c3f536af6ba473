use Rattle.std.proofs.Common.{◌≤◌, length, drop}
use Rattle.zarrs_subset.specs.Boxes.{overlap_extents}
use Rattle.zarrs_subset.specs.Plans.{IsPlan}
use Rattle.zarrs_subset.proofs.Parts.{shared_start, shared_other_start}
use Rattle.zarrs_subset.proofs.copy.place_part.Given as goal

abbrev pub decreases-loop-k : goal.decreases-loop-k
decreases-loop-k l = l.k

-- the runs copy the dimensions from number `k` on of what the boxes share
abbrev pub invariant-loop-k : goal.invariant-loop-k
invariant-loop-k l = record {
  within : l.k ≤ length l.start;
  plan : IsPlan l.cell_size (drop l.k l.part_shape) (drop l.k (shared_other_start l.start l.part_start)) (drop l.k l.shape)
      (drop l.k (shared_start l.start l.part_start)) (drop l.k (overlap_extents l.start l.shape l.part_start l.part_shape)) l.runs;
}
