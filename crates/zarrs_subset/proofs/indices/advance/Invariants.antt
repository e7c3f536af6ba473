use Rattle.std.proofs.Common.{ℕ, ◌≡◌, ◌<◌, ◌≤◌, length}
use Rattle.zarrs_subset.specs.Regions.{box_from}
use Rattle.zarrs_subset.proofs.WalkLemmas.{IsEndedAt, reset_from}
use Rattle.zarrs_subset.proofs.indices.advance.Given as goal

abbrev pub decreases-loop-axis : goal.decreases-loop-axis
decreases-loop-axis l = l.axis

-- the dimensions from `axis` on had their last index, and are back at the start
abbrev pub invariant-loop-axis : goal.invariant-loop-axis
invariant-loop-axis l = record {
  within : l.axis ≤ length l.start;
  reset : l.position ≡ reset_from l.start l.initial.position l.axis;
  ended : (k : ℕ) → l.axis ≤ k → k < length l.start → IsEndedAt (box_from l.start l.shape) l.initial.position k;
}
