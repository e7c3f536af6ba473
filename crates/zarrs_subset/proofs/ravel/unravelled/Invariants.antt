use Rattle.std.proofs.Common.{◌≡◌, ◌≤◌, ◌%◌, ◌/◌, length, drop}
use Rattle.zarrs_subset.specs.Boxes.{position_count, unravel}
use Rattle.zarrs_subset.proofs.ravel.unravelled.Given as goal

abbrev pub decreases-loop-axis : goal.decreases-loop-axis
decreases-loop-axis l = l.axis

abbrev pub invariant-loop-axis : goal.invariant-loop-axis
invariant-loop-axis l =
    (l.axis ≤ length l.shape)
    × (length l.indices.items ≡ length l.shape)
    × (l.rest ≡ l.index / position_count (drop l.axis l.shape))
    × (drop l.axis l.indices.items ≡ unravel (drop l.axis l.shape) (l.index % position_count (drop l.axis l.shape)))
