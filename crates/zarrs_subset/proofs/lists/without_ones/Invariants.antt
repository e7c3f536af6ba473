use Rattle.std.proofs.Common.{◌≡◌, take}
use Rattle.zarrs_subset.specs.Boxes.{without_ones}
use Rattle.zarrs_subset.proofs.lists.without_ones.Given as goal

abbrev pub invariant-loop-axis : goal.invariant-loop-axis
invariant-loop-axis l = l.made.items ≡ without_ones (take l.axis l.shape) l.numbers
