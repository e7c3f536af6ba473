use Rattle.std.proofs.Common.{◌≡◌, ◌++◌}
use Rattle.zarrs_metadata.specs.Conversion.{count_down}
use Rattle.zarrs_metadata.proofs.conversion.count_down.Given as goal

abbrev pub decreases-loop-left : goal.decreases-loop-left
decreases-loop-left l = l.left

-- the numbers so far, and those that are left
abbrev pub invariant-loop-left : goal.invariant-loop-left
invariant-loop-left l = count_down l.fn.count ≡ l.numbers.items ++ count_down l.left
