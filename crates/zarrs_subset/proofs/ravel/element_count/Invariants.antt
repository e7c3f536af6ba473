use Rattle.std.proofs.Common.{◌≡◌, ◌*◌, drop}
use Rattle.zarrs_subset.specs.Boxes.{position_count}
use Rattle.zarrs_subset.proofs.ravel.element_count.Given as goal

abbrev pub invariant-loop-extent : goal.invariant-loop-extent
invariant-loop-extent l = l.count * position_count (drop l.extent-index l.shape) ≡ position_count l.shape
