use Rattle.std.proofs.Common.{ℕ, ◌+◌, ◌<◌, ◌≤◌, length, slice_index}
use Rattle.zarrs_subset.specs.Regions.{box_of}
use Rattle.zarrs_subset.proofs.within.lies_in_box.Given as goal

abbrev pub invariant-loop-start : goal.invariant-loop-start
invariant-loop-start l =
    let box = box_of l.subset in
    let other = box_of l.other in
    (k : ℕ) → k < length l.yielded → (slice_index other.start k ≤ slice_index box.start k)
    × (slice_index box.start k + slice_index box.shape k ≤ slice_index other.start k + slice_index other.shape k)
