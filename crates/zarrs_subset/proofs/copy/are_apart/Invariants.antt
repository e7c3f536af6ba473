use Rattle.std.proofs.Common.{ℕ, ◌+◌, ◌<◌, max, min, slice_index}
use Rattle.zarrs_subset.proofs.copy.are_apart.Given as goal

abbrev pub invariant-loop-k : goal.invariant-loop-k
invariant-loop-k l =
    (j : ℕ) → j < l.k
    → max (slice_index l.start j) (slice_index l.other_start j) < min (slice_index l.start j + slice_index l.shape j) (slice_index l.other_start j + slice_index l.other_shape j)
