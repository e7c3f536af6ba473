use Rattle.std.proofs.Common.{ℕ, ◌+◌, ◌<◌, ◌^◌, slice_index}
use Rattle.zarrs_subset.proofs.subset.ArraySubset.shifted_by.Given as goal

abbrev pub invariant-loop-k : goal.invariant-loop-k
invariant-loop-k l =
    (j : ℕ) → j < l.k → slice_index l.self.start.items j + slice_index l.self.shape.items j + slice_index l.offset j < 2 ^ 64
