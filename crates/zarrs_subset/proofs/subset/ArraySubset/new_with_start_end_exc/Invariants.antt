use Rattle.std.proofs.Common.{ℕ, ◌<◌, ◌≤◌, ◌^◌, slice_index}
use Rattle.zarrs_subset.proofs.subset.ArraySubset.new_with_start_end_exc.Given as goal

abbrev pub invariant-loop-k : goal.invariant-loop-k
invariant-loop-k l = record {
  ordered : (j : ℕ) → j < l.k → slice_index l.start.items j ≤ slice_index l.end.items j;
  fits : (j : ℕ) → j < l.k → slice_index l.end.items j < 2 ^ 64;
}
