use Rattle.std.proofs.Common.{ℕ, ◌≡◌, ◌+◌, ◌<◌, ◌≤◌, length, slice_index}
use Rattle.zarrs_subset.proofs.lists.shifted.Given as goal

abbrev pub invariant-loop-k : goal.invariant-loop-k
invariant-loop-k l = record {
  same_length : length l.sums.items ≡ length l.fn.numbers.items;
  done : (j : ℕ) → j < l.k → slice_index l.sums.items j ≡ slice_index l.fn.numbers.items j + slice_index l.others j;
  rest : (j : ℕ) → l.k ≤ j → slice_index l.sums.items j ≡ slice_index l.fn.numbers.items j;
}
