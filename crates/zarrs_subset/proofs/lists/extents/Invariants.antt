use Rattle.std.proofs.Common.{ℕ, ◌≡◌, ◌-◌, ◌<◌, ◌≤◌, length, slice_index}
use Rattle.zarrs_subset.proofs.lists.extents.Given as goal

abbrev pub invariant-loop-k : goal.invariant-loop-k
invariant-loop-k l = record {
  same_length : length l.shape.items ≡ length l.fn.end.items;
  done : (j : ℕ) → j < l.k → slice_index l.shape.items j ≡ slice_index l.fn.end.items j - slice_index l.start j;
  rest : (j : ℕ) → l.k ≤ j → slice_index l.shape.items j ≡ slice_index l.fn.end.items j;
}
