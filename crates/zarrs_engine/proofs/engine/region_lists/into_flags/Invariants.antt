use Rattle.std.proofs.Common.{◌≡◌, ◌<◌, ◌≤◌, ℕ, length, get_or, min}
use Rattle.zarrs_engine.proofs.engine.region_lists.into_flags.Given as goal

abbrev pub invariant-loop-flag : goal.invariant-loop-flag
invariant-loop-flag l = record {
  count : length l.flag-items ≡ length l.fn.masks.items;
  done : (k : ℕ) → k < l.flag-index → get_or l.flag-items k 0 ≡ min (get_or l.fn.masks.items k 0) 1;
  rest : (k : ℕ) → l.flag-index ≤ k → get_or l.flag-items k 0 ≡ get_or l.fn.masks.items k 0;
}
