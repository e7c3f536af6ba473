use Rattle.std.proofs.Common.{ℕ, ◌<◌, slice_index}
use Rattle.zarrs_subset.proofs.traits.ArraySubsetTraits.is_empty.Given as goal

abbrev pub invariant-loop-dimension : goal.invariant-loop-dimension
invariant-loop-dimension g l = (j : ℕ) → j < l.dimension → 0 < slice_index (g.Self.ArraySubsetTraits.region l.self).shape j
