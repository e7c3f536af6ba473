use Rattle.std.proofs.Common.{ℕ, ◌+◌, ◌<◌, ◌≤◌, slice_index}
use Rattle.zarrs_subset.proofs.traits.ArraySubsetTraits.inbounds_shape.Given as goal

abbrev pub invariant-loop-dimension : goal.invariant-loop-dimension
invariant-loop-dimension g l =
    let box = g.Self.ArraySubsetTraits.region l.self in
    (j : ℕ) → j < l.dimension → slice_index box.start j + slice_index box.shape j ≤ slice_index l.array_shape j
