use Rattle.std.proofs.Common.{◌≡◌, ◌*◌, ◌+◌, ℕ, ◌<◌, slice_index, drop}
use Rattle.zarrs_subset.specs.Boxes.{position_count, place}
use Rattle.zarrs_subset.proofs.ravel.ravel_indices.Given as goal

abbrev pub invariant-loop-k : goal.invariant-loop-k
invariant-loop-k l =
    ((j : ℕ) → j < l.k → slice_index l.indices j < slice_index l.shape j)
    × (l.number * position_count (drop l.k l.shape) + place (drop l.k l.shape) (drop l.k l.indices) ≡ place l.shape l.indices)
