use Rattle.std.proofs.Common.{◌≡◌}
use Rattle.std.specs.Prelude.{vec_capacity}
use Rattle.zarrs_subset.proofs.Shared.{AreCut}
use Rattle.zarrs_subset.proofs.subset.ArraySubset.bound.Given as goal

abbrev pub invariant-loop-k : goal.invariant-loop-k
invariant-loop-k l = record {
  cut : AreCut l.self.start.items l.self.shape.items l.end l.start.items l.shape.items l.k;
  start_room : vec_capacity l.start ≡ l.dimensions;
  shape_room : vec_capacity l.shape ≡ l.dimensions;
}
