use Rattle.std.proofs.Common.{◌≡◌}
use Rattle.std.specs.Prelude.{vec_capacity}
use Rattle.zarrs_subset.proofs.Shared.{AreShared}
use Rattle.zarrs_subset.proofs.subset.ArraySubset.shared_with.Given as goal

abbrev pub invariant-loop-k : goal.invariant-loop-k
invariant-loop-k g l = record {
  shared : AreShared l.self.start.items l.self.shape.items (g.B.ArraySubsetTraits.region l.other).start (g.B.ArraySubsetTraits.region l.other).shape l.start.items l.shape.items l.k;
  start_room : vec_capacity l.start ≡ l.dimensions;
  shape_room : vec_capacity l.shape ≡ l.dimensions;
}
