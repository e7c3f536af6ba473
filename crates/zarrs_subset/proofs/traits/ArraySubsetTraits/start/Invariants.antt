use Rattle.std.proofs.Common.{◌≡◌, take}
use Rattle.std.specs.Prelude.{vec_capacity}
use Rattle.zarrs_subset.proofs.traits.ArraySubsetTraits.start.Given as goal

abbrev pub invariant-loop-dimension : goal.invariant-loop-dimension
invariant-loop-dimension g l = record {
  made : l.start.items ≡ take l.dimension (g.Self.ArraySubsetTraits.region l.self).start;
  room : vec_capacity l.start ≡ l.dimensions;
}
