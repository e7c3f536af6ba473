use Rattle.std.proofs.Common.{ℕ, ◌≡◌, ◌+◌, ◌<◌, ◌^◌, slice_index, take}
use Rattle.std.specs.Prelude.{vec_capacity}
use Rattle.zarrs_subset.proofs.traits.ArraySubsetTraits.shape.Given as goal

abbrev pub invariant-loop-dimension : goal.invariant-loop-dimension
invariant-loop-dimension g l =
    let box = g.Self.ArraySubsetTraits.region l.self in
    record {
      made : l.shape.items ≡ take l.dimension box.shape;
      room : vec_capacity l.shape ≡ l.dimensions;
      fit : (j : ℕ) → j < l.dimension → slice_index box.start j + slice_index box.shape j < 2 ^ 64;
    }
