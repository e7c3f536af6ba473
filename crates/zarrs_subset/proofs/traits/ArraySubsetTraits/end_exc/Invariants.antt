use Rattle.std.proofs.Common.{ℕ, ◌≡◌, ◌+◌, ◌<◌, length, slice_index}
use Rattle.std.specs.Prelude.{vec_capacity}
use Rattle.zarrs_subset.proofs.traits.ArraySubsetTraits.end_exc.Given as goal

abbrev pub invariant-loop-dimension : goal.invariant-loop-dimension
invariant-loop-dimension g l =
    let box = g.Self.ArraySubsetTraits.region l.self in
    record {
      len : length l.end.items ≡ l.dimension;
      made : (j : ℕ) → j < l.dimension → slice_index l.end.items j ≡ slice_index box.start j + slice_index box.shape j;
      room : vec_capacity l.end ≡ l.dimensions;
    }
