use Rattle.std.proofs.Common.{ℕ, ◌+◌, ◌<◌, ◌^◌, slice_index}
use Rattle.zarrs_subset.proofs.Products.{Counted}
use Rattle.zarrs_subset.proofs.traits.ArraySubsetTraits.num_elements.Given as goal

abbrev pub invariant-loop-dimension : goal.invariant-loop-dimension
invariant-loop-dimension g l =
    let box = g.Self.ArraySubsetTraits.region l.self in
    record {
      fit : (j : ℕ) → j < l.dimension → slice_index box.start j + slice_index box.shape j < 2 ^ 64;
      counted : Counted box.shape l.dimension l.is_empty l.count;
    }
