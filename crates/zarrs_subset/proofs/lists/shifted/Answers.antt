use Rattle.std.proofs.Common.{arith, ◌+◌}
use Rattle.zarrs_subset.proofs.Overlaps.{zip_with-from}
use Rattle.zarrs_subset.proofs.lists.shifted.Goals as goal

pub returns : goal.returns
returns c =
    zip_with-from (λ s t. s + t) _ _ _ c.requires.same_length c.loop-k.invariant.same_length
    (λ k below. c.loop-k.invariant.done k (omega arith))
