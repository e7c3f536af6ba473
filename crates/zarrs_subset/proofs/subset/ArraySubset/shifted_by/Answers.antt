use Rattle.std.proofs.Common.{◌<◌, length, arith}
use Rattle.zarrs_subset.proofs.Overlaps.{end_fits}
use Rattle.zarrs_subset.proofs.subset.ArraySubset.shifted_by.Goals as goal

pub shifted-requires-clause-ends : goal.shifted-requires-clause-ends
shifted-requires-clause-ends c = λ k below. c.loop-k.invariant k (omega arith)

pub overflow_add-index : goal.overflow_add-index
overflow_add-index c =
    let a = c.args.self.now in
    let below : c.loop-k.k < length a.start.items = omega (arith, c.loop-k-test.true, c.in_ok-check_length.ensures.ok, c.len.ensures, a.start.ok.0) in
    omega (arith, end_fits a.start.items a.shape.items c.loop-k.k _ _ a.ends_fit a.same_length below c.index.ensures c.index-in-loop-k.ensures)

pub overflow_sub-index : goal.overflow_sub-index
overflow_sub-index c =
    let a = c.args.self.now in
    let below : c.loop-k.k < length a.start.items = omega (arith, c.loop-k-test.true, c.in_ok-check_length.ensures.ok, c.len.ensures, a.start.ok.0) in
    omega (arith, end_fits a.start.items a.shape.items c.loop-k.k _ _ a.ends_fit a.same_length below c.index.ensures c.index-in-loop-k.ensures)
