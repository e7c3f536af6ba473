use Rattle.std.proofs.Common.{arith, rules, ◌≡◌, ◌≤◌, ◌*◌, ◌^◌, ◌+◌, drop, slice_index, sym, SomeIndex}
use Rattle.std.proofs.lemmas.Bool.{iff_false}
use Rattle.zarrs_subset.specs.Boxes.{position_count}
use Rattle.zarrs_subset.proofs.Overlaps.{AllSome}
use Rattle.zarrs_subset.proofs.Counts.{count_zero, count_drop, count_some, AllSome-drop, product_more, product_past}
use Rattle.zarrs_subset.proofs.ravel.element_count.Goals as goal

pub returns-then-has_zero : goal.returns-then-has_zero
returns-then-has_zero c =
    let found : SomeIndex c.args.shape.now (λ k. slice_index c.args.shape.now k ≡ 0) = search rules in
    sym (count_zero _ found.0 found.1 found.2)

pub returns-in_err-count : goal.returns-in_err-count
returns-in_err-count c =
    let k = c.loop-extent.extent-index in
    let some : AllSome c.args.shape.now = λ j below z. iff_false c.has_zero.ensures c.if-has_zero.false (j, below, z) in
    let fits = c.in_err-count.ensures in
    let past : 2 ^ 64 ≤ c.loop-extent.count * slice_index c.args.shape.now k = omega arith in
    rw c.from_residual.ensures (product_past c.loop-extent.count (slice_index c.args.shape.now k) (position_count (drop (k + 1) c.args.shape.now)) _
    (rw (count_drop c.args.shape.now k c.loop-extent-test.true) at c.loop-extent.invariant)
    (count_some _ (AllSome-drop c.args.shape.now (k + 1) some)) past)

pub loop-extent-preserved : goal.loop-extent-preserved
loop-extent-preserved c =
    let k = c.loop-extent.extent-index in
    let is : c.in_ok-count.count ≡ c.loop-extent.count * slice_index c.args.shape.now k = c.in_ok-count.ensures.1 in
    rw is (product_more c.loop-extent.count (slice_index c.args.shape.now k) (position_count (drop (k + 1) c.args.shape.now)) _
    (rw (count_drop c.args.shape.now k c.loop-extent-test.true) at c.loop-extent.invariant))
