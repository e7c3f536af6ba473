use Rattle.std.proofs.Common.{arith, inl, inr, ℕ, List, ◌≡◌, ◌<◌, ◌≤◌, ◌+◌, ◌*◌, ◌^◌, length, drop, slice_index}
use Rattle.std.proofs.lemmas.Bool.{cases_eq}
use Rattle.std.proofs.lemmas.List.{drop_all}
use Rattle.zarrs_subset.specs.Boxes.{position_count, place, InShape}
use Rattle.zarrs_subset.proofs.Counts.{count_some, AllSome-from, AllSome-drop, InShape-from, InShape-at, length-InShape, ravel_more, ravel_past}
use Rattle.zarrs_subset.proofs.ravel.ravel_indices.Goals as goal

-- a number that is past 64 bits at one dimension is so in the end
past_at : (shape p : List ℕ) (k number whole : ℕ) → k < length shape → InShape shape p
    → number * position_count (drop k shape) + place (drop k shape) (drop k p) ≡ whole
    → 2 ^ 64 ≤ number * slice_index shape k + slice_index p k → 2 ^ 64 ≤ whole
past_at shape p k number whole below inside so_far past =
    ravel_past (number * slice_index shape k + slice_index p k) (position_count (drop (k + 1) shape)) (place (drop (k + 1) shape) (drop (k + 1) p)) _
    (ravel_more shape p k number _ below (length-InShape shape p inside) so_far)
    (count_some _ (AllSome-drop shape (k + 1) (AllSome-from shape p (λ j lt. InShape-at shape p j inside lt)))) past

pub returns-then-indices-shape : goal.returns-then-indices-shape
returns-then-indices-shape c = λ inside. absurd (omega (arith, length-InShape _ _ inside))

pub returns-then-indices-k : goal.returns-then-indices-k
returns-then-indices-k c = λ inside. absurd (omega (arith, InShape-at _ _ c.loop-k.k inside c.loop-k-test.true))

pub returns-in_err-checked_mul : goal.returns-in_err-checked_mul
returns-in_err-checked_mul c =
    let k = c.loop-k.k in
    let shape = c.args.shape.now in
    let p = c.args.indices.now in
    let fits = c.in_err-checked_mul.ensures in
    let past : 2 ^ 64 ≤ c.loop-k.number * slice_index shape k = omega arith in
    rw c.from_residual.ensures (λ inside. past_at shape p k c.loop-k.number _ c.loop-k-test.true inside c.loop-k.invariant.1 (omega arith))

pub returns-in_err-number : goal.returns-in_err-number
returns-in_err-number c =
    let k = c.loop-k.k in
    let shape = c.args.shape.now in
    let p = c.args.indices.now in
    let row : c.in_ok-checked_mul.field-0 ≡ c.loop-k.number * slice_index shape k = c.in_ok-checked_mul.ensures.1 in
    let fits = c.in_err-number.ensures in
    let past : 2 ^ 64 ≤ c.loop-k.number * slice_index shape k + slice_index p k = omega arith in
    rw c.from_residual-in_err-number.ensures (λ inside. past_at shape p k c.loop-k.number _ c.loop-k-test.true inside c.loop-k.invariant.1 (omega arith))

pub loop-k-preserved : goal.loop-k-preserved
loop-k-preserved c =
    let k = c.loop-k.k in
    let shape = c.args.shape.now in
    let p = c.args.indices.now in
    let same : length p ≡ length shape = omega arith in
    let row : c.in_ok-checked_mul.field-0 ≡ c.loop-k.number * slice_index shape k = c.in_ok-checked_mul.ensures.1 in
    let sum : c.in_ok-number.number ≡ c.in_ok-checked_mul.field-0 + slice_index p k = c.in_ok-number.ensures.1 in (
      λ j below. elim (cases_eq j k) [ inl here ↦ rw here (omega arith) | inr other ↦ c.loop-k.invariant.0 j (omega arith) ],
      rw (sum, row) (ravel_more shape p k c.loop-k.number _ c.loop-k-test.true same c.loop-k.invariant.1),
    )

pub returns : goal.returns
returns c =
    let shape = c.args.shape.now in
    let p = c.args.indices.now in
    let same : length p ≡ length shape = omega arith in
    let whole = rw (drop_all c.loop-k.k shape (omega arith)) at c.loop-k.invariant.1 in
    (InShape-from shape p same (λ j below. c.loop-k.invariant.0 j (omega arith)), omega arith)
