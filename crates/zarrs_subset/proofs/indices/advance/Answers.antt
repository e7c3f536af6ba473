use Rattle.std.proofs.Common.{arith, ◌≡◌, ◌+◌, ◌-◌, ◌<◌, ◌^◌, length, slice_index, slice_set, sym, ap}
use Rattle.std.proofs.Common.{◌∙◌}
use Rattle.zarrs_subset.specs.Regions.{box_from}
use Rattle.zarrs_subset.proofs.Bytes.{holds_along}
use Rattle.zarrs_subset.proofs.WalkLemmas.{next_of, reset_none, reset-at, set-reset, reset_more}
use Rattle.zarrs_subset.proofs.WalkLemmas.{IsFreeIn-last, ended_more, holds_start, holds-next, place_in-next, place_in-last}
use Rattle.zarrs_subset.proofs.indices.advance.Goals as goal

pub loop-axis-init : goal.loop-axis-init
loop-axis-init c = record {
  within = omega arith;
  reset = sym (reset_none c.args.start.now c.args.position.now (holds_along _ _ c.requires.long c.requires.holds).same_length);
  ended = λ k low below. absurd (omega arith);
}

pub bounds-position-axis : goal.bounds-position-axis
bounds-position-axis c = omega (arith, (holds_along _ _ c.requires.long c.requires.holds).same_length)

pub overflow_add-position : goal.overflow_add-position
overflow_add-position c =
    let k = c.loop-axis.axis - 1 in
    let inside = holds_along _ _ c.requires.long c.requires.holds in
    let at : slice_index c.loop-axis.position k ≡ slice_index c.args.position.now k =
    ap (λ p. slice_index p k) c.loop-axis.invariant.reset ∙ reset-at c.args.start.now c.args.position.now k c.loop-axis.axis (omega arith) (omega (arith, inside.same_length)) in
    let below : slice_index c.args.position.now k < slice_index c.args.start.now k + slice_index c.args.shape.now k = inside.below k (omega arith) in
    let fits : slice_index c.args.start.now k + slice_index c.args.shape.now k < 2 ^ 64 = c.requires.ends k in
    rw at (omega arith)

pub bounds-position-axis-then-position-axis : goal.bounds-position-axis-then-position-axis
bounds-position-axis-then-position-axis c = omega (arith, (holds_along _ _ c.requires.long c.requires.holds).same_length)

pub bounds-position-axis-then-position-axis-2 : goal.bounds-position-axis-then-position-axis-2
bounds-position-axis-then-position-axis-2 c = omega (arith, (holds_along _ _ c.requires.long c.requires.holds).same_length)

pub bounds-position-axis-in-loop-axis : goal.bounds-position-axis-in-loop-axis
bounds-position-axis-in-loop-axis c = omega (arith, (holds_along _ _ c.requires.long c.requires.holds).same_length)

pub returns-then-position-axis-clause-holds : goal.returns-then-position-axis-clause-holds
returns-then-position-axis-clause-holds c =
    let S = c.args.start.now in
    let p = c.args.position.now in
    let k = c.loop-axis.axis - 1 in
    let inside = holds_along _ _ c.requires.long c.requires.holds in
    let next : c.loop-axis.axis ≡ k + 1 = omega arith in
    let below : k < length p = omega (arith, inside.same_length) in
    let at : slice_index c.loop-axis.position k ≡ slice_index p k =
    ap (λ q. slice_index q k) c.loop-axis.invariant.reset ∙ reset-at S p k c.loop-axis.axis (omega arith) below in
    let free = IsFreeIn-last (box_from S c.args.shape.now) p c.loop-axis.axis k next (omega arith) inside.same_length (rw at at c.if-position-axis.true) c.loop-axis.invariant.ended in
    let new : slice_set c.loop-axis.position k (slice_index c.loop-axis.position k + 1) ≡ next_of S p k =
    rw at (ap (λ q. slice_set q k (slice_index p k + 1)) c.loop-axis.invariant.reset ∙ set-reset S p k c.loop-axis.axis (slice_index p k + 1) (omega arith) below) in
    rw new (holds-next (box_from S c.args.shape.now) p k c.requires.long c.requires.holds free)

pub returns-then-position-axis-clause-next : goal.returns-then-position-axis-clause-next
returns-then-position-axis-clause-next c =
    let S = c.args.start.now in
    let p = c.args.position.now in
    let k = c.loop-axis.axis - 1 in
    let inside = holds_along _ _ c.requires.long c.requires.holds in
    let next : c.loop-axis.axis ≡ k + 1 = omega arith in
    let below : k < length p = omega (arith, inside.same_length) in
    let at : slice_index c.loop-axis.position k ≡ slice_index p k =
    ap (λ q. slice_index q k) c.loop-axis.invariant.reset ∙ reset-at S p k c.loop-axis.axis (omega arith) below in
    let free = IsFreeIn-last (box_from S c.args.shape.now) p c.loop-axis.axis k next (omega arith) inside.same_length (rw at at c.if-position-axis.true) c.loop-axis.invariant.ended in
    let new : slice_set c.loop-axis.position k (slice_index c.loop-axis.position k + 1) ≡ next_of S p k =
    rw at (ap (λ q. slice_set q k (slice_index p k + 1)) c.loop-axis.invariant.reset ∙ set-reset S p k c.loop-axis.axis (slice_index p k + 1) (omega arith) below) in
    rw new (place_in-next (box_from S c.args.shape.now) p k c.requires.long c.requires.holds free)

pub loop-axis-preserved : goal.loop-axis-preserved
loop-axis-preserved c =
    let S = c.args.start.now in
    let p = c.args.position.now in
    let k = c.loop-axis.axis - 1 in
    let inside = holds_along _ _ c.requires.long c.requires.holds in
    let next : c.loop-axis.axis ≡ k + 1 = omega arith in
    let below : k < length p = omega (arith, inside.same_length) in
    let at : slice_index c.loop-axis.position k ≡ slice_index p k =
    ap (λ q. slice_index q k) c.loop-axis.invariant.reset ∙ reset-at S p k c.loop-axis.axis (omega arith) below in
    record {
      within = omega arith;
      reset = ap (λ q. slice_set q k (slice_index S k)) c.loop-axis.invariant.reset ∙ set-reset S p k c.loop-axis.axis (slice_index S k) (omega arith) below ∙ reset_more S p k (omega arith);
      ended = ended_more (box_from S c.args.shape.now) p c.loop-axis.axis k next (omega arith) c.requires.long c.requires.holds (rw at at c.if-position-axis.false) c.loop-axis.invariant.ended;
    }

pub returns-clause-holds : goal.returns-clause-holds
returns-clause-holds c =
    let none : c.loop-axis.axis ≡ 0 = omega arith in
    let back = rw none at c.loop-axis.invariant.reset in
    rw back (holds_start (box_from c.args.start.now c.args.shape.now) c.args.position.now c.requires.long c.requires.holds)

pub returns-clause-last : goal.returns-clause-last
returns-clause-last c =
    place_in-last (box_from c.args.start.now c.args.shape.now) c.args.position.now c.requires.long c.requires.holds
    (λ k below. c.loop-axis.invariant.ended k (omega arith) below)
