use Rattle.std.proofs.Common.{arith, ◌≡◌, ◌<◌, ◌+◌, ◌-◌, ◌%◌, ◌/◌, length, drop, slice_index, ◌∷◌, sym, ap, ◌∙◌}
use Rattle.std.proofs.Math.Nat.{mod-eq_of_lt}
use Rattle.std.proofs.lemmas.List.{drop-set, length-set}
use Rattle.zarrs_subset.specs.Boxes.{position_count, unravel}
use Rattle.zarrs_subset.proofs.Overlaps.{AllSome}
use Rattle.zarrs_subset.proofs.Counts.{count_zero, some_extent, unravel_more, quotient_more}
use Rattle.zarrs_subset.proofs.Positions.{unravel_in, place-unravel}
use Rattle.zarrs_subset.proofs.ravel.unravelled.Goals as goal

pub nonzero_rem-rest : goal.nonzero_rem-rest
nonzero_rem-rest c = some_extent c.args.shape.now (c.loop-axis.axis - 1) c.args.index (omega arith) c.requires

pub nonzero_div-rest : goal.nonzero_div-rest
nonzero_div-rest c = some_extent c.args.shape.now (c.loop-axis.axis - 1) c.args.index (omega arith) c.requires

pub loop-axis-preserved : goal.loop-axis-preserved
loop-axis-preserved c =
    let shape = c.args.shape.now in
    let a = c.loop-axis.axis - 1 in
    let axis : c.loop-axis.axis ≡ a + 1 = omega arith in
    let below : a < length shape = omega arith in
    let below' : a < length c.loop-axis.indices.items = omega arith in
    let some : AllSome shape = λ j below z. absurd (omega (arith, count_zero shape j below z)) in
    let rest = rw axis at c.loop-axis.invariant.2 in
    let later = rw axis at c.loop-axis.invariant.3 in (
      omega arith,
      length-set _ _ _ ∙ c.loop-axis.invariant.1,
      ap (λ v. v / slice_index shape a) rest ∙ quotient_more shape a c.args.index below,
      drop-set _ a _ below'
          ∙ ap (λ v. (v % slice_index shape a) ∷ drop (a + 1) c.loop-axis.indices.items) rest
          ∙ ap (λ v. (c.args.index / position_count (drop (a + 1) shape) % slice_index shape a) ∷ v) later
          ∙ sym (unravel_more shape a c.args.index below some),
    )

pub returns : goal.returns
returns c =
    let shape = c.args.shape.now in
    let start : c.loop-axis.axis ≡ 0 = omega arith in
    let is = rw start at c.loop-axis.invariant.3 in
    let items : c.loop-axis.indices.items ≡ unravel shape c.args.index = is ∙ ap (λ k. unravel shape k) (mod-eq_of_lt c.requires) in
    rw items (unravel_in shape c.args.index c.requires, place-unravel shape c.args.index c.requires)
