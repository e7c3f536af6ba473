use Rattle.std.proofs.Common.{arith, ◌≡◌, ℕ, ◌<◌, ◌+◌, ◌-◌, ◌*◌, ◌/◌, ◌%◌, List, [], ◌∷◌, length, drop, slice_index, refl, sym, ap, ◌∙◌}
use Rattle.std.proofs.Math.Nat.{mod-eq_of_lt, div-one, mul_comm, mul-le-mul_left}
use Rattle.std.proofs.lemmas.List.{drop-set, drop_all, drop_more, get_or-set_other}
use Rattle.std.proofs.lemmas.Nat.{mod_below}
use Rattle.zarrs_subset.specs.Boxes.{position_count, unravel}
use Rattle.zarrs_subset.proofs.Counts.{count_zero, quotient_more, unravel_more}
use Rattle.zarrs_subset.proofs.Overlaps.{AllSome}
use Rattle.zarrs_codec_shard.specs.Subchunks.{corner}
use Rattle.zarrs_codec_shard.proofs.corners.scale_by_index.Goals as goal

-- a grid with a number has no extent 0
all_some : (grid : List ℕ) (number : ℕ) → number < position_count grid → AllSome grid
all_some grid number lt = λ k below zero. absurd (omega (arith, count_zero grid k below zero))

positive_at : (grid : List ℕ) (number a : ℕ) → number < position_count grid → a < length grid → 0 < slice_index grid a
positive_at grid number a lt below = let some : slice_index grid a ≡ 0 → ⊥ = all_some grid number lt a below in omega arith

-- one more dimension, in front
corner_front : (extents grid now : List ℕ) (a number rest v : ℕ) → length extents ≡ length grid → a < length grid → number < position_count grid
    → rest ≡ number / position_count (drop (a + 1) grid)
    → v ≡ slice_index extents a * (rest % slice_index grid a)
    → now ≡ corner (drop (a + 1) extents) (unravel (drop (a + 1) grid) (number % position_count (drop (a + 1) grid)))
    → v ∷ now ≡ corner (drop a extents) (unravel (drop a grid) (number % position_count (drop a grid)))
corner_front extents grid now a number rest v same below lt rest_is v_is now_is =
    let c = position_count (drop (a + 1) grid) in
    let i = number / c % slice_index grid a in
    let x : v ≡ i * slice_index extents a =
    v_is ∙ ap (λ r. slice_index extents a * (r % slice_index grid a)) rest_is ∙ mul_comm (slice_index extents a) i in
    ap (λ x. x ∷ now) x
    ∙ ap (λ l. (i * slice_index extents a) ∷ l) now_is
    ∙ ap (corner (slice_index extents a ∷ drop (a + 1) extents)) (sym (unravel_more grid a number below (all_some grid number lt)))
    ∙ ap (λ l. corner l (unravel (drop a grid) (number % position_count (drop a grid)))) (sym (drop_more extents a 0 (omega arith)))

pub loop-axis-init : goal.loop-axis-init
loop-axis-init c =
    let grid = c.args.grid.now in
    let extents = c.args.extents.now in
    let n = c.args.number in
    let none : drop (length grid) grid ≡ [] = drop_all (length grid) grid (omega arith) in
    let none' : drop (length grid) extents ≡ [] = drop_all (length grid) extents (omega (arith, c.requires.dimensions)) in
    record {
      within = omega arith;
      rest = sym (ap (λ l. n / position_count l) none ∙ div-one n);
      before = λ j lt. refl;
      behind = none' ∙ sym (ap (λ l. corner l (unravel (drop (length grid) grid) (n % position_count (drop (length grid) grid)))) none');
    }

pub nonzero_rem-extents : goal.nonzero_rem-extents
nonzero_rem-extents c = positive_at c.args.grid.now c.args.number (c.loop-axis.axis - 1) c.requires.number (omega (arith, c.loop-axis.invariant.within, c.loop-axis-test.true))

pub nonzero_div-rest : goal.nonzero_div-rest
nonzero_div-rest c = positive_at c.args.grid.now c.args.number (c.loop-axis.axis - 1) c.requires.number (omega (arith, c.loop-axis.invariant.within, c.loop-axis-test.true))

pub overflow_mul-extents : goal.overflow_mul-extents
overflow_mul-extents c =
    let grid = c.args.grid.now in
    let a = c.loop-axis.axis - 1 in
    let g = slice_index grid a in
    let below : a < length grid = omega (arith, c.loop-axis.invariant.within, c.loop-axis-test.true) in
    let positive = positive_at grid c.args.number a c.requires.number below in
    let small : c.loop-axis.rest % g < g = mod_below c.loop-axis.rest g positive in
    let held : slice_index c.loop-axis.extents a ≡ slice_index c.args.extents.now a = c.loop-axis.invariant.before a (omega (arith, c.loop-axis-test.true)) in
    let le = mul-le-mul_left {m = c.loop-axis.rest % g} {n = g} (slice_index c.args.extents.now a) (omega arith) in
    omega (arith, ap (λ x. x * (c.loop-axis.rest % g)) held, mul_comm (slice_index c.args.extents.now a) g, c.requires.ends a)

pub loop-axis-preserved : goal.loop-axis-preserved
loop-axis-preserved c =
    let grid = c.args.grid.now in
    let extents = c.args.extents.now in
    let a = c.loop-axis.axis - 1 in
    let axis : c.loop-axis.axis ≡ a + 1 = omega (arith, c.loop-axis-test.true) in
    let below : a < length grid = omega (arith, c.loop-axis.invariant.within) in
    let held : slice_index c.loop-axis.extents a ≡ slice_index extents a = c.loop-axis.invariant.before a (omega arith) in
    let rest = rw axis at c.loop-axis.invariant.rest in
    let behind = rw axis at c.loop-axis.invariant.behind in
    record {
      within = omega arith;
      rest = ap (λ v. v / slice_index grid a) rest ∙ quotient_more grid a c.args.number below;
      before = λ j lt. get_or-set_other c.loop-axis.extents a j _ 0 (λ e. absurd (omega (arith, e))) ∙ c.loop-axis.invariant.before j (omega arith);
      behind = drop-set c.loop-axis.extents a _ (omega (arith, c.requires.dimensions))
          ∙ corner_front extents grid (drop (a + 1) c.loop-axis.extents) a c.args.number c.loop-axis.rest _ c.requires.dimensions below c.requires.number rest
          (ap (λ x. x * (c.loop-axis.rest % slice_index grid a)) held) behind;
    }

pub returns : goal.returns
returns c =
    let grid = c.args.grid.now in
    let none : c.loop-axis.axis ≡ 0 = omega (arith, c.loop-axis-test.false) in
    rw none at c.loop-axis.invariant.behind
    ∙ ap (λ n. corner c.args.extents.now (unravel grid n)) (mod-eq_of_lt c.requires.number)
