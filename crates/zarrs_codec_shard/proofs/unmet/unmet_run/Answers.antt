use Rattle.std.proofs.Common.{◌≡◌, ℕ, List, suc, ◌-◌, ◌*◌, ◌/◌, ◌%◌, ◌<◌, length, drop, slice_index, sym, ap, subst, ◌∙◌, arith}
use Rattle.std.proofs.Math.Nat.{div-one, mul_comm}
use Rattle.std.proofs.lemmas.List.{drop_all}
use Rattle.std.proofs.lemmas.Nat.{mod_below}
use Rattle.zarrs_subset.specs.Boxes.{position_count}
use Rattle.zarrs_subset.specs.Regions.{box_of}
use Rattle.zarrs_codec_shard.proofs.Meetings.{some_along, together}
use Rattle.zarrs_codec_shard.proofs.UnmetRuns.{IsRun, block_more, part_within, row_within, rest_more, run_started, some_block, step_kept, step_longer}
use Rattle.zarrs_codec_shard.proofs.unmet.unmet_run.Goals as goal
use Rattle.zarrs_codec_shard.proofs.unmet.unmet_run.Goals.{then-next-index, else-next-index}

pub loop-axis-init : goal.loop-axis-init
loop-axis-init c =
    let grid = c.args.grid.now in
    let none = drop_all (length grid) grid (omega arith) in
    record {
      within = omega arith;
      rest = sym (ap (λ l. c.args.number / position_count l) none ∙ div-one c.args.number);
      block = sym (ap position_count none);
      run = run_started c.args.sub.now grid (box_of c.args.part.now) c.args.number;
    }

pub nonzero_rem-index : goal.nonzero_rem-index
nonzero_rem-index c = some_along c.args.grid.now c.args.number (c.loop-axis.axis - 1) c.requires.number (omega (arith, c.loop-axis.invariant.within, c.loop-axis-test.true))

pub nonzero_div-rest : goal.nonzero_div-rest
nonzero_div-rest c = some_along c.args.grid.now c.args.number (c.loop-axis.axis - 1) c.requires.number (omega (arith, c.loop-axis.invariant.within, c.loop-axis-test.true))

pub bounds-sub-axis : goal.bounds-sub-axis
bounds-sub-axis c = omega (arith, c.loop-axis.invariant.within, c.loop-axis-test.true, c.requires.same_length)

-- the block of the dimension before `axis`
block_is : (grid : List ℕ) (axis block : ℕ) → 0 < axis → block ≡ position_count (drop axis grid) → block ≡ position_count (drop (suc (axis - 1)) grid)
block_is grid axis block some is = is ∙ ap (λ i. position_count (drop i grid)) (let at : axis ≡ suc (axis - 1) = omega arith in at)

pub next_shared-next-requires-clause-index : goal.next_shared-next-requires-clause-index
next_shared-next-requires-clause-index c =
    mod_below c.loop-axis.rest (slice_index c.args.grid.now (c.loop-axis.axis - 1))
    (some_along c.args.grid.now c.args.number (c.loop-axis.axis - 1) c.requires.number (omega (arith, c.loop-axis.invariant.within, c.loop-axis-test.true)))

pub overflow_mul-run : goal.overflow_mul-run
overflow_mul-run c =
    let grid = c.args.grid.now in
    let a = c.loop-axis.axis - 1 in
    let m = c.next_shared-next.result - c.loop-axis.rest % slice_index grid a in
    let small = part_within grid c.args.number a m c.requires.number (omega (arith, c.loop-axis.invariant.within, c.loop-axis-test.true)) (omega (arith, c.next_shared-next.ensures.within)) in
    omega (arith, ap (λ b. m * b) (block_is grid c.loop-axis.axis c.loop-axis.block c.loop-axis-test.true c.loop-axis.invariant.block), small, c.requires.counted)

pub nonzero_rem-run : goal.nonzero_rem-run
nonzero_rem-run c =
    omega (arith, block_is c.args.grid.now c.loop-axis.axis c.loop-axis.block c.loop-axis-test.true c.loop-axis.invariant.block, some_block c.args.grid.now c.args.number (suc (c.loop-axis.axis - 1)) c.requires.number)

pub overflow_mul-block : goal.overflow_mul-block
overflow_mul-block c =
    let grid = c.args.grid.now in
    let a = c.loop-axis.axis - 1 in
    let g = slice_index grid a in
    let small = part_within grid c.args.number a g c.requires.number (omega (arith, c.loop-axis.invariant.within, c.loop-axis-test.true)) (omega arith) in
    omega (arith, ap (λ b. b * g) (block_is grid c.loop-axis.axis c.loop-axis.block c.loop-axis-test.true c.loop-axis.invariant.block), mul_comm (position_count (drop (suc a) grid)) g, small, c.requires.counted)

pub loop-axis-preserved : goal.loop-axis-preserved
loop-axis-preserved c =
    let sub = c.args.sub.now in
    let grid = c.args.grid.now in
    let part = c.args.part.now in
    let box = box_of part in
    let n = c.args.number in
    let a = c.loop-axis.axis - 1 in
    let at : c.loop-axis.axis ≡ suc a = omega (arith, c.loop-axis-test.true) in
    let below : a < length grid = omega (arith, c.loop-axis.invariant.within, c.loop-axis-test.true) in
    let same = c.requires.same_length in
    let dims = c.requires.dimensions in
    let long = part.same_length in
    let lt = c.requires.number in
    let g = slice_index grid a in
    let rest : c.loop-axis.rest ≡ n / position_count (drop (suc a) grid) = c.loop-axis.invariant.rest ∙ ap (λ i. n / position_count (drop i grid)) at in
    let block = block_is grid c.loop-axis.axis c.loop-axis.block c.loop-axis-test.true c.loop-axis.invariant.block in
    let start_is = ap (λ l. slice_index l a) c.start-start.ensures in
    let extent_is = ap (λ l. slice_index l a) c.shape-shape.ensures in
    let next = c.next_shared-next in
    let rest_next = ap (λ v. v / g) rest ∙ rest_more sub grid box n same dims long lt a below in
    let block_next = ap (λ b. b * g) block ∙ block_more sub grid box n same dims long lt a below in
    let S = slice_index c.start-start.result.now a in
    let X = slice_index c.shape-shape.result.now a in
    elim c.if-next-index.branch [
      | then-next-index w ↦
          record {
            within = omega arith;
            rest = rest_next;
            block = block_next;
            run =
                step_longer sub grid box n same dims long lt a below c.loop-axis.rest S X rest start_is extent_is c.loop-axis.block next.result c.if-next-index.run block w.if-next-index.true next.ensures.within next.ensures.unshared
                w.run-is;
          }
      | else-next-index w ↦
          record {
            within = omega arith;
            rest = rest_next;
            block = block_next;
            run =
                subst (λ m. IsRun sub grid box n a m) (sym w.run-is)
                (step_kept sub grid box n same dims long lt a below c.loop-axis.rest S X rest start_is extent_is c.loop-axis.run (subst (λ i. IsRun sub grid box n i c.loop-axis.run) at c.loop-axis.invariant.run)
                (next.ensures.shared (omega (arith, w.if-next-index.false, next.ensures.from))));
          }
    ]

pub returns : goal.returns
returns c =
    let part = c.args.part.now in
    let none : c.loop-axis.axis ≡ 0 = omega (arith, c.loop-axis-test.false) in
    let run = subst (λ i. IsRun c.args.sub.now c.args.grid.now (box_of part) c.args.number i c.loop-axis.run) none c.loop-axis.invariant.run in
    record {
      within = omega (arith, run.row, row_within c.args.grid.now c.args.number 0 c.requires.number (omega arith));
      unmet = run.unmet;
      met = λ gone. sym (together c.args.sub.now c.args.grid.now c.args.number part.start.items part.shape.items c.requires.same_length c.requires.dimensions part.same_length c.requires.number
          (λ k below. run.met gone k (omega arith) below));
    }
