use Rattle.std.proofs.Common.{arith}
use Rattle.zarrs_engine_layout.proofs.CutWalks.{all_back, all_first, all_last, back_below, back_first, back_long, back_more, found_inside, found_next}
use Rattle.zarrs_engine_layout.proofs.cut_walk.step.Goals as goal

pub loop-axis-init : goal.loop-axis-init
loop-axis-init c = back_first c.args.shape.now c.args.position.now c.requires _ (omega arith)

pub bounds-position-axis : goal.bounds-position-axis
bounds-position-axis c =
    let h = c.loop-axis.invariant in
    omega (arith, h.within, back_long c.args.shape.now c.args.position.now c.requires c.loop-axis.axis c.loop-axis.position h)

pub overflow_sub-shape : goal.overflow_sub-shape
overflow_sub-shape c =
    let low = back_below c.args.shape.now c.args.position.now c.requires c.loop-axis.axis c.loop-axis.position c.loop-axis.invariant (omega arith) in
    omega arith

pub bounds-position-axis-then-position-axis : goal.bounds-position-axis-then-position-axis
bounds-position-axis-then-position-axis c =
    let h = c.loop-axis.invariant in
    omega (arith, h.within, back_long c.args.shape.now c.args.position.now c.requires c.loop-axis.axis c.loop-axis.position h)

pub bounds-position-axis-then-position-axis-2 : goal.bounds-position-axis-then-position-axis-2
bounds-position-axis-then-position-axis-2 c =
    let h = c.loop-axis.invariant in
    omega (arith, h.within, back_long c.args.shape.now c.args.position.now c.requires c.loop-axis.axis c.loop-axis.position h)

pub bounds-position-axis-in-loop-axis : goal.bounds-position-axis-in-loop-axis
bounds-position-axis-in-loop-axis c =
    let h = c.loop-axis.invariant in
    omega (arith, h.within, back_long c.args.shape.now c.args.position.now c.requires c.loop-axis.axis c.loop-axis.position h)

pub returns-then-position-axis-clause-inside : goal.returns-then-position-axis-clause-inside
returns-then-position-axis-clause-inside c = found_inside c.args.shape.now c.args.position.now c.requires c.loop-axis.axis c.loop-axis.position c.loop-axis.invariant (omega arith) (omega arith)

pub returns-then-position-axis-clause-next : goal.returns-then-position-axis-clause-next
returns-then-position-axis-clause-next c = found_next c.args.shape.now c.args.position.now c.requires c.loop-axis.axis c.loop-axis.position c.loop-axis.invariant (omega arith) (omega arith)

pub loop-axis-preserved : goal.loop-axis-preserved
loop-axis-preserved c = back_more c.args.shape.now c.args.position.now c.requires c.loop-axis.axis c.loop-axis.position c.loop-axis.invariant (omega arith) (omega arith)

pub returns-clause-inside : goal.returns-clause-inside
returns-clause-inside c = all_back c.args.shape.now c.args.position.now c.requires c.loop-axis.axis c.loop-axis.position (omega arith) c.loop-axis.invariant

pub returns-clause-last : goal.returns-clause-last
returns-clause-last c = all_last c.args.shape.now c.args.position.now c.requires c.loop-axis.axis c.loop-axis.position (omega arith) c.loop-axis.invariant

pub returns-clause-first : goal.returns-clause-first
returns-clause-first c = all_first c.args.shape.now c.args.position.now c.requires c.loop-axis.axis c.loop-axis.position (omega arith) c.loop-axis.invariant
