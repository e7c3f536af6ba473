use Rattle.zarrs_subset.specs.Regions.{box_at_origin, place_in}
use Rattle.zarrs_engine_layout.proofs.CutWalks.{first_then, next_then, passes_then}
use Rattle.zarrs_engine_layout.proofs.cut_walk.advance.Goals as goal

pub returns-clause-next : goal.returns-clause-next
returns-clause-next c =
    let number = place_in (box_at_origin c.args.shape.now) in
    next_then c.step-found.result (number c.args.position.now) (number c.step-found.new.position) (number c.skip.new.position) c.step-found.ensures.next c.skip.ensures.next

pub returns-clause-passes : goal.returns-clause-passes
returns-clause-passes c =
    let number = place_in (box_at_origin c.args.shape.now) in
    passes_then c.args.shape.now c.args.whole.now c.step-found.result (number c.args.position.now) (number c.step-found.new.position) (number c.skip.new.position) c.step-found.ensures.next c.skip.ensures.passes

pub returns-clause-first : goal.returns-clause-first
returns-clause-first c =
    let number = place_in (box_at_origin c.args.shape.now) in
    first_then c.args.shape.now c.args.whole.now c.step-found.result (number c.step-found.new.position) (number c.skip.new.position) c.step-found.ensures.first c.skip.ensures.passes
