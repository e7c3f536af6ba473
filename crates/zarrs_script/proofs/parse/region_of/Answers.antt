use Rattle.std.proofs.Common.{Some, ap, sym, ◌∙◌}
use Rattle.zarrs_subset.specs.Regions.{Box}
use Rattle.zarrs_script.proofs.Regions.{region_made, no_region}
use Rattle.zarrs_script.proofs.parse.region_of.Goals as goal

pub returns-in-Ok : goal.returns-in-Ok
returns-in-Ok c =
    region_made c.args.start.now c.args.shape.now c.in_ok-start.start.items c.in_ok-shape.shape.items c.in_ok-start.ensures c.in_ok-shape.ensures c.in-Ok.ensures.is_box
    ∙ ap (λ (box : Box). Some box) (sym c.in-Ok.ensures.value)

pub returns-in-Err : goal.returns-in-Err
returns-in-Err c =
    no_region c.args.start.now c.args.shape.now c.in_ok-start.start.items c.in_ok-shape.shape.items c.in-Err.field-0 c.in_ok-start.ensures c.in_ok-shape.ensures c.in-Err.ensures.refused
