use Rattle.std.proofs.Common.{◌≡◌, ◌∙◌, ℕ, List, Some, length, replicate, ap, sym, subst}
use Rattle.std.proofs.lemmas.Bool.{eqb-true}
use Rattle.zarrs_subset.specs.Boxes.{position_count}
use Rattle.zarrs_subset.specs.Regions.{box_at_origin, box_of}
use Rattle.zarrs_data_type.specs.ArrayData.{fixed}
use Rattle.zarrs_data_type.specs.Cells.{cells}
use Rattle.zarrs_data_type.specs.States.{target_box}
use Rattle.zarrs_engine.specs.Engine.{layout_of}
use Rattle.zarrs_engine.proofs.RegionLists.{list_filled, list_target}
use Rattle.zarrs_engine.proofs.engine.Engine.read_into_list.Goals as goal

pub over-target-requires : goal.over-target-requires
over-target-requires g c =
    let form = c.args.form in
    let shape = (box_of c.args.region.now).shape in
    let whole : box_of c.in_ok-own.own ≡ box_at_origin shape =
    c.in_ok-own.ensures ∙ ap box_at_origin (c.in_ok-to_vec.ensures.items_if_clones_equal (λ x y same. same) ∙ c.shape.ensures) in
    list_target (length c.args.bytes.now) form.size (length c.args.masks.now) form.depth shape c.shape-2.result.now (box_of c.in_ok-own.own) c.shape-2.ensures whole c.requires.counted c.requires.small
    c.requires.bytes_len c.requires.masks_len

pub read_into-requires-clause-filled : goal.read_into-requires-clause-filled
read_into-requires-clause-filled g c = λ is.
    let layout = layout_of c.args.self.now in
    let form = c.args.form in
    let region = box_of c.args.region.now in
    let t = c.over-target.result in
    let e = c.over-target.ensures in
    let plain : form.depth ≡ 0 = eqb-true form.depth 0 is in
    let whole : box_of c.in_ok-own.own ≡ box_at_origin region.shape =
    c.in_ok-own.ensures ∙ ap box_at_origin (c.in_ok-to_vec.ensures.items_if_clones_equal (λ x y same. same) ∙ c.shape.ensures) in
    let are = subst (λ (b : List ℕ). cells layout.kind (fixed b) ≡ Some (replicate (position_count region.shape) layout.fill)) (sym e.bytes.bytes) (c.requires.filled plain) in
    list_filled layout region t.parent_shape.now (target_box t) t.depth t.masks.now t.bytes.now c.args.region.now.same_length (e.bytes.depth ∙ plain) (e.bytes.parent_shape ∙ c.shape-2.ensures) (e.bytes.region ∙ whole) are
