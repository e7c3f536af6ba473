use Rattle.std.proofs.Common.{map, refl, ap, ◌∙◌, sym}
use Rattle.std.proofs.lemmas.List.{take_all}
use Rattle.zarrs_data_type_kinds.specs.Kind.{kind}
use Rattle.zarrs_data_type_kinds.specs.Kind as type
use Rattle.zarrs_data_type_elements.proofs.StringCells.{cells-made, all_true, kind_is}
use Rattle.zarrs_data_type_elements.proofs.element.strings.bytes_data.Goals as goal

pub returns-clause-cells : goal.returns-clause-cells
returns-clause-cells g c =
    let k = kind c.args.data_type.now in
    let lists = c.args.lists.now in
    cells-made g.S.AsSlice.items k type.bytes lists c.finish.result (kind_is k type.bytes (sym c.serves.ensures ∙ c.in_ok-check_served.ensures.served)) refl
    (c.finish.ensures ∙ c.loop-list.invariant ∙ ap (map g.S.AsSlice.items) (take_all c.loop-list.list-index lists c.loop-list-test.false)) (all_true c.finish.result)
