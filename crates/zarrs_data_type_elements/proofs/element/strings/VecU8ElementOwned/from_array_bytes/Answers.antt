use Rattle.std.proofs.Common.{refl, sym, ap, ◌∙◌}
use Rattle.zarrs_data_type_kinds.specs.Kind.{kind}
use Rattle.zarrs_data_type_kinds.specs.Kind as type
use Rattle.zarrs_data_type_bytes.specs.ArrayData.{data_of}
use Rattle.zarrs_data_type_bytes.specs.Cells.{cells}
use Rattle.zarrs_data_type_elements.proofs.StringCells.{cells-made, all_true, kind_is}
use Rattle.zarrs_data_type_elements.proofs.element.strings.VecU8ElementOwned.from_array_bytes.Goals as goal

pub returns-clause-cells : goal.returns-clause-cells
returns-clause-cells c =
    let k = kind c.args.data_type.now in
    ap (λ d. cells k (data_of d)) c.in-Variable.is
    ∙ cells-made (λ b. b.items) k type.bytes c.in_ok-lists_of.field-0.items c.in-Variable.strings (kind_is k type.bytes (sym c.serves.ensures ∙ c.in_ok-check_served.ensures.served)) refl
    (sym c.in_ok-lists_of.ensures) (all_true c.in-Variable.strings)
