use Rattle.std.proofs.Common.{map, sym, ap, ◌∙◌}
use Rattle.std.specs.Prelude.{option_map}
use Rattle.std.specs.Int.{from_bool}
use Rattle.zarrs_data_type_kinds.specs.Kind.{kind}
use Rattle.zarrs_data_type_kinds.specs.Kind as type
use Rattle.zarrs_data_type_bytes.specs.ArrayData.{data_of, fixed}
use Rattle.zarrs_data_type_bytes.specs.Cells.{cells}
use Rattle.zarrs_data_type_elements.proofs.FlagCells.{flags-read, flags-unread}
use Rattle.zarrs_data_type_elements.proofs.StringCells.{kind_is}
use Rattle.zarrs_data_type_elements.proofs.element.flags.BoolElementOwned.from_array_bytes.Goals as goal

pub returns-in-Some-clause-cells : goal.returns-in-Some-clause-cells
returns-in-Some-clause-cells c =
    let k = kind c.args.data_type.now in
    ap (λ d. cells k (data_of d)) c.in-Fixed.is
    ∙ ap (λ b. cells k (fixed b)) (sym c.as_slice.ensures.value)
    ∙ flags-read k c.in-Some.flags.items c.as_slice.result.now (kind_is k type.bool (sym c.serves.ensures ∙ c.in_ok-check_served.ensures.served))
    (ap (option_map (λ v. map from_bool v.items)) (sym c.in-Some.is) ∙ c.in_ok-flags.ensures)

pub returns-clause-refused : goal.returns-clause-refused
returns-clause-refused c = λ served.
    let k = kind c.args.data_type.now in
    ap (λ d. cells k (data_of d)) c.in-Fixed.is
    ∙ ap (λ b. cells k (fixed b)) (sym c.as_slice.ensures.value)
    ∙ flags-unread k c.as_slice.result.now (kind_is k type.bool served)
    (ap (option_map (λ v. map from_bool v.items)) (sym c.in-None.is) ∙ c.in_ok-flags.ensures)
