use Rattle.std.proofs.Common.{map, string_bytes, refl, sym, ap, ◌∙◌}
use Rattle.std.specs.Prelude.{option_map}
use Rattle.zarrs_data_type_kinds.specs.Kind.{kind}
use Rattle.zarrs_data_type_kinds.specs.Kind as type
use Rattle.zarrs_data_type_bytes.specs.ArrayData.{data_of}
use Rattle.zarrs_data_type_bytes.specs.Cells.{cells}
use Rattle.zarrs_data_type_elements.proofs.StringCells.{cells-read, cells-unread, kind_is}
use Rattle.zarrs_data_type_elements.proofs.element.strings.StringElementOwned.from_array_bytes.Goals as goal

pub returns-in-Some-clause-cells : goal.returns-in-Some-clause-cells
returns-in-Some-clause-cells c =
    let k = kind c.args.data_type.now in
    ap (λ d. cells k (data_of d)) c.in-Variable.is
    ∙ cells-read string_bytes k type.string c.in-Some.texts.items c.in-Variable.strings (kind_is k type.string (sym c.serves.ensures ∙ c.in_ok-check_served.ensures.served)) refl
    (ap (option_map (λ v. map string_bytes v.items)) (sym c.in-Some.is) ∙ c.in_ok-texts.ensures)

pub returns-clause-refused : goal.returns-clause-refused
returns-clause-refused c = λ served.
    let k = kind c.args.data_type.now in
    ap (λ d. cells k (data_of d)) c.in-Variable.is
    ∙ cells-unread k type.string c.in-Variable.strings (kind_is k type.string served) refl
    (ap (option_map (λ v. map string_bytes v.items)) (sym c.in-None.is) ∙ c.in_ok-texts.ensures)
