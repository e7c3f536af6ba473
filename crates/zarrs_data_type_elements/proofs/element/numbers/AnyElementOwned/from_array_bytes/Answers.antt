use Rattle.std.proofs.Common.{sym, ap, ◌∙◌}
use Rattle.zarrs_data_type_kinds.specs.Kind.{kind}
use Rattle.zarrs_data_type_kinds.proofs.Sizes.{element_size-positive}
use Rattle.zarrs_data_type_bytes.specs.ArrayData.{data_of, fixed}
use Rattle.zarrs_data_type_bytes.specs.Cells.{cells}
use Rattle.zarrs_data_type_elements.proofs.ElementCells.{cells-numbers}
use Rattle.zarrs_data_type_elements.proofs.element.numbers.AnyElementOwned.from_array_bytes.Goals as goal

pub nonzero_rem-as_slice : goal.nonzero_rem-as_slice
nonzero_rem-as_slice g c = element_size-positive c.args.data_type.now c.unwrap-size.result (sym c.element_size.ensures ∙ c.unwrap-size.ensures)

pub returns-clause-cells : goal.returns-clause-cells
returns-clause-cells g c =
    let t = c.args.data_type.now in
    ap (λ d. cells (kind t) (data_of d)) c.in-Fixed.is
    ∙ ap (λ b. cells (kind t) (fixed b)) (sym c.in_ok-own_bytes.ensures)
    ∙ cells-numbers g.T.Bytes.NumberBytes.le_bytes t g.T.Number.number_kind g.T.Bytes.NumberBytes.size c.in_ok-own_bytes.field-0.items
    (sym c.is_number_of.ensures ∙ c.in_ok-check_served.ensures.served) g.met.T.Number.number_cells.0 g.met.T.Number.number_cells.1 g.T.Bytes.NumberBytes.sized
