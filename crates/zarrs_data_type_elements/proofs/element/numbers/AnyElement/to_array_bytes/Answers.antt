use Rattle.std.proofs.Common.{sym, ap, ◌∙◌}
use Rattle.zarrs_data_type_kinds.specs.Kind.{kind}
use Rattle.zarrs_data_type_bytes.specs.ArrayData.{fixed}
use Rattle.zarrs_data_type_bytes.specs.Cells.{cells}
use Rattle.zarrs_data_type_elements.proofs.ElementCells.{cells-numbers}
use Rattle.zarrs_data_type_elements.proofs.element.numbers.AnyElement.to_array_bytes.Goals as goal

pub returns-clause-cells : goal.returns-clause-cells
returns-clause-cells g c =
    let t = c.args.data_type.now in
    ap (λ b. cells (kind t) (fixed b)) c.in_ok-lend_bytes.ensures
    ∙ cells-numbers g.T.Bytes.NumberBytes.le_bytes t g.T.Number.number_kind g.T.Bytes.NumberBytes.size c.args.elements.now
    (sym c.is_number_of.ensures ∙ c.in_ok-check_served.ensures.served) g.met.T.Number.number_cells.0 g.met.T.Number.number_cells.1 g.T.Bytes.NumberBytes.sized
