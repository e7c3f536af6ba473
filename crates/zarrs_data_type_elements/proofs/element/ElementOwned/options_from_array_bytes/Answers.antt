use Rattle.std.proofs.Common.{◌≡◌, Some, IsTrue, length, map, sym, ap, subst, ◌∙◌}
use Rattle.std.specs.Prelude.{option_map}
use Rattle.zarrs_data_type_kinds.specs.Kind.{kind, inner_of}
use Rattle.zarrs_data_type_bytes.specs.ArrayData.{data_of, mask_of, inner_data, optional}
use Rattle.zarrs_data_type_bytes.specs.Cells.{cells, HasCells}
use Rattle.zarrs_data_type_bytes.specs.Present.{spread_cells}
use Rattle.zarrs_data_type_elements.specs.Elements.{option_cell}
use Rattle.zarrs_data_type_elements.proofs.OptionCells.{values-read, values-unread}
use Rattle.zarrs_data_type_elements.proofs.element.ElementOwned.options_from_array_bytes.Goals as goal

pub returns-then-not-validate-clause-refused : goal.returns-then-not-validate-clause-refused
returns-then-not-validate-clause-refused g c = λ served.
    let k = kind c.args.data_type.now in
    let held = c.in-Optional.optional in
    let other : HasCells k (optional (mask_of held) (inner_data held)) (length (mask_of held)) → IsTrue c.validate.result =
    λ has. c.validate.ensures.1 (subst (λ n. HasCells k (data_of c.args.array_bytes.now) (length n)) (sym c.mask-mask.ensures.mask) (subst (λ d. HasCells k (data_of d) (length (mask_of held))) (sym c.in-Optional.is) has)) in
    ap (λ d. cells k (data_of d)) c.in-Optional.is
    ∙ values-unread k (mask_of held) (inner_data held) (λ has. let yes = other has in cc)

pub returns-clause-cells : goal.returns-clause-cells
returns-clause-cells g c =
    let k = kind c.args.data_type.now in
    let u = kind c.in-Some.inner.now in
    let held = c.in-Optional.optional in
    let inner : inner_of k ≡ Some u = sym c.optional_inner.ensures ∙ ap (option_map (λ i. kind i.now)) c.in-Some.is in
    let valid : HasCells k (data_of c.args.array_bytes.now) (length c.mask-mask.result.now) = c.validate.ensures.0 c.if-not-validate.false in
    let has : HasCells k (optional (mask_of held) (inner_data held)) (length (mask_of held)) =
    subst (λ d. HasCells k (data_of d) (length (mask_of held))) c.in-Optional.is (subst (λ n. HasCells k (data_of c.args.array_bytes.now) (length n)) c.mask-mask.ensures.mask valid) in
    let spread : map (option_cell g.Self.Element.cell) c.in_ok-spread_values.field-0.items ≡ spread_cells (mask_of held) (map g.Self.Element.cell c.in_ok-values.values.items) =
    c.in_ok-spread_values.ensures ∙ ap (λ m. spread_cells m (map g.Self.Element.cell c.in_ok-values.values.items)) c.mask-mask.ensures.mask in
    ap (λ d. cells k (data_of d)) c.in-Optional.is
    ∙ values-read k u (mask_of held) (inner_data held) (data_of c.in_ok-present.present) (map g.Self.Element.cell c.in_ok-values.values.items)
    (map (option_cell g.Self.Element.cell) c.in_ok-spread_values.field-0.items) inner has c.in_ok-present.ensures c.in_ok-values.ensures.cells spread
