use Rattle.std.proofs.Common.{◌<◌, ◌≡◌, Some, map, sym, ap, subst, ◌∙◌}
use Rattle.std.specs.Prelude.{All, option_map}
use Rattle.std.specs.List.{filter_map}
use Rattle.zarrs_data_type_kinds.specs.Kind.{kind, inner_of}
use Rattle.zarrs_data_type_bytes.specs.ArrayData.{data_of}
use Rattle.zarrs_data_type_bytes.specs.Cells.{cells}
use Rattle.zarrs_data_type_elements.proofs.OptionCells.{flags-below, values-present, values-written}
use Rattle.zarrs_data_type_elements.proofs.element.options.OptionElement.lent_to_array_bytes.Goals as goal

pub under_flags-requires-clause-flags : goal.under_flags-requires-clause-flags
under_flags-requires-clause-flags g c =
    subst (λ l. All (λ flag. flag < 2) l) (sym c.in_ok-mask.ensures) (flags-below (λ e. e.now) c.args.elements.now)

pub under_flags-requires-clause-present : goal.under_flags-requires-clause-present
under_flags-requires-clause-present g c =
    let u = kind c.in-Some.inner.now in
    let lent = c.args.elements.now in
    let held : cells u (data_of c.in_ok-present.present) ≡ Some (map g.T.Element.cell (filter_map (λ e. e.now) lent)) =
    c.in_ok-present.ensures.cells ∙ ap (λ l. Some (map g.T.Element.cell (map (λ v. v.now) l))) c.deref.ensures.value ∙ ap (λ l. Some (map g.T.Element.cell l)) c.in_ok-values.ensures in
    values-present (λ e. e.now) g.T.Element.cell u lent c.in_ok-mask.mask.items (data_of c.in_ok-present.present) c.in_ok-mask.ensures held

pub returns-clause-cells : goal.returns-clause-cells
returns-clause-cells g c =
    let k = kind c.args.data_type.now in
    let u = kind c.in-Some.inner.now in
    let lent = c.args.elements.now in
    let held : cells u (data_of c.in_ok-present.present) ≡ Some (map g.T.Element.cell (filter_map (λ e. e.now) lent)) =
    c.in_ok-present.ensures.cells ∙ ap (λ l. Some (map g.T.Element.cell (map (λ v. v.now) l))) c.deref.ensures.value ∙ ap (λ l. Some (map g.T.Element.cell l)) c.in_ok-values.ensures in
    let inner : inner_of k ≡ Some u = sym c.optional_inner.ensures ∙ ap (option_map (λ i. kind i.now)) c.in-Some.is in
    values-written (λ e. e.now) g.T.Element.cell k u lent c.in_ok-mask.mask.items (data_of c.in_ok-present.present) (data_of c.in_ok-under_flags.field-0)
    inner c.in_ok-mask.ensures held c.in_ok-under_flags.ensures
