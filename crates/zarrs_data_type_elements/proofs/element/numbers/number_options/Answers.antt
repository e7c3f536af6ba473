use Rattle.std.proofs.Common.{◌≡◌, ◌*◌, IsTrue, length, sym, ap, subst, ◌∙◌}
use Rattle.std.proofs.lemmas.List.{length-map}
use Rattle.zarrs_data_type_kinds.specs.Kind.{kind}
use Rattle.zarrs_data_type_bytes.specs.ArrayData.{data_of, mask_of, inner_data, optional, fixed}
use Rattle.zarrs_data_type_bytes.specs.Cells.{cells, HasCells}
use Rattle.zarrs_data_type_numbers.specs.Options.{option_flag}
use Rattle.zarrs_data_type_elements.proofs.OptionCells.{values-unread}
use Rattle.zarrs_data_type_elements.proofs.OptionNumbers.{cells-options, options-held}
use Rattle.zarrs_data_type_elements.proofs.element.numbers.number_options.Goals as goal

pub returns-then-not-validate-clause-refused : goal.returns-then-not-validate-clause-refused
returns-then-not-validate-clause-refused g c = λ served.
    let k = kind c.args.data_type.now in
    let held = c.in-Optional.optional in
    let other : HasCells k (optional (mask_of held) (inner_data held)) (length (mask_of held)) → IsTrue c.validate.result =
    λ has. c.validate.ensures.1 (subst (λ n. HasCells k (data_of c.args.array_bytes.now) (length n)) (sym c.mask-flags.ensures.mask) (subst (λ d. HasCells k (data_of d) (length (mask_of held))) (sym c.in-Optional.is) has)) in
    ap (λ d. cells k (data_of d)) c.in-Optional.is
    ∙ values-unread k (mask_of held) (inner_data held) (λ has. let yes = other has in cc)

pub returns-in_ok-options_from_bytes-in-Fixed-clause-cells : goal.returns-in_ok-options_from_bytes-in-Fixed-clause-cells
returns-in_ok-options_from_bytes-in-Fixed-clause-cells g c =
    let t = c.args.data_type.now in
    let k = kind t in
    let size = g.T.Bytes.NumberBytes.size in
    let held = c.in-Optional.optional in
    let flags = c.mask-flags.result.now in
    let b = c.as_slice.result.now in
    let options = c.in_ok-options_from_bytes-in-Fixed.field-0.items in
    let made = c.in_ok-options_from_bytes-in-Fixed.ensures in
    let inner : inner_data held ≡ fixed b = sym c.data.ensures ∙ ap data_of c.in-Fixed.is ∙ ap fixed (sym c.as_slice.ensures.value) in
    let whole : data_of c.args.array_bytes.now ≡ optional flags (fixed b) =
    ap data_of c.in-Optional.is ∙ ap (λ m. optional m (inner_data held)) (sym c.mask-flags.ensures.mask) ∙ ap (optional flags) inner in
    let has : HasCells k (optional flags (fixed b)) (length flags) = subst (λ d. HasCells k d (length flags)) whole (c.validate.ensures.0 c.if-not-validate.false) in
    let count : length flags ≡ length options = ap length (sym made.flags) ∙ length-map options option_flag in
    ap (cells k) whole
    ∙ cells-options g.T.Bytes.NumberBytes.le_bytes t size flags b options c.requires made.flags (options-held k size (length flags) flags b c.requires has ∙ ap (λ n. n * size) count) made.numbers
