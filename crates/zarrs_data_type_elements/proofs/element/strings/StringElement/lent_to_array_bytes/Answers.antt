use Rattle.std.proofs.Common.{Some, string_bytes, sym, ap, ◌∙◌}
use Rattle.std.proofs.lemmas.Result.{IfOk-weaker}
use Rattle.std.proofs.lemmas.Simd.{map-map}
use Rattle.zarrs_data_type_kinds.specs.Cell.{bytes}
use Rattle.zarrs_data_type_elements.proofs.element.strings.StringElement.lent_to_array_bytes.Goals as goal

pub returns-clause-cells : goal.returns-clause-cells
returns-clause-cells c =
    IfOk-weaker c.text_data.result _ _ (λ made is. is ∙ ap Some (sym (map-map (λ text. bytes (string_bytes text)) (λ text. text.now) c.args.elements.now))) c.text_data.ensures.cells
