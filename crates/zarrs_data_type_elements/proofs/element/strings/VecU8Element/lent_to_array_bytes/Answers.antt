use Rattle.std.proofs.Common.{Some, sym, ap, ◌∙◌}
use Rattle.std.proofs.lemmas.Result.{IfOk-weaker}
use Rattle.std.proofs.lemmas.Simd.{map-map}
use Rattle.zarrs_data_type_kinds.specs.Cell.{bytes}
use Rattle.zarrs_data_type_elements.proofs.element.strings.VecU8Element.lent_to_array_bytes.Goals as goal

pub returns-clause-cells : goal.returns-clause-cells
returns-clause-cells c =
    IfOk-weaker c.bytes_data.result _ _ (λ made is. is ∙ ap Some (sym (map-map (λ list. bytes list.items) (λ list. list.now) c.args.elements.now))) c.bytes_data.ensures.cells
