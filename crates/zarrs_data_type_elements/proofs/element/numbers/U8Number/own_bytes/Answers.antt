use Rattle.std.proofs.Common.{◌∙◌}
use Rattle.std.proofs.lemmas.Result.{IfOk-weaker}
use Rattle.zarrs_data_type_elements.proofs.ElementCells.{singles}
use Rattle.zarrs_data_type_elements.proofs.element.numbers.U8Number.own_bytes.Goals as goal

pub returns : goal.returns
returns c = IfOk-weaker c.owned_bytes.result _ _ (λ made is. singles made.items ∙ is) c.owned_bytes.ensures
