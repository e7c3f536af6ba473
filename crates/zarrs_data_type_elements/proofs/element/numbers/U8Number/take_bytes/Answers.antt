use Rattle.std.proofs.Common.{sym, ap, ◌∙◌}
use Rattle.zarrs_data_type_elements.proofs.ElementCells.{singles}
use Rattle.zarrs_data_type_elements.proofs.element.numbers.U8Number.take_bytes.Goals as goal

pub returns : goal.returns
returns c = ap (λ v. v.items) c.replace.ensures.value ∙ sym (singles c.args.numbers.now.items)
