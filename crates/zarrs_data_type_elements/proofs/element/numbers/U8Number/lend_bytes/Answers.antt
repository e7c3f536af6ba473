use Rattle.std.proofs.Common.{sym}
use Rattle.zarrs_data_type_elements.proofs.ElementCells.{singles}
use Rattle.zarrs_data_type_elements.proofs.element.numbers.U8Number.lend_bytes.Goals as goal

pub returns : goal.returns
returns c = sym (singles c.args.numbers.now)
