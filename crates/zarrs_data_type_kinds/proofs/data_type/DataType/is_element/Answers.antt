use Rattle.std.proofs.Common.{◌∙◌}
use Rattle.zarrs_data_type_kinds.proofs.Values.{is_ok-utf8}
use Rattle.zarrs_data_type_kinds.proofs.data_type.DataType.is_element.Goals as goal

pub returns-in-String : goal.returns-in-String
returns-in-String c = rw c.in-String.is (c.is_ok.ensures.value ∙ is_ok-utf8 _ _ c.from_utf8.result c.args.bytes.now c.from_utf8.ensures.cases)
