use Rattle.std.proofs.Common.{◌∙◌, ap, sym}
use Rattle.zarrs_data_type_bytes.specs.Offsets.{joined}
use Rattle.zarrs_data_type_bytes.proofs.ByteStrings.{joined-strings}
use Rattle.zarrs_data_type_bytes.proofs.variable.ArrayBytesVariableLength.bytes.Goals as goal

pub returns : goal.returns
returns c = c.as_slice.ensures.value ∙ sym (joined-strings _ _ c.self.invariant) ∙ ap joined c.self.view_is
