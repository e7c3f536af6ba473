use Rattle.std.proofs.Common.{◌∙◌, ap, sym}
use Rattle.zarrs_data_type_bytes.specs.Offsets.{offsets_of}
use Rattle.zarrs_data_type_bytes.proofs.ByteStrings.{offsets_of-strings}
use Rattle.zarrs_data_type_bytes.proofs.variable.ArrayBytesVariableLength.offsets.Goals as goal

pub returns : goal.returns
returns c = sym (offsets_of-strings _ _ c.self.invariant) ∙ ap offsets_of c.self.view_is
