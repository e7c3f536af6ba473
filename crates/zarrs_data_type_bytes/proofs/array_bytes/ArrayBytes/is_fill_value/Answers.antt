use Rattle.std.proofs.Common.{sym}
use Rattle.zarrs_data_type_bytes.specs.ArrayData.{data_of}
use Rattle.zarrs_data_type_kinds.specs.Kind.{kind}
use Rattle.zarrs_data_type_kinds.specs.Cell.{fill_of}
use Rattle.zarrs_data_type_bytes.proofs.Filled.{is_fill-cells}
use Rattle.zarrs_data_type_bytes.proofs.array_bytes.ArrayBytes.is_fill_value.Goals as goal

pub returns : goal.returns
returns c =
    is_fill-cells (kind c.args.data_type.now) (data_of c.args.self.now) (fill_of (kind c.args.data_type.now) c.args.fill_value.now) c.is_filled.result
    (rw (sym c.as_bytes.ensures) c.is_filled.ensures)
