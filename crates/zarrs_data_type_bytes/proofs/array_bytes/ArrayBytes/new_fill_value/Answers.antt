use Rattle.std.proofs.Common.{sym}
use Rattle.std.proofs.lemmas.Result.{IfOk-weaker}
use Rattle.zarrs_data_type_bytes.specs.ArrayData.{data_of}
use Rattle.zarrs_data_type_bytes.proofs.Made.{cells-filled}
use Rattle.zarrs_data_type_bytes.proofs.array_bytes.ArrayBytes.new_fill_value.Goals as goal

pub returns : goal.returns
returns c =
    IfOk-weaker c.filled.result _ _
    (λ made is. cells-filled c.args.data_type.now (data_of made) c.args.count c.args.fill_value.now c.requires.filled (rw (sym c.as_bytes.ensures) is))
    c.filled.ensures
