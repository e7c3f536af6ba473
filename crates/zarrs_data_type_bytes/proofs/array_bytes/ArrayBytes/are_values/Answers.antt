use Rattle.std.proofs.Common.{arith, sym, ◌∙◌}
use Rattle.zarrs_data_type_bytes.specs.ArrayData.{data_of}
use Rattle.zarrs_data_type_kinds.specs.Kind.{kind}
use Rattle.zarrs_data_type_kinds.proofs.Sizes.{element_size-positive}
use Rattle.zarrs_data_type_bytes.proofs.Cells.{HasCells-from}
use Rattle.zarrs_data_type_bytes.proofs.Validity.{HasCells-values, tested_true, tested_false}
use Rattle.zarrs_data_type_bytes.proofs.array_bytes.ArrayBytes.are_values.Goals as goal

pub returns-then-not-is_value_at : goal.returns-then-not-is_value_at
returns-then-not-is_value_at c =
    tested_false (HasCells-values (kind c.args.data_type.now) (data_of c.args.self.now) c.args.count c.loop-index.index (omega arith) (sym c.is_value_at.ensures ∙ c.if-not-is_value_at.true))

pub returns : goal.returns
returns c =
    tested_true (HasCells-from (kind c.args.data_type.now) (data_of c.args.self.now) c.args.count (element_size-positive c.args.data_type.now) c.requires
    (λ i lt. c.loop-index.invariant i (omega arith)))
