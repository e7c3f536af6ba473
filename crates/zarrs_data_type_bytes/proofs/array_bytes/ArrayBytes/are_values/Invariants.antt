use Rattle.zarrs_data_type_bytes.specs.ArrayData.{data_of}
use Rattle.zarrs_data_type_kinds.specs.Kind.{kind}
use Rattle.zarrs_data_type_bytes.proofs.Cells.{AllValues}
use Rattle.zarrs_data_type_bytes.proofs.array_bytes.ArrayBytes.are_values.Given as goal

abbrev pub invariant-loop-index : goal.invariant-loop-index
invariant-loop-index l = AllValues (kind l.data_type) (data_of l.self) l.index
