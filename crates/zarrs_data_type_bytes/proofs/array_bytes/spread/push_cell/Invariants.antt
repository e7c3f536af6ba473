use Rattle.std.proofs.Common.{◌≡◌, ◌+◌, ◌++◌, take}
use Rattle.std.specs.Prelude.{vec_capacity, vec_len}
use Rattle.zarrs_data_type_bytes.proofs.array_bytes.spread.push_cell.Given as goal

abbrev pub invariant-loop-index : goal.invariant-loop-index
invariant-loop-index g l = record {
  items : l.bytes.items ≡ l.initial.bytes.items ++ take l.index l.cell;
  len : vec_len l.bytes ≡ vec_len l.initial.bytes + l.index;
  capacity : vec_capacity l.bytes ≡ vec_capacity l.initial.bytes;
}
