use Rattle.std.proofs.Common.{◌≡◌, length, map, take}
use Rattle.std.specs.Prelude.{vec_capacity}
use Rattle.zarrs_data_type_numbers.proofs.little_endian.from_bytes.Given as goal

abbrev pub invariant-loop-cell : goal.invariant-loop-cell
invariant-loop-cell g l = record {
  items : map g.T.LittleEndian.le_bytes l.numbers.items ≡ take l.cell-index l.cells;
  room : vec_capacity l.numbers ≡ length l.cells;
}
