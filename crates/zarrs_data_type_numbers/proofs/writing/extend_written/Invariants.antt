use Rattle.std.proofs.Common.{◌≡◌, map, take}
use Rattle.std.specs.Prelude.{vec_capacity}
use Rattle.zarrs_data_type_numbers.proofs.writing.extend_written.Given as goal

abbrev pub invariant-loop-value : goal.invariant-loop-value
invariant-loop-value g l = record {
  items : l.block.items ≡ map g.W.Writing.written (take l.value-index l.values);
  room : vec_capacity l.block ≡ vec_capacity l.fn.block;
}
