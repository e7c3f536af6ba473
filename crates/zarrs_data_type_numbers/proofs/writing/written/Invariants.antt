use Rattle.std.proofs.Common.{◌≡◌, ◌+◌, ◌*◌, ◌++◌, ◌≤◌, length}
use Rattle.std.specs.Prelude.{vec_capacity}
use Rattle.std.specs.List.{flat_map}
use Rattle.zarrs_data_type_numbers.proofs.writing.written.Given as goal

abbrev pub invariant-loop-left : goal.invariant-loop-left
invariant-loop-left g l = record {
  items : l.made.items ++ flat_map g.W.Writing.written l.left
      ≡ flat_map g.W.Writing.written l.fn.values;
  len : length l.made.items + length l.left * g.row.N ≡ length l.fn.values * g.row.N;
  room : vec_capacity l.block ≡ l.room;
  left : length l.left ≤ length l.fn.values;
}

abbrev pub decreases-loop-left : goal.decreases-loop-left
decreases-loop-left g l = length l.left
