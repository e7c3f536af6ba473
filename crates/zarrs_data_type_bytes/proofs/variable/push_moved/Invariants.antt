use Rattle.std.proofs.Common.{◌≡◌, ◌+◌, ◌-◌, ◌++◌, map, take}
use Rattle.std.specs.Prelude.{vec_capacity}
use Rattle.zarrs_data_type_bytes.proofs.variable.push_moved.Given as goal

abbrev pub invariant-loop-number : goal.invariant-loop-number
invariant-loop-number l = record {
  items : l.numbers.items ≡ l.initial.numbers.items ++ map (λ number. l.to + (number - l.from)) (take l.number-index l.more);
  room : vec_capacity l.numbers ≡ vec_capacity l.initial.numbers;
}
