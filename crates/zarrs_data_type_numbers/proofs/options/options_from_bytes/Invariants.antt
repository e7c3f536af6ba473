use Rattle.std.proofs.Common.{◌≡◌, ℕ, ◌<◌, length, map, take, get_or, [], None}
use Rattle.std.specs.Prelude.{vec_capacity, IfSome}
use Rattle.zarrs_data_type_numbers.specs.Options.{option_flag}
use Rattle.zarrs_data_type_numbers.proofs.options.options_from_bytes.Given as goal

abbrev pub invariant-loop-index : goal.invariant-loop-index
invariant-loop-index g l = record {
  flags : map option_flag l.options.items ≡ take l.index l.flags;
  numbers : (i : ℕ) → i < l.index → IfSome (get_or l.options.items i None) (λ number. g.T.LittleEndian.le_bytes number ≡ get_or l.cells i []);
  room : vec_capacity l.options ≡ length l.flags;
}
