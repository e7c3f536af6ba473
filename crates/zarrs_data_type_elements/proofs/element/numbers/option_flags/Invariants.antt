use Rattle.std.proofs.Common.{◌≡◌, length, map, take}
use Rattle.std.specs.Prelude.{vec_capacity}
use Rattle.zarrs_data_type_numbers.specs.Options.{option_flag}
use Rattle.zarrs_data_type_elements.proofs.element.numbers.option_flags.Given as goal

abbrev pub invariant-loop-option : goal.invariant-loop-option
invariant-loop-option g l = record {
  flags : l.flags.items ≡ map option_flag (take l.option-index l.options);
  room : vec_capacity l.flags ≡ length l.options;
}
