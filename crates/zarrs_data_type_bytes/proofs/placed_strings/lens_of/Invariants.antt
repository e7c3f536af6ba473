use Rattle.std.proofs.Common.{◌≡◌, length, map, take}
use Rattle.zarrs_data_type_bytes.proofs.placed_strings.lens_of.Given as goal

abbrev pub invariant-loop-index : goal.invariant-loop-index
invariant-loop-index l = l.lens ≡ map length (take l.index l.strings)
