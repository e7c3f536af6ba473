use Rattle.std.proofs.Common.{◌≡◌, take}
use Rattle.zarrs_data_type_kinds.proofs.fill_metadata.list_value.Given as goal

abbrev pub invariant-loop-byte : goal.invariant-loop-byte
invariant-loop-byte l = l.numbers.items ≡ take l.byte-index l.bytes
