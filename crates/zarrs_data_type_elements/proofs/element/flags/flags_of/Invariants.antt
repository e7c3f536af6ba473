use Rattle.std.proofs.Common.{◌≡◌, take, map, length}
use Rattle.std.specs.Prelude.{vec_capacity}
use Rattle.std.specs.Int.{from_bool}
use Rattle.zarrs_data_type_elements.proofs.element.flags.flags_of.Given as goal

abbrev pub invariant-loop-byte : goal.invariant-loop-byte
invariant-loop-byte l = record {
  items : map from_bool l.flags.items ≡ take l.byte-index l.bytes;
  room : vec_capacity l.flags ≡ length l.bytes;
}
