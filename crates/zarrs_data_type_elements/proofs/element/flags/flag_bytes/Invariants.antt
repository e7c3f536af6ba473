use Rattle.std.proofs.Common.{◌≡◌, take, map, length}
use Rattle.std.specs.Prelude.{vec_capacity}
use Rattle.std.specs.Int.{from_bool}
use Rattle.zarrs_data_type_elements.proofs.element.flags.flag_bytes.Given as goal

abbrev pub invariant-loop-flag : goal.invariant-loop-flag
invariant-loop-flag l = record {
  items : l.bytes.items ≡ map from_bool (take l.flag-index l.flags);
  room : vec_capacity l.bytes ≡ length l.flags;
}
