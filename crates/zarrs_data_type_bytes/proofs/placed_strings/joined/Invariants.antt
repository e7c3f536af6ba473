use Rattle.std.proofs.Common.{◌≡◌, ◌≤◌, ◌++◌, length, take}
use Rattle.std.specs.Prelude.{slice_range}
use Rattle.zarrs_data_type_bytes.specs.Offsets.{joined}
use Rattle.zarrs_data_type_bytes.specs.Places.{placed_strings}
use Rattle.zarrs_data_type_bytes.proofs.placed_strings.joined.Given as goal

abbrev pub invariant-loop-index : goal.invariant-loop-index
invariant-loop-index l = record {
  ordered : l.from ≤ l.to;
  within : l.to ≤ length l.bytes;
  joined : l.made.items ++ slice_range l.bytes l.from l.to ≡ joined (take l.index (placed_strings l.bytes l.starts l.lens));
}
