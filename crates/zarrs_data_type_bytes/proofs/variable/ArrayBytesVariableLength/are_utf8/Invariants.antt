use Rattle.std.proofs.Common.{◌≡◌, true, take}
use Rattle.std.specs.List.{list_all}
use Rattle.std.specs.Str.{is_utf8}
use Rattle.zarrs_data_type_bytes.proofs.variable.ArrayBytesVariableLength.are_utf8.Given as goal

abbrev pub invariant-loop-index : goal.invariant-loop-index
invariant-loop-index l = list_all is_utf8 (take l.index l.self) ≡ true
