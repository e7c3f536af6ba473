use Rattle.std.proofs.Common.{◌≡◌, take}
use Rattle.std.specs.Prelude.{nat_lt}
use Rattle.std.specs.List.{list_all}
use Rattle.zarrs_data_type_bytes.proofs.texts.are_ascii.Given as goal

abbrev pub invariant-loop-byte : goal.invariant-loop-byte
invariant-loop-byte l = l.ascii ≡ list_all (λ byte. nat_lt byte 128) (take l.byte-index l.bytes)
