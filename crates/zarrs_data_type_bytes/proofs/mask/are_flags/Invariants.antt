use Rattle.std.proofs.Common.{◌≡◌, nat_lt, take}
use Rattle.std.specs.List.{list_all}
use Rattle.zarrs_data_type_bytes.proofs.mask.are_flags.Given as goal

abbrev pub invariant-loop-byte : goal.invariant-loop-byte
invariant-loop-byte l = l.fine ≡ list_all (λ byte. nat_lt byte 2) (take l.byte-index l.bytes)
