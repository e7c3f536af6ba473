use Rattle.std.proofs.Common.{◌≡◌, ◌==◌, take}
use Rattle.std.specs.List.{list_all}
use Rattle.zarrs_data_type_bytes.proofs.array_bytes.fill.are_all.Given as goal

abbrev pub invariant-loop-each : goal.invariant-loop-each
invariant-loop-each l = l.same ≡ list_all (λ b. b == l.byte) (take l.each-index l.bytes)
