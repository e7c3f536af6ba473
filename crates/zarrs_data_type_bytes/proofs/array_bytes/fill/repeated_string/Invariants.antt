use Rattle.std.proofs.Common.{◌≡◌, replicate}
use Rattle.zarrs_data_type_bytes.proofs.array_bytes.fill.repeated_string.Given as goal

abbrev pub invariant-loop-done : goal.invariant-loop-done
invariant-loop-done l = l.builder ≡ replicate l._done l.string
