use Rattle.std.proofs.Common.{◌≡◌, true, take}
use Rattle.std.specs.Prelude.{nat_lt}
use Rattle.std.specs.List.{list_all}
use Rattle.zarrs_data_type_kinds.proofs.fill_metadata.as_bytes.Given as goal

abbrev pub invariant-loop-number : goal.invariant-loop-number
invariant-loop-number l = (l.bytes.items ≡ take l.number-index l.numbers) × (list_all (λ x. nat_lt x 256) (take l.number-index l.numbers) ≡ true)
