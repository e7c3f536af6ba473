use Rattle.std.proofs.Common.{◌≡◌, map, take, []}
use Rattle.std.specs.Prelude.{slice_index_or}
use Rattle.zarrs_data_type_bytes.proofs.array_bytes.select.select_strings.Given as goal

abbrev pub invariant-loop-place : goal.invariant-loop-place
invariant-loop-place l = l.builder ≡ map (λ p. slice_index_or l.strings p []) (take l.place-index l.places)
