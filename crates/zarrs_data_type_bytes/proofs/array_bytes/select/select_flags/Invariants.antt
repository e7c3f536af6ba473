use Rattle.std.proofs.Common.{◌≡◌, ◌<◌, map, take}
use Rattle.std.specs.Prelude.{slice_index, All}
use Rattle.zarrs_data_type_bytes.proofs.array_bytes.select.select_flags.Given as goal

abbrev pub invariant-loop-place : goal.invariant-loop-place
invariant-loop-place l = record {
  items : l.selected.items ≡ map (λ p. slice_index l.flags p) (take l.place-index l.places);
  flags : All (λ flag. flag < 2) l.selected.items;
}
