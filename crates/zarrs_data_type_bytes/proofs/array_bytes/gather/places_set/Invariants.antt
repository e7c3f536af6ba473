use Rattle.std.proofs.Common.{◌≡◌, ◌<◌, length}
use Rattle.std.specs.Prelude.{All}
use Rattle.zarrs_data_type_bytes.proofs.Places.{places_set}
use Rattle.zarrs_data_type_bytes.proofs.array_bytes.gather.places_set.Given as goal

abbrev pub invariant-loop-index : goal.invariant-loop-index
invariant-loop-index l = record {
  places : l.places.items ≡ places_set l.mask l.index;
  within : All (λ p. p < length l.mask) l.places.items;
}
