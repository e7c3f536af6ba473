use Rattle.std.proofs.Common.{◌≡◌, ◌*◌, ◌≤◌, length, map, get_or, []}
use Rattle.std.specs.Prelude.{vec_capacity, vec_len}
use Rattle.std.specs.List.{flat_map}
use Rattle.zarrs_data_type_bytes.proofs.Places.{places_set}
use Rattle.zarrs_data_type_bytes.proofs.array_bytes.gather.gather_sized.Given as goal

abbrev pub invariant-loop-index : goal.invariant-loop-index
invariant-loop-index g l = record {
  cells : l.made.items ≡ flat_map (λ x. x) (map (λ p. get_or l.cells p []) (places_set l.mask l.index));
  len : vec_len l.made ≤ l.index * g.row.N;
  room : vec_capacity l.made ≡ length l.mask * g.row.N;
}
