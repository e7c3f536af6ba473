use Rattle.std.proofs.Common.{◌≡◌, ◌*◌, length, map, take, get_or, []}
use Rattle.std.specs.Prelude.{count_by, vec_capacity, vec_len}
use Rattle.std.specs.List.{flat_map}
use Rattle.zarrs_data_type_bytes.specs.Present.{ranks_set, flag_set}
use Rattle.zarrs_data_type_bytes.proofs.array_bytes.spread.spread_sized.Given as goal

abbrev pub invariant-loop-index : goal.invariant-loop-index
invariant-loop-index g l = record {
  cells : l.spread.items ≡ flat_map (λ x. x) (map (λ r. get_or l.cells r []) (ranks_set l.mask l.index));
  count : l.count ≡ count_by flag_set (take l.index l.mask);
  len : vec_len l.spread ≡ l.index * g.row.N;
  room : vec_capacity l.spread ≡ length l.mask * g.row.N;
}
