use Rattle.std.proofs.Common.{◌≡◌, take}
use Rattle.std.specs.Prelude.{count_by}
use Rattle.zarrs_data_type_bytes.specs.Present.{ranks_set, flag_set}
use Rattle.zarrs_data_type_bytes.proofs.array_bytes.spread.ranks_set.Given as goal

abbrev pub invariant-loop-index : goal.invariant-loop-index
invariant-loop-index l = record {
  ranks : l.ranks.items ≡ ranks_set l.mask l.index;
  count : l.count ≡ count_by flag_set (take l.index l.mask);
}
