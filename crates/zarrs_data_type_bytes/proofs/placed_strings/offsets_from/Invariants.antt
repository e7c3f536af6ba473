use Rattle.std.proofs.Common.{◌≡◌, ◌+◌, map, take}
use Rattle.std.specs.Prelude.{sum}
use Rattle.std.specs.List.{range_with_len}
use Rattle.zarrs_data_type_bytes.proofs.placed_strings.offsets_from.Given as goal

abbrev pub invariant-loop-index : goal.invariant-loop-index
invariant-loop-index l = record {
  end : l.end ≡ sum (take l.index l.lens);
  offsets : l.offsets.items ≡ map (λ k. sum (take k l.lens)) (range_with_len 0 (l.index + 1));
}
