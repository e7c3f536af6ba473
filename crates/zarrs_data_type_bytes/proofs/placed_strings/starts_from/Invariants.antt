use Rattle.std.proofs.Common.{◌≡◌, ◌+◌, length, map, take}
use Rattle.std.specs.Prelude.{sum_by}
use Rattle.std.specs.List.{range_with_len}
use Rattle.zarrs_data_type_bytes.proofs.placed_strings.starts_from.Given as goal

abbrev pub invariant-loop-index : goal.invariant-loop-index
invariant-loop-index l = l.starts ≡ map (λ k. l.from + sum_by length (take k l.strings)) (range_with_len 0 l.index)
