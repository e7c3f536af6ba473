use Rattle.std.proofs.Common.{rules}
use Rattle.std.proofs.lemmas.List.Sorted.{non_decreasing_from_is_sorted}
use Rattle.zarrs_data_type_bytes.proofs.ByteStrings.{offsets_test}
use Rattle.zarrs_data_type_bytes.proofs.offsets.are_offsets.Goals as goal

pub returns-then-numbers-eq0 : goal.returns-then-numbers-eq0
returns-then-numbers-eq0 c =
    offsets_test c.args.numbers.now c.is_sorted.result (search rules) (search rules)
    (non_decreasing_from_is_sorted c.args.numbers.now c.is_sorted.result c.is_sorted.ensures.cases)
