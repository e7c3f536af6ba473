use Rattle.std.proofs.Common.{◌≡◌, ◌+◌, ◌≤◌, length}
use Rattle.std.specs.Prelude.{count_by}
use Rattle.zarrs_data_type.specs.Present.{flag_set}
use Rattle.zarrs_codec_optional.proofs.optional.count_set.Given as goal

abbrev pub invariant-loop-left : goal.invariant-loop-left
invariant-loop-left l = record {
  counted : l.set + count_by flag_set l.left ≡ count_by flag_set l.fn.flags;
  few : l.set + length l.left ≤ length l.fn.flags;
}

abbrev pub decreases-loop-left : goal.decreases-loop-left
decreases-loop-left l = length l.left
