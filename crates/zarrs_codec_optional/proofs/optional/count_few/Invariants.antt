use Rattle.std.proofs.Common.{◌≡◌, ◌≤◌, take}
use Rattle.std.specs.Prelude.{count_by}
use Rattle.zarrs_data_type.specs.Present.{flag_set}
use Rattle.zarrs_codec_optional.proofs.optional.count_few.Given as goal

abbrev pub invariant-loop-flag : goal.invariant-loop-flag
invariant-loop-flag l = record {
  counted : l.set ≡ count_by flag_set (take l.flag-index l.flags);
  few : l.set ≤ l.flag-index;
}
