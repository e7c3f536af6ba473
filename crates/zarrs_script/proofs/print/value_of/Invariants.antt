use Rattle.std.proofs.Common.{◌≡◌, ◌<◌, ◌-◌, ◌^◌, length, drop}
use Rattle.zarrs_script.specs.CellTexts.{value_of}
use Rattle.zarrs_script.proofs.print.value_of.Given as goal

abbrev pub invariant-loop-count : goal.invariant-loop-count
invariant-loop-count l = record {
  value : l.value ≡ value_of (drop (length l.bytes - l.count) l.bytes);
  small : l.value < 256 ^ l.count;
}
