use Rattle.std.proofs.Common.{◌≡◌, ◌<◌, ◌^◌, drop}
use Rattle.zarrs_script.proofs.Numbers.{goes_on}
use Rattle.zarrs_script.proofs.parse.number_of.Given as goal

abbrev pub invariant-loop-byte : goal.invariant-loop-byte
invariant-loop-byte l = record {
  value : goes_on l.number (drop l.byte-index l.word) ≡ goes_on 0 l.word;
  fits : l.number < 2 ^ 64;
}
