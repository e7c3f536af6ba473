use Rattle.std.proofs.Common.{◌≡◌, true, ◌++◌, length, take}
use Rattle.std.specs.List.{flat_map, list_all}
use Rattle.std.specs.Int.{w32, to_le_bytes}
use Rattle.zarrs_codec_leaf.specs.VlenStrings.{behind_length, is_short}
use Rattle.zarrs_codec_leaf.proofs.vlen_strings.counted_strings.Given as goal

abbrev pub invariant-loop-index : goal.invariant-loop-index
invariant-loop-index l = record {
  items : l.encoded.items ≡ to_le_bytes w32 (length l.strings) ++ flat_map behind_length (take l.index l.strings);
  short : list_all is_short (take l.index l.strings) ≡ true;
}
