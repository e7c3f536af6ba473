use Rattle.std.proofs.Common.{◌≡◌, ◌++◌, take}
use Rattle.std.specs.List.{flat_map}
use Rattle.std.specs.Int.{w64, to_le_bytes}
use Rattle.zarrs_codec_leaf.proofs.vlen.push_index.Given as goal

abbrev pub invariant-loop-offset : goal.invariant-loop-offset
invariant-loop-offset l = l.encoded.items ≡ l.fn.encoded.items ++ flat_map (to_le_bytes w64) (take l.offset-index l.offsets)
