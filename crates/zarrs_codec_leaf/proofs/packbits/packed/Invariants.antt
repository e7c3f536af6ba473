use Rattle.std.proofs.Common.{◌≡◌, ◌≤◌, length, map, take}
use Rattle.std.specs.Prelude.{vec_capacity}
use Rattle.zarrs_codec_leaf.specs.PackBits.{packed_byte}
use Rattle.zarrs_codec_leaf.proofs.packbits.packed.Given as goal

abbrev pub invariant-loop-eight : goal.invariant-loop-eight
invariant-loop-eight l = record {
  items : l.bytes.items ≡ map packed_byte (take l.eight-index l.whole);
  room : length l.whole ≤ vec_capacity l.bytes;
}
