use Rattle.std.proofs.Common.{◌≡◌, length, map, reverse, take}
use Rattle.zarrs_codec_chain.proofs.bytes_into.turned_group.Given as goal

abbrev pub invariant-loop-index : goal.invariant-loop-index
invariant-loop-index g l = (length l.turned ≡ 16) × (take l.index l.turned ≡ map reverse (take l.index l.cells))
