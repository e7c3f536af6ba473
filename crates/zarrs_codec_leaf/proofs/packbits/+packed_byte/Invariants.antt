use Rattle.std.proofs.Common.{length}
use Rattle.zarrs_codec_leaf.proofs.packbits.+packed_byte.Given as goal

abbrev pub decreases-packed_byte : goal.decreases-packed_byte
decreases-packed_byte l = length l.flags.now
