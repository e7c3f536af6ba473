use Rattle.std.proofs.Common.{◌∙◌, arith}
use Rattle.zarrs_codec_leaf.proofs.PackedWords.{spread-bits}
use Rattle.zarrs_codec_leaf.proofs.packbits.BitsWritingU88.write.Goals as goal

pub returns : goal.returns
returns c = c.to_le_bytes.ensures ∙ spread-bits c.args.byte.now (omega arith)
