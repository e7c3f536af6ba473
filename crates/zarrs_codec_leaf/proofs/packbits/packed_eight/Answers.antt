use Rattle.std.proofs.Common.{rules, ◌∙◌, ap, ◌*◌, ◌%◌, ◌/◌}
use Rattle.zarrs_codec_leaf.proofs.PackedWords.{gathered}
use Rattle.zarrs_codec_leaf.proofs.packbits.packed_eight.Goals as goal

pub returns : goal.returns
returns c =
    ap (λ w. w * 72624976668147840 % 18446744073709551616 / 72057594037927936) c.from_le_bytes.ensures
    ∙ gathered c.args.flags.now (search rules) c.requires
