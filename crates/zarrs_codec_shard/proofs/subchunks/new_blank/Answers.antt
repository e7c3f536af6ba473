use Rattle.std.proofs.Common.{rules, IsSome, sym, subst}
use Rattle.zarrs_data_type.specs.Cell.{fill_cell}
use Rattle.zarrs_data_type.specs.Kind.{kind}
use Rattle.zarrs_codec_shard.proofs.Blanks.{blank_is}
use Rattle.zarrs_codec_shard.proofs.subchunks.new_blank.Goals as goal

pub fill_count-requires : goal.fill_count-requires
fill_count-requires c =
    let k = kind c.args.data_type.now in
    subst (λ f. IsSome (fill_cell k f)) (sym c.in_ok-blank.ensures) (blank_is k).value

pub new_fill_value-requires : goal.new_fill_value-requires
new_fill_value-requires c =
    let k = kind c.args.data_type.now in
    record { filled = subst (λ f. IsSome (fill_cell k f)) (sym c.in_ok-blank.ensures) (blank_is k).value; size = search rules }
