use Rattle.std.proofs.Common.{◌*◌, ◌<◌, ◌^◌, ap, sym, subst, ◌∙◌}
use Rattle.std.specs.Prelude.{count_by}
use Rattle.zarrs_data_type.specs.Kind.{kind, cell_size}
use Rattle.zarrs_data_type.specs.Present.{flag_set}
use Rattle.zarrs_codec_optional.specs.CellsCodecLaws.{mask-lawful}
use Rattle.zarrs_codec_optional.specs.CellsCodecs.{mask_codec_data, mask_meaning}
use Rattle.zarrs_codec_optional.proofs.OptionalData.{length-read, set-size}
use Rattle.zarrs_codec_optional.proofs.optional.MaskCodec.decode_mask.Goals as goal

pub returns-clause-size : goal.returns-clause-size
returns-clause-size c =
    let m = c.args.self.now in
    let flags = c.in_ok-flags.flags.items in
    let len = length-read (mask_meaning m) (mask-lawful (mask_codec_data m)) c.args.count c.args.encoded.now flags (sym c.in_ok-bools.ensures.cells ∙ c.in_ok-flags.ensures.cells) in
    subst (λ n. n * cell_size (kind c.args.inner.now) < 2 ^ 64) (sym len) c.requires

pub returns-clause-set_size : goal.returns-clause-set_size
returns-clause-set_size c =
    let m = c.args.self.now in
    let flags = c.in_ok-flags.flags.items in
    let len = length-read (mask_meaning m) (mask-lawful (mask_codec_data m)) c.args.count c.args.encoded.now flags (sym c.in_ok-bools.ensures.cells ∙ c.in_ok-flags.ensures.cells) in
    set-size c.args.count (cell_size (kind c.args.inner.now)) c.count_set-set.result flags len (c.count_set-set.ensures ∙ ap (count_by flag_set) c.as_slice.ensures.value) c.requires
