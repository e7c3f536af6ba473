use Rattle.std.proofs.Common.{map}
use Rattle.zarrs_metadata_parts.specs.Extension.{extension_view}
use Rattle.zarrs_metadata_parts.specs.Refusals.{RefusesMeaning}
use Rattle.zarrs_codec_array.specs.Metadata.{array_codec_said}
use Rattle.zarrs_codec_array.specs.ArrayCodecs.{array_codec_data}
use Rattle.zarrs_codec.specs.Metadata.{array_codecs_said}
use Rattle.zarrs_codec.proofs.ChainMetadata.{codec_refused, refuses_through}
use Rattle.zarrs_codec_optional.proofs.Kept.{err_kept}
use Rattle.zarrs_codec.proofs.metadata.array_codecs_from.Goals as goal

pub returns-in_err-codec-clause-refused : goal.returns-in_err-codec-clause-refused
returns-in_err-codec-clause-refused c =
    let ms = c.args.metadatas.now in
    let m = c.metadata-item.result in
    let e = c.in_err-codec.field-0.0 in
    err_kept c.from_residual-in_err-codec.result e (RefusesMeaning (array_codecs_said (map extension_view ms))) c.from_residual-in_err-codec.ensures.1
    (refuses_through (array_codec_said (extension_view m)) (array_codecs_said (map extension_view ms)) e
    (codec_refused ms c.loop-metadata.metadata-index m (map array_codec_data c.loop-metadata.codecs.items) c.loop-metadata-test.true c.metadata-item.is c.loop-metadata.invariant)
    c.in_err-codec.ensures.refused)
