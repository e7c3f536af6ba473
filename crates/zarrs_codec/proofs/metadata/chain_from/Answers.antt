use Rattle.std.proofs.Common.{map}
use Rattle.zarrs_metadata_parts.specs.Extension.{extension_view}
use Rattle.zarrs_metadata_parts.specs.Refusals.{RefusesMeaning}
use Rattle.zarrs_codec.specs.Metadata.{array_codecs_said, bytes_codec_said, chain_of_parts}
use Rattle.zarrs_codec.proofs.ChainMetadata.{no_front, no_last, refuses_through}
use Rattle.zarrs_codec_optional.proofs.Kept.{err_kept}
use Rattle.zarrs_codec.proofs.metadata.chain_from.Goals as goal

pub returns-in_err-array_to_array-clause-refused : goal.returns-in_err-array_to_array-clause-refused
returns-in_err-array_to_array-clause-refused c =
    let front = array_codecs_said (map extension_view c.args.front.now) in
    let last = bytes_codec_said (extension_view c.args.last.now) in
    let e = c.in_err-array_to_array.field-0.0 in
    err_kept c.from_residual.result e (RefusesMeaning (chain_of_parts front last)) c.from_residual.ensures.1
    (refuses_through front (chain_of_parts front last) e (no_front last front) c.in_err-array_to_array.ensures.refused)

pub returns-in_err-array_to_bytes-clause-refused : goal.returns-in_err-array_to_bytes-clause-refused
returns-in_err-array_to_bytes-clause-refused c =
    let front = array_codecs_said (map extension_view c.args.front.now) in
    let last = bytes_codec_said (extension_view c.args.last.now) in
    let e = c.in_err-array_to_bytes.field-0.0 in
    err_kept c.from_residual-in_err-array_to_bytes.result e (RefusesMeaning (chain_of_parts front last)) c.from_residual-in_err-array_to_bytes.ensures.1
    (refuses_through last (chain_of_parts front last) e (no_last last front) c.in_err-array_to_bytes.ensures.refused)
