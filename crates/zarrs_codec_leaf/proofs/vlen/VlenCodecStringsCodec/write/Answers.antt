use Rattle.std.proofs.Common.{◌++◌, ◌<◌, ◌^◌, length, ap, ◌∙◌, arith}
use Rattle.std.specs.List.{flat_map}
use Rattle.std.specs.Int.{w64, to_le_bytes}
use Rattle.zarrs_codec_leaf.proofs.VlenData.{indexed-as}
use Rattle.zarrs_codec_leaf.proofs.vlen.VlenCodecStringsCodec.write.Goals as goal

pub returns : goal.returns
returns c =
    let offsets = c.as_slice-offsets.result.now in
    let bytes = c.bytes-bytes.result.now in
    let short : length bytes < 2 ^ 64 = omega arith in
    indexed-as c.args.strings.now offsets bytes c.extend_from_slice-2.new.self.items c.in-Some.index_len (c.as_slice-offsets.ensures.offsets ∙ c.offsets.ensures) c.bytes-bytes.ensures c.in-Some.ensures.1
    (let is = c.in-Some.ensures in omega arith) short
    (c.in_ok-extend_from_slice-2.ensures.items
    ∙ ap (λ l. l ++ bytes)
    (c.in_ok-push_index.ensures
    ∙ ap (λ l. l ++ flat_map (to_le_bytes w64) offsets)
    (c.in_ok-extend_from_slice.ensures.items ∙ ap (λ l. l ++ c.to_le_bytes.result) c.in_ok-encoded.ensures.items ∙ c.to_le_bytes.ensures)))
