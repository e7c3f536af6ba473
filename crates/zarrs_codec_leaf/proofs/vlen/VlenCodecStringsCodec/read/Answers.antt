use Rattle.std.proofs.Common.{sym, ap, ◌∙◌}
use Rattle.std.specs.Prelude.{option_map}
use Rattle.std.proofs.lemmas.Result.{IfOk-weaker}
use Rattle.zarrs_codec_leaf.proofs.VlenData.{unindexed-as}
use Rattle.zarrs_codec_leaf.proofs.vlen.VlenCodecStringsCodec.read.Goals as goal

pub returns : goal.returns
returns c =
    let split = sym c.split_index.ensures ∙ ap (option_map (λ parts. (parts.0.now, parts.1.now))) c.in-Some.is in
    IfOk-weaker c.cut.result _ _
    (λ strings is. is ∙ unindexed-as c.args.count c.args.encoded.now c.in-Some.index.now c.in-Some.bytes.now c.in_ok-offsets_in.field-0.items split c.in_ok-offsets_in.ensures)
    c.cut.ensures
