use Rattle.std.proofs.Common.{refl, ◌∙◌}
use Rattle.std.proofs.lemmas.Bool.{false≢true}
use Rattle.zarrs_codec_leaf.proofs.VlenData.{cut-none, cut-result}
use Rattle.zarrs_codec_leaf.proofs.vlen.cut.Goals as goal

pub returns-in_default : goal.returns-in_default
returns-in_default c = cut-none c.args.offsets.items c.args.bytes.now c.requires (λ cuts. false≢true (c.in_default.ensures.accepted.1 cuts.are_offsets))

pub returns : goal.returns
returns c =
    c.ok.ensures.value
    ∙ cut-result c.args.offsets.items c.args.bytes.now c.requires c.in-Ok.offsets c.in_ok-from_slice.field-0.items c.new-2.result c.in-Ok.ensures.made c.in_ok-from_slice.ensures.items
    (c.in-Ok.ensures.accepted.0 refl) c.new-2.ensures.made c.new-2.ensures.accepted
