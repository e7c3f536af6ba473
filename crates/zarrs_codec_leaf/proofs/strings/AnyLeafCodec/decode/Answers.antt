use Rattle.std.proofs.Common.{sym, ◌∙◌}
use Rattle.std.proofs.lemmas.Bool.{false≢true}
use Rattle.zarrs_data_type.specs.Kind.{kind}
use Rattle.zarrs_codec_leaf.proofs.StringData.{decoded-strings, refused-strings, unread-strings}
use Rattle.zarrs_codec_leaf.proofs.strings.AnyLeafCodec.decode.Goals as goal

pub returns-clause-cells : goal.returns-clause-cells
returns-clause-cells g c =
    let k = kind c.args.data_type.now in
    let taken = sym c.takes_type.ensures ∙ c.if-not-takes_type.false in
    decoded-strings g.C.StringsCodec.taken g.C.StringsCodec.written g.C.StringsCodec.read k taken (g.C.StringsCodec.variable k) c.args.count c.args.encoded.now c.in-Some.strings (sym c.in-Some.is ∙ c.in_ok-strings.ensures)

pub returns-then-not-validate-clause-refused : goal.returns-then-not-validate-clause-refused
returns-then-not-validate-clause-refused g c =
    let k = kind c.args.data_type.now in
    let taken = sym c.takes_type.ensures ∙ c.if-not-takes_type.false in
    refused-strings g.C.StringsCodec.taken g.C.StringsCodec.written g.C.StringsCodec.read k taken (g.C.StringsCodec.variable k) g.C.StringsCodec.lawful c.args.count c.args.encoded.now c.in-Some.strings (sym c.in-Some.is ∙ c.in_ok-strings.ensures)
    (λ has. false≢true (sym c.if-not-validate.true ∙ c.validate.ensures.1 has))

pub returns-in_default-clause-refused : goal.returns-in_default-clause-refused
returns-in_default-clause-refused g c =
    let k = kind c.args.data_type.now in
    let taken = sym c.takes_type.ensures ∙ c.if-not-takes_type.false in
    unread-strings g.C.StringsCodec.taken g.C.StringsCodec.written g.C.StringsCodec.read k taken (g.C.StringsCodec.variable k) c.args.count c.args.encoded.now (sym c.in_default.is ∙ c.in_ok-strings.ensures)
