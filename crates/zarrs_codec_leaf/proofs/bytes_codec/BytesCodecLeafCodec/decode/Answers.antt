use Rattle.std.proofs.Common.{sym, subst, ◌∙◌}
use Rattle.std.specs.Cow.{cow_slice_items}
use Rattle.std.proofs.lemmas.Bool.{false≢true}
use Rattle.zarrs_data_type.specs.Cells.{HasCells}
use Rattle.zarrs_data_type.specs.Kind.{kind}
use Rattle.zarrs_codec_leaf.specs.Bytes.{endian_of}
use Rattle.zarrs_codec_leaf.specs.BytesLaws.{untaken_bytes}
use Rattle.zarrs_codec_leaf.proofs.Encodings.{decoded-cells, decoded-none}
use Rattle.zarrs_codec_leaf.proofs.bytes_codec.BytesCodecLeafCodec.decode.Goals as goal

pub returns-clause-cells : goal.returns-clause-cells
returns-clause-cells c =
    let k = kind c.args.data_type.now in
    let taken = sym c.takes.ensures ∙ c.if-not-takes.false in
    (decoded-cells (endian_of c.args.self.now) c.args.data_type.now c.args.encoded.now (cow_slice_items c.in_ok-ordered.field-0) taken c.in_ok-ordered.ensures.kept c.in_ok-ordered.ensures.reversed c.args.count
    (subst (λ d. HasCells k d c.args.count) c.from_flen-data.ensures (c.validate.ensures.0 c.if-not-validate.false))).0

pub returns-clause-some : goal.returns-clause-some
returns-clause-some c =
    let k = kind c.args.data_type.now in
    let taken = sym c.takes.ensures ∙ c.if-not-takes.false in
    (decoded-cells (endian_of c.args.self.now) c.args.data_type.now c.args.encoded.now (cow_slice_items c.in_ok-ordered.field-0) taken c.in_ok-ordered.ensures.kept c.in_ok-ordered.ensures.reversed c.args.count
    (subst (λ d. HasCells k d c.args.count) c.from_flen-data.ensures (c.validate.ensures.0 c.if-not-validate.false))).1

pub returns-then-not-takes-clause-refused : goal.returns-then-not-takes-clause-refused
returns-then-not-takes-clause-refused c =
    untaken_bytes (endian_of c.args.self.now) (kind c.args.data_type.now) c.args.count c.args.encoded.now (sym c.takes.ensures ∙ c.if-not-takes.true)

pub returns-then-not-validate-clause-refused : goal.returns-then-not-validate-clause-refused
returns-then-not-validate-clause-refused c =
    let k = kind c.args.data_type.now in
    decoded-none (endian_of c.args.self.now) c.args.data_type.now c.args.count c.args.encoded.now (sym c.takes.ensures ∙ c.if-not-takes.false)
    (λ has. false≢true (sym c.if-not-validate.true ∙ c.validate.ensures.1 (subst (λ d. HasCells k d c.args.count) (sym c.from_flen-data.ensures) has)))
