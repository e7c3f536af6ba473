use Rattle.std.proofs.Common.{◌≡◌, false, sym, subst, ap, refl, ◌∙◌}
use Rattle.std.proofs.lemmas.Bool.{false≢true}
use Rattle.zarrs_data_type.specs.Cells.{cells, HasCells}
use Rattle.zarrs_data_type.specs.Kind.{kind}
use Rattle.zarrs_codec_leaf.specs.Bytes.{endian_of, reverses}
use Rattle.zarrs_codec_leaf.specs.BytesLaws.{untaken_bytes}
use Rattle.zarrs_codec_leaf.proofs.Encodings.{decoded-cells, decoded-none}
use Rattle.zarrs_codec_leaf.proofs.bytes_codec.BytesCodec.decode_owned.Goals as goal

pub returns-clause-cells : goal.returns-clause-cells
returns-clause-cells c =
    let k = kind c.args.data_type.now in
    let e = endian_of c.args.self.now in
    let taken = sym c.takes.ensures ∙ c.if-not-takes.false in
    let not : reverses e k ≡ false = sym c.reverses.ensures ∙ c.if-reverses.false in
    ap (cells k) c.new_flen-data.ensures
    ∙ (decoded-cells e c.args.data_type.now c.args.encoded.items c.args.encoded.items taken (λ _. refl) (λ rev. absurd (false≢true (sym not ∙ rev))) c.args.count
    (subst (λ d. HasCells k d c.args.count) c.new_flen-data.ensures (c.validate.ensures.0 c.if-not-validate.false))).0

pub returns-then-not-takes-clause-refused : goal.returns-then-not-takes-clause-refused
returns-then-not-takes-clause-refused c =
    untaken_bytes (endian_of c.args.self.now) (kind c.args.data_type.now) c.args.count c.args.encoded.items (sym c.takes.ensures ∙ c.if-not-takes.true)

pub returns-then-not-validate-clause-refused : goal.returns-then-not-validate-clause-refused
returns-then-not-validate-clause-refused c =
    let k = kind c.args.data_type.now in
    decoded-none (endian_of c.args.self.now) c.args.data_type.now c.args.count c.args.encoded.items (sym c.takes.ensures ∙ c.if-not-takes.false)
    (λ has. false≢true (sym c.if-not-validate.true ∙ c.validate.ensures.1 (subst (λ d. HasCells k d c.args.count) (sym c.new_flen-data.ensures) has)))
