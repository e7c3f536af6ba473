use Rattle.std.proofs.Common.{◌≡◌, ◌∙◌, false, Some, IsSome, ap, refl, rules, subst, sym}
use Rattle.std.specs.Cow.{cow_slice_items}
use Rattle.std.proofs.lemmas.Bool.{false≢true}
use Rattle.zarrs_data_type.specs.ArrayData.{data_of, fixed}
use Rattle.zarrs_data_type.specs.Cells.{cells}
use Rattle.zarrs_data_type.specs.Kind.{kind}
use Rattle.zarrs_codec_leaf.specs.Bytes.{bytes_meaning_of, endian_of, reverses}
use Rattle.zarrs_codec_leaf.specs.Leaf.{encoding_of}
use Rattle.zarrs_codec_leaf.proofs.Encodings.{encoding_of-bytes}
use Rattle.zarrs_codec_leaf.proofs.bytes_codec.BytesCodec.encode_owned.Goals as goal

pub returns-clause-encoded : goal.returns-clause-encoded
returns-clause-encoded c =
    let k = kind c.args.data_type.now in
    let e = endian_of c.args.self.now in
    let held = cow_slice_items c.in-Ok.bytes in
    let same : data_of c.args.bytes ≡ fixed held = c.in-Ok.ensures.bytes in
    let kept : c.in_ok-owned_bytes.field-0.items ≡ held = search rules in
    let straight : reverses e k ≡ false = sym c.reverses.ensures ∙ c.if-reverses.false in
    ap (encoding_of (bytes_meaning_of e) k) same
    ∙ encoding_of-bytes e c.args.data_type.now held held (sym c.takes.ensures ∙ c.if-not-takes.false) (λ r. refl) (λ r. absurd (false≢true (sym straight ∙ r)))
    (subst (λ d. IsSome (cells k d)) same c.requires)
    ∙ ap Some (sym kept)
