use Rattle.std.proofs.Common.{◌≡◌, ap, sym, subst, ◌∙◌, Some, rules}
use Rattle.std.specs.Cow.{cow_slice_items}
use Rattle.std.specs.Prelude.{IsSome, is_some, not, ◌&&◌, ◌||◌}
use Rattle.zarrs_data_type.specs.ArrayData.{data_of, fixed}
use Rattle.zarrs_data_type.specs.Cells.{cells}
use Rattle.zarrs_data_type.specs.Kind.{kind}
use Rattle.zarrs_codec_leaf.specs.Bytes.{bytes_meaning_of, endian_of, has_byte_order}
use Rattle.zarrs_codec_leaf.specs.Leaf.{encoding_of}
use Rattle.zarrs_codec_leaf.proofs.Encodings.{encoding_of-bytes, variable-unsized, optional-unsized}
use Rattle.zarrs_codec_leaf.proofs.bytes_codec.BytesCodecLeafCodec.encode.Goals as goal

pub returns-in-Variable-clause-refused : goal.returns-in-Variable-clause-refused
returns-in-Variable-clause-refused c =
    let k = kind c.args.data_type.now in
    ap (λ x. x && (is_some (endian_of c.args.self.now) || not (has_byte_order k)))
    (variable-unsized k c.in-Variable.field-0 (subst (λ x. IsSome (cells k (data_of x))) c.in-Variable.is c.requires))

pub returns-in-Optional-clause-refused : goal.returns-in-Optional-clause-refused
returns-in-Optional-clause-refused c =
    let k = kind c.args.data_type.now in
    ap (λ x. x && (is_some (endian_of c.args.self.now) || not (has_byte_order k)))
    (optional-unsized k c.in-Optional.field-0.mask (data_of c.in-Optional.field-0.data.value) (subst (λ x. IsSome (cells k (data_of x))) c.in-Optional.is c.requires))

pub returns-in_ok-owned_bytes-in-Fixed-clause-encoded : goal.returns-in_ok-owned_bytes-in-Fixed-clause-encoded
returns-in_ok-owned_bytes-in-Fixed-clause-encoded c =
    let k = kind c.args.data_type.now in
    let e = endian_of c.args.self.now in
    let ordered = c.in_ok-ordered-in-Fixed in
    let owned = c.in_ok-owned_bytes-in-Fixed.field-0.items in
    let same : data_of c.args.bytes.now ≡ fixed c.as_slice.result.now = ap data_of c.in-Fixed.is ∙ ap fixed (sym c.as_slice.ensures.value) in
    let kept : owned ≡ cow_slice_items ordered.ordered = search rules in
    ap (encoding_of (bytes_meaning_of e) k) same
    ∙ encoding_of-bytes e c.args.data_type.now c.as_slice.result.now (cow_slice_items ordered.ordered) (sym c.takes.ensures ∙ c.if-not-takes.false) ordered.ensures.kept ordered.ensures.reversed
    (subst (λ d. IsSome (cells k d)) same c.requires)
    ∙ ap Some (sym kept)
