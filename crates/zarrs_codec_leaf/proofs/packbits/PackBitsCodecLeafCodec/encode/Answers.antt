use Rattle.std.proofs.Common.{◌≡◌, ap, sym, subst, ◌∙◌}
use Rattle.std.specs.Prelude.{IsSome}
use Rattle.zarrs_data_type.specs.ArrayData.{data_of, fixed}
use Rattle.zarrs_data_type.specs.Cells.{cells}
use Rattle.zarrs_data_type.specs.Kind.{kind}
use Rattle.zarrs_codec_leaf.proofs.Encodings.{variable-unsized, optional-unsized}
use Rattle.zarrs_codec_leaf.proofs.PackedData.{bools_small, data_bools, encoding_of-packed, unsized_bool}
use Rattle.zarrs_codec_leaf.proofs.packbits.PackBitsCodecLeafCodec.encode.Goals as goal

pub packed-requires : goal.packed-requires
packed-requires c =
    let k = kind c.args.data_type.now in
    let b = c.as_slice.result.now in
    let same : data_of c.args.bytes.now ≡ fixed b = ap data_of c.in-Fixed.is ∙ ap fixed (sym c.as_slice.ensures.value) in
    bools_small b (data_bools k (data_of c.args.bytes.now) b (sym c.takes.ensures ∙ c.if-not-takes.false) same c.requires)

pub returns-in_ok-packed-in-Fixed-clause-encoded : goal.returns-in_ok-packed-in-Fixed-clause-encoded
returns-in_ok-packed-in-Fixed-clause-encoded c =
    let k = kind c.args.data_type.now in
    let b = c.as_slice.result.now in
    let same : data_of c.args.bytes.now ≡ fixed b = ap data_of c.in-Fixed.is ∙ ap fixed (sym c.as_slice.ensures.value) in
    encoding_of-packed k (data_of c.args.bytes.now) b c.in_ok-packed-in-Fixed.field-0.items (sym c.takes.ensures ∙ c.if-not-takes.false) same c.requires c.in_ok-packed-in-Fixed.ensures

pub returns-in-Variable-clause-refused : goal.returns-in-Variable-clause-refused
returns-in-Variable-clause-refused c =
    let k = kind c.args.data_type.now in
    unsized_bool k (variable-unsized k c.in-Variable.field-0 (subst (λ x. IsSome (cells k (data_of x))) c.in-Variable.is c.requires))

pub returns-in-Optional-clause-refused : goal.returns-in-Optional-clause-refused
returns-in-Optional-clause-refused c =
    let k = kind c.args.data_type.now in
    unsized_bool k (optional-unsized k c.in-Optional.field-0.mask (data_of c.in-Optional.field-0.data.value) (subst (λ x. IsSome (cells k (data_of x))) c.in-Optional.is c.requires))
