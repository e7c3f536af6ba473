use Rattle.std.proofs.Common.{◌≡◌, take, ap, sym, subst, ◌∙◌}
use Rattle.std.specs.Prelude.{IsSome}
use Rattle.zarrs_data_type.specs.ArrayData.{fixed}
use Rattle.zarrs_data_type.specs.Cells.{cells}
use Rattle.zarrs_data_type.specs.Kind.{kind}
use Rattle.zarrs_codec_leaf.specs.PackBits.{bits}
use Rattle.zarrs_codec_leaf.proofs.PackedData.{ceil_len, decoded-flags, decoded-unpadded}
use Rattle.zarrs_codec_leaf.proofs.packbits.PackBitsCodecLeafCodec.decode.Goals as goal

pub returns-then-not-are_zero-clause-refused : goal.returns-then-not-are_zero-clause-refused
returns-then-not-are_zero-clause-refused c =
    let b = c.args.encoded.now in
    let all = c.as_slice.result.now in
    let is : all ≡ bits b = c.as_slice.ensures.value ∙ c.in_ok-flags.ensures.items in
    decoded-unpadded (kind c.args.data_type.now) c.args.count b all c.split_at.result.1.now is c.split_at.ensures.back (sym c.are_zero.ensures ∙ c.if-not-are_zero.true)

pub returns-clause-cells : goal.returns-clause-cells
returns-clause-cells c =
    let k = kind c.args.data_type.now in
    let b = c.args.encoded.now in
    let all = c.as_slice.result.now in
    let is : all ≡ bits b = c.as_slice.ensures.value ∙ c.in_ok-flags.ensures.items in
    let len = c.if-encoded-div_ceil.false ∙ c.div_ceil.ensures ∙ ceil_len c.args.count in
    let kept = c.truncate.ensures.items ∙ ap (take c.args.count) (sym c.as_slice.ensures.value) ∙ sym c.split_at.ensures.front in
    ap (cells k) (ap fixed kept)
    ∙ (decoded-flags k c.args.count b all c.split_at.result.0.now c.split_at.result.1.now (sym c.takes.ensures ∙ c.if-not-takes.false) len is c.split_at.ensures.front c.split_at.ensures.back
    (sym c.are_zero.ensures ∙ c.if-not-are_zero.false)).0

pub returns-clause-some : goal.returns-clause-some
returns-clause-some c =
    let k = kind c.args.data_type.now in
    let b = c.args.encoded.now in
    let all = c.as_slice.result.now in
    let is : all ≡ bits b = c.as_slice.ensures.value ∙ c.in_ok-flags.ensures.items in
    let len = c.if-encoded-div_ceil.false ∙ c.div_ceil.ensures ∙ ceil_len c.args.count in
    let kept = c.truncate.ensures.items ∙ ap (take c.args.count) (sym c.as_slice.ensures.value) ∙ sym c.split_at.ensures.front in
    subst (λ d. IsSome (cells k d)) (sym (ap fixed kept))
    (decoded-flags k c.args.count b all c.split_at.result.0.now c.split_at.result.1.now (sym c.takes.ensures ∙ c.if-not-takes.false) len is c.split_at.ensures.front c.split_at.ensures.back
    (sym c.are_zero.ensures ∙ c.if-not-are_zero.false)).1
