use Rattle.std.specs.Prelude.{All}
use Rattle.std.proofs.Common.{◌≡◌, ◌<◌, Some, IsSome, map, option_map, sym, ap, subst, ◌∙◌}
use Rattle.zarrs_data_type.specs.ArrayData.{data_of, mask_of, inner_data}
use Rattle.zarrs_data_type.specs.Cells.{cells}
use Rattle.zarrs_data_type.specs.Kind.{kind, inner_of}
use Rattle.zarrs_data_type.specs.Kind as type
use Rattle.zarrs_codec_leaf.specs.Leaf.{encoding_of}
use Rattle.zarrs_codec_leaf.specs.PackBits.{flag_cell}
use Rattle.zarrs_codec_optional.specs.CellsCodecs.{cells_meaning, mask_meaning, mask_codec_of, data_codec_of, optional_meaning_of}
use Rattle.zarrs_codec_optional.specs.Optional.{if_any, behind_lengths}
use Rattle.zarrs_codec_optional.proofs.OptionalData.{encoding-optional}
use Rattle.zarrs_codec_optional.proofs.+encode.Goals as goal

pub optional::OptionalCodec::encode-returns-clause-encoded :
    goal.optional::OptionalCodec::encode-returns-clause-encoded
optional::OptionalCodec::encode-returns-clause-encoded t c =
    let codec = c.args.self.now in
    let m = mask_meaning (mask_codec_of codec) in
    let d = cells_meaning (data_codec_of codec) in
    let k = kind c.args.data_type.now in
    let u = kind c.in-Some.inner.now in
    let held = c.in-Optional.held in
    let present = data_of c.in_ok-present.present in
    let is : inner_of k ≡ Some u = sym c.optional_inner.ensures ∙ ap (option_map (λ i. kind i.now)) c.in-Some.is in
    let there = subst (λ x. IsSome (cells k (data_of x))) c.in-Optional.is c.requires in
    let flags = ap (λ l. m.encoded type.bool (map flag_cell l)) (sym c.mask.ensures.mask) ∙ c.in_ok-mask.ensures.encoded in
    let body = ap (λ x. encoding_of (if_any (cells_meaning x)) u present) (sym c.deref.ensures) ∙ c.in_ok-body.ensures.encoded in
    let made = ap (λ x. behind_lengths x c.in_ok-body.body.items) (sym c.as_slice.ensures.value) ∙ ap (behind_lengths c.as_slice.result.now) (sym c.as_slice-2.ensures.value) ∙ c.in_ok-behind_lengths.ensures in
    ap (λ x. encoding_of (optional_meaning_of codec) k (data_of x)) c.in-Optional.is
    ∙ encoding-optional m d k u is (mask_of held) (inner_data held) present there c.in_ok-present.ensures c.in_ok-mask.mask.items c.in_ok-body.body.items c.in_ok-behind_lengths.field-0.items
    (subst (λ l. All (λ x. x < 2) l) c.mask.ensures.mask c.mask.ensures.flags) flags body made
