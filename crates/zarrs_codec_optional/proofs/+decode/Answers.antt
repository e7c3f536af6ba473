use Rattle.std.proofs.Common.{◌≡◌, Some, option_map, sym, ap, subst, ◌∙◌}
use Rattle.zarrs_data_type.specs.ArrayData.{data_of}
use Rattle.zarrs_data_type.specs.Cells.{cells}
use Rattle.zarrs_data_type.specs.Kind.{kind, inner_of}
use Rattle.zarrs_codec_leaf.specs.Refusals.{RefusesDecoding}
use Rattle.zarrs_codec_optional.specs.CellsCodecLaws.{cells-lawful}
use Rattle.zarrs_codec_optional.specs.CellsCodecs.{cells_codec_data, cells_meaning, mask_meaning, mask_codec_of, data_codec_of, optional_meaning_of}
use Rattle.zarrs_codec_optional.specs.Optional.{if_any, mask_and_data}
use Rattle.zarrs_codec_optional.proofs.Kept.{err_kept}
use Rattle.zarrs_codec_optional.proofs.OptionalData.{body-refused, present-has, decoded-optional}
use Rattle.zarrs_codec_optional.proofs.+decode.Goals as goal

pub optional::OptionalCodec::decode-returns-in_err-present-clause-refused :
    goal.optional::OptionalCodec::decode-returns-in_err-present-clause-refused
optional::OptionalCodec::decode-returns-in_err-present-clause-refused t c =
    let codec = c.args.self.now in
    let k = kind c.args.data_type.now in
    let u = kind c.in-Some.inner.now in
    let n = c.args.count in
    let b = c.args.encoded.now in
    let flags = c.in_ok-flags.field-0.flags.items in
    let set = c.in_ok-flags.field-0.set in
    let is : inner_of k ≡ Some u = sym c.optional_inner.ensures ∙ ap (option_map (λ i. kind i.now)) c.in-Some.is in
    let parts : mask_and_data b ≡ Some (c.in-Some-mask_and_data.mask.now, c.in-Some-mask_and_data.body.now) =
    sym c.mask_and_data.ensures ∙ ap (option_map (λ p. (p.0.now, p.1.now))) c.in-Some-mask_and_data.is in
    let e = c.in_err-present.field-0.0 in
    err_kept c.from_residual-in_err-present.result e (RefusesDecoding (optional_meaning_of codec) k n b) c.from_residual-in_err-present.ensures.1
    (body-refused (mask_meaning (mask_codec_of codec)) (cells_meaning (data_codec_of codec)) k u is n b c.in-Some-mask_and_data.mask.now c.in-Some-mask_and_data.body.now parts flags set
    c.in_ok-flags.ensures.read c.in_ok-flags.ensures.set e
    (subst (λ x. RefusesDecoding (if_any (cells_meaning x)) u set c.in-Some-mask_and_data.body.now e) c.deref.ensures c.in_err-present.ensures.refused))

pub optional::OptionalCodec::decode-from_present-requires-clause-present :
    goal.optional::OptionalCodec::decode-from_present-requires-clause-present
optional::OptionalCodec::decode-from_present-requires-clause-present t c =
    let codec = c.args.self.now in
    let k = kind c.args.data_type.now in
    let u = kind c.in-Some.inner.now in
    let n = c.args.count in
    let b = c.args.encoded.now in
    let flags = c.in_ok-flags.field-0.flags.items in
    let set = c.in_ok-flags.field-0.set in
    let d = cells_meaning (data_codec_of codec) in
    let is : inner_of k ≡ Some u = sym c.optional_inner.ensures ∙ ap (option_map (λ i. kind i.now)) c.in-Some.is in
    let parts : mask_and_data b ≡ Some (c.in-Some-mask_and_data.mask.now, c.in-Some-mask_and_data.body.now) =
    sym c.mask_and_data.ensures ∙ ap (option_map (λ p. (p.0.now, p.1.now))) c.in-Some-mask_and_data.is in
    let read = subst (λ x. cells u (data_of c.in_ok-present.present) ≡ (if_any (cells_meaning x)).decoded u set c.in-Some-mask_and_data.body.now) c.deref.ensures c.in_ok-present.ensures.cells in
    present-has (mask_meaning (mask_codec_of codec)) d k u is n b c.in-Some-mask_and_data.mask.now c.in-Some-mask_and_data.body.now parts flags set
    c.in_ok-flags.ensures.read c.in_ok-flags.ensures.set (data_of c.in_ok-present.present) read c.in_ok-present.ensures.some (cells-lawful (cells_codec_data (data_codec_of codec)))

pub optional::OptionalCodec::decode-returns-clause-cells :
    goal.optional::OptionalCodec::decode-returns-clause-cells
optional::OptionalCodec::decode-returns-clause-cells t c =
    let codec = c.args.self.now in
    let k = kind c.args.data_type.now in
    let u = kind c.in-Some.inner.now in
    let n = c.args.count in
    let b = c.args.encoded.now in
    let flags = c.in_ok-flags.field-0.flags.items in
    let set = c.in_ok-flags.field-0.set in
    let d = cells_meaning (data_codec_of codec) in
    let is : inner_of k ≡ Some u = sym c.optional_inner.ensures ∙ ap (option_map (λ i. kind i.now)) c.in-Some.is in
    let parts : mask_and_data b ≡ Some (c.in-Some-mask_and_data.mask.now, c.in-Some-mask_and_data.body.now) =
    sym c.mask_and_data.ensures ∙ ap (option_map (λ p. (p.0.now, p.1.now))) c.in-Some-mask_and_data.is in
    let read = subst (λ x. cells u (data_of c.in_ok-present.present) ≡ (if_any (cells_meaning x)).decoded u set c.in-Some-mask_and_data.body.now) c.deref.ensures c.in_ok-present.ensures.cells in
    (decoded-optional (mask_meaning (mask_codec_of codec)) d k u is n b c.in-Some-mask_and_data.mask.now c.in-Some-mask_and_data.body.now parts flags set
    c.in_ok-flags.ensures.read c.in_ok-flags.ensures.set (data_of c.in_ok-present.present) read c.in_ok-present.ensures.some
    (data_of c.in_ok-made.made) c.in_ok-made.ensures).0
