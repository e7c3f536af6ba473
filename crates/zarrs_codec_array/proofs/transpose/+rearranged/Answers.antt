use Rattle.std.proofs.Common.{rules, arith, ◌≡◌, suc, ◌*◌, true, Some, length, ap, sym, subst, ◌∙◌}
use Rattle.std.proofs.lemmas.Result.{IfOk-weaker}
use Rattle.zarrs_subset.specs.Boxes.{position_count}
use Rattle.zarrs_data_type.specs.ArrayData.{data_of, fixed, variable, optional}
use Rattle.zarrs_data_type.specs.Cells.{fits}
use Rattle.zarrs_data_type.specs.Kind.{kind, element_size, inner_of}
use Rattle.zarrs_codec_array.specs.Gathered.{IsTaken, IsGathered}
use Rattle.zarrs_codec_array.specs.Orders.{permuted, strides, scaled}
use Rattle.zarrs_codec_array.specs.OrderLaws.{length-permuted}
use Rattle.zarrs_codec_array.proofs.Depth.{depth}
use Rattle.zarrs_codec_array.proofs.Taken.{taken-fixed, taken-variable, taken-optional, flags-gathered}
use Rattle.zarrs_data_type_bytes.proofs.Filled.{fits-fixed, fits-variable, fits-optional}
use Rattle.zarrs_codec_array.proofs.transpose.+rearranged.Goals as goal

pub rearranged-requires : goal.rearranged-requires
rearranged-requires t c =
    let k = kind c.args.data_type.now in
    let n = position_count c.args.source.now in
    let d = data_of c.in-Optional.optional.data.value in
    let at = fits-optional k c.in-Optional.optional.mask d n (subst (λ x. fits k (data_of x) n ≡ true) c.in-Optional.is c.requires.fits) in
    let inner : inner_of k ≡ Some (kind c.in-Some.inner.now) = search rules in
    let same : at.0 ≡ kind c.in-Some.inner.now = (let e : Some at.0 ≡ Some (kind c.in-Some.inner.now) = sym at.1 ∙ inner in cc) in
    let shallow : suc (depth (data_of c.data.result.now)) ≡ depth (data_of c.args.bytes.now) = ap (λ x. suc (depth x)) c.data.ensures ∙ sym (ap (λ x. depth (data_of x)) c.in-Optional.is) in (
      omega (arith, c.decreases, shallow),
      (subst (λ u. fits u (data_of c.data.result.now) n ≡ true) same (subst (λ x. fits at.0 x n ≡ true) (sym c.data.ensures) at.3), c.requires.ways),
    )

pub with_optional_mask-requires : goal.with_optional_mask-requires
with_optional_mask-requires t c =
    let k = kind c.args.data_type.now in
    let m = c.in-Optional.optional.mask in
    let at = fits-optional k m (data_of c.in-Optional.optional.data.value) (position_count c.args.source.now) (subst (λ d. fits k (data_of d) (position_count c.args.source.now) ≡ true) c.in-Optional.is c.requires.fits) in
    let same : c.mask.result.now ≡ m = c.mask.ensures.mask in
    flags-gathered (position_count c.args.source.now) c.args.target.now (permuted c.args.way.now (strides c.args.source.now)) c.mask.result.now c.in_ok-mask-in-Optional.mask.items
    (ap length same ∙ at.2) (omega (arith, c.in_ok-mask-in-Optional.ensures.len)) c.requires.ways.within c.in_ok-mask-in-Optional.ensures.cells c.mask.ensures.flags

pub returns-in_ok-made-in-Fixed : goal.returns-in_ok-made-in-Fixed
returns-in_ok-made-in-Fixed t c =
    let k = kind c.args.data_type.now in
    let n = position_count c.args.source.now in
    let b = c.as_slice.result.now in
    let p = permuted c.args.way.now (strides c.args.source.now) in
    let held : data_of c.args.bytes.now ≡ fixed b = ap data_of c.in-Fixed.is ∙ ap fixed (sym c.as_slice.ensures.value) in
    let at = fits-fixed k b n (subst (λ x. fits k x n ≡ true) held c.requires.fits) in
    let size : element_size k ≡ Some c.unwrap-size.result = search rules in
    let same : at.0 ≡ c.unwrap-size.result = (let e : Some at.0 ≡ Some c.unwrap-size.result = sym at.1 ∙ size in cc) in
    subst (λ x. IsTaken k c.args.target.now p x (data_of c.new_flen.result)) (sym held)
    (subst (λ x. IsTaken k c.args.target.now p (fixed b) x) (sym c.new_flen.ensures)
    (taken-fixed k c.unwrap-size.result n c.args.target.now p b c.in_ok-made-in-Fixed.made.items size (at.2 ∙ ap (λ z. n * z) same) c.in_ok-made-in-Fixed.ensures.len c.requires.ways.within c.in_ok-made-in-Fixed.ensures.cells))

pub returns-in_ok-made-in-Variable : goal.returns-in_ok-made-in-Variable
returns-in_ok-made-in-Variable t c =
    let k = kind c.args.data_type.now in
    let n = position_count c.args.source.now in
    let p = permuted c.args.way.now (strides c.args.source.now) in
    let held : data_of c.args.bytes.now ≡ variable c.in-Variable.strings = ap data_of c.in-Variable.is in
    let at = fits-variable k c.in-Variable.strings n (subst (λ x. fits k x n ≡ true) held c.requires.fits) in
    subst (λ x. IsTaken k c.args.target.now p x (variable c.in_ok-made-in-Variable.made)) (sym held)
    (taken-variable k n c.args.target.now p c.in-Variable.strings c.in_ok-made-in-Variable.made at.0 at.1
    (c.requires.ways.same_length ∙ sym (length-permuted c.args.way.now (strides c.args.source.now))) c.requires.ways.within c.in_ok-made-in-Variable.ensures)

pub returns-in_ok-made-in-Optional : goal.returns-in_ok-made-in-Optional
returns-in_ok-made-in-Optional t c =
    let k = kind c.args.data_type.now in
    let n = position_count c.args.source.now in
    let p = permuted c.args.way.now (strides c.args.source.now) in
    let m = c.in-Optional.optional.mask in
    let d = data_of c.in-Optional.optional.data.value in
    let u = kind c.in-Some.inner.now in
    let inner : inner_of k ≡ Some u = search rules in
    let mask_is : c.mask.result.now ≡ m = c.mask.ensures.mask in
    let data_is : data_of c.data.result.now ≡ d = c.data.ensures in
    IfOk-weaker c.with_optional_mask.result _ _
    (λ made is.
    subst (λ x. IsTaken k c.args.target.now p x (data_of made)) (sym (ap data_of c.in-Optional.is))
    (subst (λ x. IsTaken k c.args.target.now p (optional m d) x) (sym is)
    (taken-optional k u c.args.target.now p m c.in_ok-mask-in-Optional.mask.items d (data_of c.in_ok-made-in-Optional.made) inner (omega (arith, c.in_ok-mask-in-Optional.ensures.len))
    (subst (λ x. IsGathered 1 c.args.target.now (scaled 1 p) 0 x c.in_ok-mask-in-Optional.mask.items) mask_is c.in_ok-mask-in-Optional.ensures.cells)
    (subst (λ x. IsTaken u c.args.target.now p x (data_of c.in_ok-made-in-Optional.made)) data_is c.in_ok-made-in-Optional.ensures))))
    c.with_optional_mask.ensures
