use Rattle.std.proofs.Common.{arith, ◌≡◌, ◌<◌, ℕ, length, true, ap, sym, subst, ◌∙◌}
use Rattle.std.specs.Prelude.{slice_index}
use Rattle.zarrs_data_type.specs.ArrayData.{data_of}
use Rattle.zarrs_data_type.specs.Cells.{fits}
use Rattle.zarrs_data_type.specs.Kind.{kind}
use Rattle.zarrs_data_type_bytes.proofs.Cells.{HasCells-parts}
use Rattle.zarrs_data_type_kinds.proofs.Sizes.{element_size-positive}
use Rattle.zarrs_subset.specs.Boxes.{position_count}
use Rattle.zarrs_codec_array.specs.Gathered.{IsWay, IsTaken}
use Rattle.zarrs_codec_array.specs.Orders.{permuted, inverse, strides}
use Rattle.zarrs_codec_array.specs.OrderLaws.{entry_below, count-permuted}
use Rattle.std.proofs.lemmas.Bool.{false≢true}
use Rattle.zarrs_codec_array.proofs.Ways.{way-back, decoded-taken, decoded-empty, no_cell}
use Rattle.zarrs_codec_array.proofs.transpose.TransposeCodec.decode.Goals as goal

pub returns-then-not-has_cell : goal.returns-then-not-has_cell
returns-then-not-has_cell c =
    let none : position_count c.args.shape.now ≡ 0 = no_cell (position_count c.args.shape.now) (λ some. false≢true (sym c.if-not-has_cell.true ∙ c.has_cell.ensures.1 some)) in
    decoded-empty c.args.self.now.order.items c.args.shape.now c.args.self.now.in_order c.requires.fits (kind c.args.data_type.now) (data_of c.args.bytes.now) c.requires.cells none

pub permuted-requires : goal.permuted-requires
permuted-requires c =
    let order = c.args.self.now.order.items in
    let lent : c.deref.result.now ≡ order = c.deref.ensures.value in
    subst (λ o. (k : ℕ) → k < length o → slice_index o k < length c.args.shape.now) (sym lent)
    (λ k lt. let below = entry_below order c.args.self.now.in_order k lt in omega (arith, c.requires.fits))

pub rearranged-requires-clause-fits : goal.rearranged-requires-clause-fits
rearranged-requires-clause-fits c =
    let order = c.args.self.now.order.items in
    let s = c.args.shape.now in
    let k = kind c.args.data_type.now in
    let d = data_of c.args.bytes.now in
    let source : c.deref-3.result.now ≡ permuted order s = c.deref-3.ensures.value ∙ c.in_ok-source.ensures ∙ ap (λ o. permuted o s) c.deref.ensures.value in
    subst (λ n. fits k d n ≡ true) (sym (ap position_count source ∙ count-permuted order c.args.self.now.in_order s c.requires.fits))
    (HasCells-parts k d (position_count s) c.requires.cells).0

pub rearranged-requires-clause-ways : goal.rearranged-requires-clause-ways
rearranged-requires-clause-ways c =
    let order = c.args.self.now.order.items in
    let s = c.args.shape.now in
    let source : c.deref-3.result.now ≡ permuted order s = c.deref-3.ensures.value ∙ c.in_ok-source.ensures ∙ ap (λ o. permuted o s) c.deref.ensures.value in
    let undo : c.deref-4.result.now ≡ inverse order = c.deref-4.ensures.value ∙ c.in_ok-inverse.ensures ∙ ap inverse c.deref-2.ensures.value in
    subst (λ x. IsWay s x c.deref-4.result.now) (sym source)
    (subst (λ x. IsWay s (permuted order s) x) (sym undo)
    (way-back order s c.args.self.now.in_order c.requires.fits (c.has_cell.ensures.0 c.if-not-has_cell.false)))

pub returns : goal.returns
returns c =
    let order = c.args.self.now.order.items in
    let s = c.args.shape.now in
    let k = kind c.args.data_type.now in
    let d = data_of c.args.bytes.now in
    let made = data_of c.in_ok-rearranged.field-0 in
    let source : c.deref-3.result.now ≡ permuted order s = c.deref-3.ensures.value ∙ c.in_ok-source.ensures ∙ ap (λ o. permuted o s) c.deref.ensures.value in
    let undo : c.deref-4.result.now ≡ inverse order = c.deref-4.ensures.value ∙ c.in_ok-inverse.ensures ∙ ap inverse c.deref-2.ensures.value in
    decoded-taken order s c.args.self.now.in_order c.requires.fits k (λ size is. element_size-positive c.args.data_type.now size is) d made c.requires.cells
    (subst (λ x. IsTaken k s (permuted (inverse order) (strides x)) d made) source
    (subst (λ x. IsTaken k s (permuted x (strides c.deref-3.result.now)) d made) undo c.in_ok-rearranged.ensures))
