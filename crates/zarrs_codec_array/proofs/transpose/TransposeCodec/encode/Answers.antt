use Rattle.std.proofs.Common.{arith, ◌≡◌, ◌<◌, ℕ, length, ap, sym, subst, ◌∙◌}
use Rattle.std.specs.Prelude.{slice_index}
use Rattle.zarrs_data_type.specs.ArrayData.{data_of}
use Rattle.zarrs_data_type.specs.Kind.{kind}
use Rattle.zarrs_data_type_bytes.proofs.Cells.{HasCells-parts}
use Rattle.zarrs_data_type_kinds.proofs.Sizes.{element_size-positive}
use Rattle.zarrs_subset.specs.Boxes.{position_count}
use Rattle.zarrs_codec_array.specs.Gathered.{IsWay, IsTaken}
use Rattle.zarrs_codec_array.specs.Orders.{permuted, strides}
use Rattle.zarrs_codec_array.specs.OrderLaws.{entry_below}
use Rattle.std.proofs.lemmas.Bool.{false≢true}
use Rattle.zarrs_codec_array.proofs.Ways.{way-forward, encoded-taken, encoded-empty, no_cell}
use Rattle.zarrs_codec_array.proofs.transpose.TransposeCodec.encode.Goals as goal

pub returns-then-not-has_cell : goal.returns-then-not-has_cell
returns-then-not-has_cell c =
    let none : position_count c.args.shape.now ≡ 0 = no_cell (position_count c.args.shape.now) (λ some. false≢true (sym c.if-not-has_cell.true ∙ c.has_cell.ensures.1 some)) in
    encoded-empty c.args.self.now.order.items c.args.shape.now c.args.self.now.in_order c.requires.fits (kind c.args.data_type.now) (data_of c.args.bytes.now) c.requires.cells none

pub permuted-requires : goal.permuted-requires
permuted-requires c =
    let order = c.args.self.now.order.items in
    let lent : c.deref.result.now ≡ order = c.deref.ensures.value in
    subst (λ o. (k : ℕ) → k < length o → slice_index o k < length c.args.shape.now) (sym lent)
    (λ k lt. let below = entry_below order c.args.self.now.in_order k lt in omega (arith, c.requires.fits))

pub rearranged-requires-clause-fits : goal.rearranged-requires-clause-fits
rearranged-requires-clause-fits c = (HasCells-parts (kind c.args.data_type.now) (data_of c.args.bytes.now) (position_count c.args.shape.now) c.requires.cells).0

pub rearranged-requires-clause-ways : goal.rearranged-requires-clause-ways
rearranged-requires-clause-ways c =
    let order = c.args.self.now.order.items in
    let s = c.args.shape.now in
    let target : c.deref-2.result.now ≡ permuted order s = c.deref-2.ensures.value ∙ c.in_ok-target.ensures ∙ ap (λ o. permuted o s) c.deref.ensures.value in
    subst (λ x. IsWay x s c.deref-3.result.now) (sym target)
    (subst (λ x. IsWay (permuted order s) s x) (sym c.deref-3.ensures.value)
    (way-forward order s c.args.self.now.in_order c.requires.fits (c.has_cell.ensures.0 c.if-not-has_cell.false)))

pub returns : goal.returns
returns c =
    let order = c.args.self.now.order.items in
    let s = c.args.shape.now in
    let k = kind c.args.data_type.now in
    let d = data_of c.args.bytes.now in
    let made = data_of c.in_ok-rearranged.field-0 in
    let target : c.deref-2.result.now ≡ permuted order s = c.deref-2.ensures.value ∙ c.in_ok-target.ensures ∙ ap (λ o. permuted o s) c.deref.ensures.value in
    encoded-taken order s c.args.self.now.in_order c.requires.fits k (λ size is. element_size-positive c.args.data_type.now size is) d made c.requires.cells
    (subst (λ x. IsTaken k x (permuted order (strides s)) d made) target
    (subst (λ x. IsTaken k c.deref-2.result.now (permuted x (strides s)) d made) c.deref-3.ensures.value c.in_ok-rearranged.ensures))
