use Rattle.std.proofs.Common.{rules, arith, ◌≡◌, ◌+◌, ◌-◌, ◌<◌, ◌≤◌, true, length, take, sym, subst}
use Rattle.std.specs.Prelude.{IfSome, Some}
use Rattle.zarrs_data_type.specs.ArrayData.{data_of}
use Rattle.zarrs_data_type.specs.Cells.{cells, HasCells}
use Rattle.zarrs_data_type.specs.Kind.{kind}
use Rattle.zarrs_subset.specs.Boxes.{position_count}
use Rattle.zarrs_codec_array.specs.ArrayCodecs.{array_meaning, arrays_meaning}
use Rattle.zarrs_codec_array.proofs.Chained.{IsUndone, fits-at, made-before, undone-has, undone-more, undone-first, undone-all}
use Rattle.zarrs_codec_array.proofs.array.decode_array.Goals as goal

pub decode_next-requires-clause-fits : goal.decode_next-requires-clause-fits
decode_next-requires-clause-fits c =
    let codec = c.index-codecs-k.result in
    let k = c.loop-k.k - 1 in
    let lt : k < length c.args.codecs.now = omega (arith, c.loop-k.invariant.0) in
    let le : k ≤ length c.in_ok-made.made.items = omega (arith, lt, c.in_ok-made.ensures.count) in
    let before = made-before c.args.codecs.now c.args.shape.now c.in_ok-made.made.items c.deref.result.now k c.shape_before-before.result.now c.deref.ensures.value
    c.in_ok-made.ensures.shapes le c.shape_before-before.ensures.first c.shape_before-before.ensures.later in
    subst (λ x. (array_meaning codec).fits x ≡ true) (sym before)
    (fits-at c.args.codecs.now k codec c.args.shape.now lt c.index-codecs-k.is c.requires.fits)

pub decode_next-requires-clause-cells : goal.decode_next-requires-clause-cells
decode_next-requires-clause-cells c =
    let t = kind c.args.data_type.now in
    let k = c.loop-k.k - 1 in
    let lt : k < length c.args.codecs.now = omega (arith, c.loop-k.invariant.0) in
    let le : k ≤ length c.in_ok-made.made.items = omega (arith, lt, c.in_ok-made.ensures.count) in
    let before = made-before c.args.codecs.now c.args.shape.now c.in_ok-made.made.items c.deref.result.now k c.shape_before-before.result.now c.deref.ensures.value
    c.in_ok-made.ensures.shapes le c.shape_before-before.ensures.first c.shape_before-before.ensures.later in
    subst (λ x. HasCells t (data_of c.loop-k.current) (position_count x)) (sym before)
    (undone-has c.args.codecs.now k c.index-codecs-k.result c.args.shape.now lt c.index-codecs-k.is c.requires.fits t (data_of c.loop-k.current) c.loop-k.invariant.1.has)

pub loop-k-preserved : goal.loop-k-preserved
loop-k-preserved c =
    let t = kind c.args.data_type.now in
    let k = c.loop-k.k - 1 in
    let whole : c.loop-k.k ≡ k + 1 = omega arith in
    let lt : k < length c.args.codecs.now = omega (arith, c.loop-k.invariant.0) in
    let codec = c.index-codecs-k.result in
    let s = c.args.shape.now in
    let e = data_of c.loop-k.current in
    let f = data_of c.in_ok-current.current in
    let front = (arrays_meaning (take k c.args.codecs.now)).shape s in
    let le : k ≤ length c.in_ok-made.made.items = omega (arith, lt, c.in_ok-made.ensures.count) in
    let before = made-before c.args.codecs.now c.args.shape.now c.in_ok-made.made.items c.deref.result.now k c.shape_before-before.result.now c.deref.ensures.value
    c.in_ok-made.ensures.shapes le c.shape_before-before.ensures.first c.shape_before-before.ensures.later in
    let next : IfSome (cells t e) (λ ys. cells t f ≡ Some ((array_meaning codec).back front ys)) =
    subst (λ x. IfSome (cells t e) (λ ys. cells t f ≡ Some ((array_meaning codec).back x ys))) before c.in_ok-current.ensures in (
      omega (arith, c.loop-k.invariant.0),
      undone-more c.args.codecs.now k codec s lt c.index-codecs-k.is c.requires.fits t (data_of c.args.bytes) e f c.requires.cells
          (subst (λ n. IsUndone c.args.codecs.now n s t (data_of c.args.bytes) e) whole c.loop-k.invariant.1) next,
    )

pub loop-k-init : goal.loop-k-init
loop-k-init c = (search rules, undone-first c.args.codecs.now _ c.args.shape.now (kind c.args.data_type.now) (data_of c.args.bytes) (search rules) c.requires.cells)

pub returns : goal.returns
returns c =
    let none : c.loop-k.k ≡ 0 = omega arith in
    undone-all c.args.codecs.now c.args.shape.now (kind c.args.data_type.now) (data_of c.args.bytes) (data_of c.loop-k.current) c.requires.cells
    (subst (λ n. IsUndone c.args.codecs.now n c.args.shape.now (kind c.args.data_type.now) (data_of c.args.bytes) (data_of c.loop-k.current)) none c.loop-k.invariant.1)
