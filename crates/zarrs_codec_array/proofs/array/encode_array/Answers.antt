use Rattle.std.proofs.Common.{arith, ◌≡◌, ◌+◌, ◌-◌, true, take, ap, sym, subst, ◌∙◌}
use Rattle.std.specs.Prelude.{IfSome, Some}
use Rattle.zarrs_data_type.specs.ArrayData.{data_of}
use Rattle.zarrs_data_type.specs.Cells.{cells, HasCells}
use Rattle.zarrs_data_type.specs.Kind.{kind}
use Rattle.zarrs_subset.specs.Boxes.{position_count}
use Rattle.zarrs_codec_array.specs.ArrayCodecs.{array_meaning, arrays_meaning}
use Rattle.zarrs_codec_array.specs.Gathered.{data_or, IsEncodedArray}
use Rattle.zarrs_codec_array.proofs.Chained.{fits-at, encoded-has, encoded-more}
use Rattle.zarrs_codec_array.proofs.array.encode_array.Goals as goal

pub encode_next-requires-clause-fits : goal.encode_next-requires-clause-fits
encode_next-requires-clause-fits c =
    let codec = c.index-codecs-k.result in
    subst (λ x. (array_meaning codec).fits x ≡ true) (sym (c.deref-in-loop-k.ensures.value ∙ c.in_ok-before.ensures))
    (fits-at c.args.codecs.now c.loop-k.k codec c.args.shape.now c.loop-k-test.true c.index-codecs-k.is c.requires.fits)

pub encode_next-requires-clause-cells : goal.encode_next-requires-clause-cells
encode_next-requires-clause-cells c =
    let t = kind c.args.data_type.now in
    let e = data_or c.loop-k.current (data_of c.args.bytes.now) in
    subst (λ x. HasCells t e (position_count x)) (sym (c.deref-in-loop-k.ensures.value ∙ c.in_ok-before.ensures))
    (encoded-has c.args.codecs.now c.loop-k.k c.index-codecs-k.result c.args.shape.now c.loop-k-test.true c.index-codecs-k.is c.requires.fits t (data_of c.args.bytes.now) c.requires.cells e c.loop-k.invariant.0)

pub loop-k-preserved : goal.loop-k-preserved
loop-k-preserved c =
    let t = kind c.args.data_type.now in
    let d = data_of c.args.bytes.now in
    let e = data_or c.loop-k.current d in
    let codec = c.index-codecs-k.result in
    let next = c.in_ok-next.next in
    let front = (arrays_meaning (take c.loop-k.k c.args.codecs.now)).shape c.args.shape.now in
    let made : IsEncodedArray (array_meaning codec) t front e next =
    subst (λ x. IsEncodedArray (array_meaning codec) t x e next) (c.deref-in-loop-k.ensures.value ∙ c.in_ok-before.ensures) c.in_ok-next.ensures in
    let same : c.loop-k.k ≡ c.loop-k.k + 1 - 1 = omega arith in (
      subst (λ f. IfSome (cells t d) (λ xs. cells t f ≡ Some ((arrays_meaning (take (c.loop-k.k + 1) c.args.codecs.now)).forward c.args.shape.now xs))) (sym (c.later-current.ensures d))
          (encoded-more c.args.codecs.now c.loop-k.k codec c.args.shape.now c.loop-k-test.true c.index-codecs-k.is c.requires.fits t d c.requires.cells e (data_or next e) c.loop-k.invariant.0 made),
      λ some. c.in_ok-before.ensures ∙ ap (λ n. (arrays_meaning (take n c.args.codecs.now)).shape c.args.shape.now) same,
    )
