use Rattle.std.proofs.Common.{arith, ◌≡◌, ◌+◌, ◌-◌, ◌<◌, ◌≤◌, true, length, take, ap, sym, subst, ◌∙◌}
use Rattle.std.proofs.lemmas.List.{length_push}
use Rattle.zarrs_codec_array.specs.ArrayCodecs.{array_meaning, arrays_meaning, AreMadeShapes}
use Rattle.zarrs_codec_array.proofs.Chained.{fits-at, shape-more, made-before, made-more}
use Rattle.zarrs_codec_array.proofs.array.made_shapes.Goals as goal

pub made_shape-requires : goal.made_shape-requires
made_shape-requires c =
    let cs = c.args.codecs.now in
    let s = c.args.shape.now in
    let codec = c.index-codecs-k.result in
    let k = c.loop-k.k - 1 in
    let lt : k < length cs = omega (arith, c.loop-k-test.true) in
    let le : k ≤ length c.loop-k.made.items = omega (arith, c.loop-k.invariant.0) in
    let before = made-before cs s c.loop-k.made.items c.deref.result.now k c.shape_before.result.now c.deref.ensures.value c.loop-k.invariant.2 le
    c.shape_before.ensures.first c.shape_before.ensures.later in
    record { fits = subst (λ x. (array_meaning codec).fits x ≡ true) (sym before) (fits-at cs k codec s lt c.index-codecs-k.is c.requires.fits) }

pub loop-k-preserved : goal.loop-k-preserved
loop-k-preserved c =
    let cs = c.args.codecs.now in
    let s = c.args.shape.now in
    let codec = c.index-codecs-k.result in
    let k = c.loop-k.k - 1 in
    let made = c.loop-k.made.items in
    let next = c.in_ok-next.next in
    let items = c.in_ok-push.ensures.items in
    let lt : k < length cs = omega (arith, c.loop-k-test.true) in
    let long : length made ≡ k = omega (arith, c.loop-k.invariant.0) in
    let le : k ≤ length made = omega (arith, long) in
    let before = made-before cs s made c.deref.result.now k c.shape_before.result.now c.deref.ensures.value c.loop-k.invariant.2 le
    c.shape_before.ensures.first c.shape_before.ensures.later in
    let is : next.items ≡ (arrays_meaning (take (k + 1) cs)).shape s =
    c.in_ok-next.ensures ∙ ap (array_meaning codec).shape before ∙ sym (shape-more cs k codec s lt c.index-codecs-k.is c.requires.fits) in
    let more = ap length items ∙ length_push made next in (
      omega (arith, more, c.loop-k.invariant.0),
      omega (arith, more, c.loop-k.invariant.0, c.loop-k-test.true),
      subst (λ l. AreMadeShapes cs s l) (sym items) (made-more cs s made next k long c.loop-k.invariant.2 is),
    )
