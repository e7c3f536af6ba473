use Rattle.std.proofs.Common.{arith, ◌≡◌, ◌+◌, ◌-◌, ◌<◌, true, IfOk, length, take, ap, sym, subst, ◌∙◌}
use Rattle.zarrs_codec_array.specs.ArrayCodecs.{array_meaning, arrays_meaning}
use Rattle.zarrs_codec_array.proofs.Chained.{fits-at, shape-more}
use Rattle.zarrs_codec_array.proofs.array.next_shape.Goals as goal

pub made_shape-requires : goal.made_shape-requires
made_shape-requires c =
    let codec = c.index-codecs-k.result in
    let k = c.args.k - 1 in
    let lt : k < length c.args.codecs.now = omega (arith, c.requires.below) in
    let some : 0 < c.args.k = omega (arith, c.if-k-eq0.false) in
    record {
      fits = subst (λ x. (array_meaning codec).fits x ≡ true) (sym (c.requires.last some))
          (fits-at c.args.codecs.now k codec c.args.shape.now lt c.index-codecs-k.is c.requires.fits);
    }

pub returns-else-k-eq0 : goal.returns-else-k-eq0
returns-else-k-eq0 c =
    let cs = c.args.codecs.now in
    let s = c.args.shape.now in
    let codec = c.index-codecs-k.result in
    let k = c.args.k - 1 in
    let lt : k < length cs = omega (arith, c.requires.below) in
    let some : 0 < c.args.k = omega (arith, c.if-k-eq0.false) in
    let whole : k + 1 ≡ c.args.k = omega (arith, some) in
    let made : (array_meaning codec).shape c.args.last.now ≡ (arrays_meaning (take c.args.k cs)).shape s =
    ap (array_meaning codec).shape (c.requires.last some) ∙ sym (shape-more cs k codec s lt c.index-codecs-k.is c.requires.fits)
    ∙ ap (λ n. (arrays_meaning (take n cs)).shape s) whole in
    subst (λ x. IfOk c.made_shape.result (λ next. next.items ≡ x)) made c.made_shape.ensures
