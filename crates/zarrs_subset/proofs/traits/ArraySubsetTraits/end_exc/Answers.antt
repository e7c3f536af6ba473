use Rattle.std.proofs.Common.{arith, ◌≡◌, ◌+◌, ◌∷◌, [], length, ap, ◌∙◌, below_more}
use Rattle.std.proofs.lemmas.List.{length_push, get_or_push, get_or_append_left}
use Rattle.zarrs_subset.proofs.Overlaps.{zip_with-from}
use Rattle.zarrs_subset.proofs.traits.ArraySubsetTraits.end_exc.Goals as goal

pub loop-dimension-preserved : goal.loop-dimension-preserved
loop-dimension-preserved g c =
    let k = c.loop-dimension.dimension in
    let end = c.loop-dimension.end.items in
    let value = c.range.result.end in
    rw c.push_reserved.ensures.items (record {
      len = length_push end value ∙ ap (λ n. n + 1) c.loop-dimension.invariant.len;
      made = below_more _ k
          (λ j below. get_or_append_left end (value ∷ []) 0 j (omega (arith, c.loop-dimension.invariant.len)) ∙ c.loop-dimension.invariant.made j below)
          (get_or_push end value 0 k c.loop-dimension.invariant.len ∙ c.range.ensures.end);
      room = c.push_reserved.ensures.capacity ∙ c.loop-dimension.invariant.room;
    })

pub returns : goal.returns
returns g c =
    let region = g.Self.ArraySubsetTraits.region c.args.self.now in
    let long : length region.start ≡ length region.shape = g.met.Self.ArraySubsetTraits.is_long c.args.self.now in
    zip_with-from (λ s e. s + e) region.start region.shape c.loop-dimension.end.items long (omega (arith, c.loop-dimension.invariant.len))
    (λ k below. c.loop-dimension.invariant.made k (omega arith))
