use Rattle.std.proofs.Common.{arith, ◌<◌, ◌∷◌, [], ◌++◌, length, take, sym, ap, ◌∙◌}
use Rattle.std.proofs.lemmas.List.{take_all, take_more}
use Rattle.zarrs_subset.proofs.traits.ArraySubsetTraits.start.Goals as goal

pub loop-dimension-preserved : goal.loop-dimension-preserved
loop-dimension-preserved g c =
    let region = g.Self.ArraySubsetTraits.region c.args.self.now in
    let k = c.loop-dimension.dimension in
    let below : k < length region.start = omega arith in
    record {
      made = c.push_reserved.ensures.items ∙ ap (λ l. l ++ c.range.result.start ∷ []) c.loop-dimension.invariant.made
          ∙ ap (λ v. take k region.start ++ v ∷ []) c.range.ensures.start ∙ sym (take_more region.start k 0 below);
      room = c.push_reserved.ensures.capacity ∙ c.loop-dimension.invariant.room;
    }

pub returns : goal.returns
returns g c =
    let region = g.Self.ArraySubsetTraits.region c.args.self.now in
    c.loop-dimension.invariant.made ∙ take_all c.loop-dimension.dimension region.start (omega arith)
