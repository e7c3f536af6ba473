use Rattle.std.proofs.Common.{arith, ◌≡◌, ◌<◌, ◌-◌, ◌∷◌, [], ◌++◌, length, take, slice_index, sym, ap, ◌∙◌, below_more}
use Rattle.std.proofs.lemmas.List.{take_all, take_more}
use Rattle.zarrs_subset.proofs.traits.ArraySubsetTraits.shape.Goals as goal

pub loop-dimension-preserved : goal.loop-dimension-preserved
loop-dimension-preserved g c =
    let region = g.Self.ArraySubsetTraits.region c.args.self.now in
    let long : length region.start ≡ length region.shape = g.met.Self.ArraySubsetTraits.is_long c.args.self.now in
    let k = c.loop-dimension.dimension in
    let below : k < length region.shape = omega arith in
    let extent : c.range-range.result.end - c.range-range.result.start ≡ slice_index region.shape k = omega (arith, c.range-range.ensures.start, c.range-range.ensures.end) in
    record {
      made = c.push_reserved.ensures.items ∙ ap (λ l. l ++ (c.range-range.result.end - c.range-range.result.start) ∷ []) c.loop-dimension.invariant.made
          ∙ ap (λ v. take k region.shape ++ v ∷ []) extent ∙ sym (take_more region.shape k 0 below);
      room = c.push_reserved.ensures.capacity ∙ c.loop-dimension.invariant.room;
      fit = below_more _ k c.loop-dimension.invariant.fit (omega (arith, c.range-range.ensures.end));
    }

pub returns-clause-shape : goal.returns-clause-shape
returns-clause-shape g c =
    let region = g.Self.ArraySubsetTraits.region c.args.self.now in
    let long : length region.start ≡ length region.shape = g.met.Self.ArraySubsetTraits.is_long c.args.self.now in
    c.loop-dimension.invariant.made ∙ take_all c.loop-dimension.dimension region.shape (omega arith)

pub returns-clause-is_box : goal.returns-clause-is_box
returns-clause-is_box g c = record {
  same_length = sym (g.met.Self.ArraySubsetTraits.is_long c.args.self.now);
  ends_fit = λ j below. c.loop-dimension.invariant.fit j (omega arith);
}
