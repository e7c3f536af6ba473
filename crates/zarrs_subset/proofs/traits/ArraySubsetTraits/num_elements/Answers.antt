use Rattle.std.proofs.Common.{arith, ◌≡◌, ◌<◌, ◌≤◌, ◌-◌, ◌^◌, length, slice_index, sym, below_more, MatchOption}
use Rattle.zarrs_subset.specs.Boxes.{position_count}
use Rattle.zarrs_subset.proofs.Products.{counted_none, counted_more, counted_past, counted_all, counted_or}
use Rattle.zarrs_subset.proofs.traits.ArraySubsetTraits.num_elements.Goals.{in-Some, in-None}
use Rattle.zarrs_subset.proofs.traits.ArraySubsetTraits.num_elements.Goals as goal

pub loop-dimension-init : goal.loop-dimension-init
loop-dimension-init g c = record {
  fit = λ j below. absurd (omega arith);
  counted = counted_none (g.Self.ArraySubsetTraits.region c.args.self.now).shape;
}

pub loop-dimension-preserved : goal.loop-dimension-preserved
loop-dimension-preserved g c =
    let region = g.Self.ArraySubsetTraits.region c.args.self.now in
    let long : length region.start ≡ length region.shape = g.met.Self.ArraySubsetTraits.is_long c.args.self.now in
    let k = c.loop-dimension.dimension in
    let below : k < length region.shape = omega arith in
    let e : c.range-range.result.end - c.range-range.result.start ≡ slice_index region.shape k = omega (arith, c.range-range.ensures.start, c.range-range.ensures.end) in
    record {
      fit = below_more _ k c.loop-dimension.invariant.fit (omega (arith, c.range-range.ensures.end));
      counted = rw e (elim c.match-count.branch [
        | in-Some w ↦
            rw w.count-is (counted_more region.shape k w.in-Some.product c.loop-dimension.is_empty w.checked_mul-count.result below
            (rw w.in-Some.is at c.loop-dimension.invariant.counted) (rw e at w.checked_mul-count.ensures))
        | in-None w ↦ rw w.count-is (counted_past region.shape k c.loop-dimension.is_empty below (rw w.in-None.is at c.loop-dimension.invariant.counted))
      ]);
    }

pub returns-then-is_empty-clause-ok : goal.returns-then-is_empty-clause-ok
returns-then-is_empty-clause-ok g c = sym (c.loop-dimension.invariant.counted.none c.if-is_empty.true)

pub returns-then-is_empty-clause-is_box : goal.returns-then-is_empty-clause-is_box
returns-then-is_empty-clause-is_box g c = record {
  same_length = sym (g.met.Self.ArraySubsetTraits.is_long c.args.self.now);
  ends_fit = λ j below. c.loop-dimension.invariant.fit j (omega arith);
}

pub returns : goal.returns
returns g c =
    let region = g.Self.ArraySubsetTraits.region c.args.self.now in
    let long : length region.start ≡ length region.shape = g.met.Self.ArraySubsetTraits.is_long c.args.self.now in
    let all : MatchOption c.loop-dimension.count (2 ^ 64 ≤ position_count region.shape) (λ n. n ≡ position_count region.shape) =
    counted_all region.shape c.loop-dimension.dimension c.loop-dimension.count (omega arith) (rw c.if-is_empty.false at c.loop-dimension.invariant.counted) in
    let told = counted_or region.shape c.loop-dimension.count (record {}) all in
    record {
      ok = rw c.ok_or.ensures.value told.0;
      refused = rw c.ok_or.ensures.value told.1;
      is_box = record { same_length = sym long; ends_fit = λ j below. c.loop-dimension.invariant.fit j (omega arith) };
    }
