use Rattle.std.proofs.Common.{arith, ◌≡◌, ◌+◌, ◌-◌, ◌<◌, ◌^◌, length, slice_index, max, min, refl, sym, ◌∙◌}
use Rattle.std.proofs.lemmas.List.{get_or_read_under}
use Rattle.zarrs_subset.specs.Boxes.{overlap_start, overlap_extents}
use Rattle.zarrs_subset.proofs.Overlaps.{EndsFit-overlap, end_fits, in_box-overlap}
use Rattle.zarrs_subset.proofs.Shared.{all_extents, all_starts, other_ends_fit, shared_more}
use Rattle.zarrs_subset.proofs.subset.ArraySubset.shared_with.Goals as goal

pub overflow_add-index : goal.overflow_add-index
overflow_add-index g c =
    let a = c.args.self.now in
    let below : c.loop-k.k < length a.start.items = omega (arith, c.loop-k-test.true, c.len-dimensions.ensures, a.start.ok.0) in
    omega (arith, end_fits a.start.items a.shape.items c.loop-k.k _ _ a.ends_fit a.same_length below c.index-in-loop-k.ensures c.index-in-loop-k-2.ensures)

pub loop-k-preserved : goal.loop-k-preserved
loop-k-preserved g c =
    let a = c.args.self.now in
    let b = g.B.ArraySubsetTraits.region c.args.other.now in
    let k = c.loop-k.k in
    let count = c.len-dimensions.result in
    let count_is : count ≡ length a.start.items = omega (arith, c.len-dimensions.ensures, a.start.ok.0) in
    let below : k < count = c.loop-k-test.true in
    let start : c.index.result.now ≡ slice_index a.start.items k = get_or_read_under a.start.items k count _ 0 c.index.ensures below count_is in
    let again : c.index-in-loop-k.result.now ≡ slice_index a.start.items k = get_or_read_under a.start.items k count _ 0 c.index-in-loop-k.ensures below count_is in
    let extent : c.index-in-loop-k-2.result.now ≡ slice_index a.shape.items k =
    get_or_read_under a.shape.items k count _ 0 c.index-in-loop-k-2.ensures below (count_is ∙ a.same_length) in
    let first : c.max-first.result ≡ max (slice_index a.start.items k) (slice_index b.start k) =
    omega (arith, c.max-first.ensures, start, c.range-range.ensures.start) in
    let end : c.min-end.result ≡ min (slice_index a.start.items k + slice_index a.shape.items k) (slice_index b.start k + slice_index b.shape k) =
    omega (arith, c.min-end.ensures, again, extent, c.range-range.ensures.end) in
    let fits : slice_index b.start k + slice_index b.shape k < 2 ^ 64 = omega (arith, c.range-range.ensures.end) in
    record {
      shared = shared_more _ _ _ _ _ _ _ _ k _ _ c.loop-k.invariant.shared c.push_reserved.ensures.items c.push_reserved-in-loop-k.ensures.items
          first (omega (arith, c.saturating_sub.ensures, first, end)) fits;
      start_room = c.push_reserved.ensures.capacity ∙ c.loop-k.invariant.start_room;
      shape_room = c.push_reserved-in-loop-k.ensures.capacity ∙ c.loop-k.invariant.shape_room;
    }

pub returns-clause-common : goal.returns-clause-common
returns-clause-common g c = λ position.
    let a = c.args.self.now in
    let b = g.B.ArraySubsetTraits.region c.args.other.now in
    let same : length a.start.items ≡ length b.start = sym c.requires in
    let all : c.loop-k.k ≡ length a.start.items = omega (arith, c.len-dimensions.ensures) in
    let long : length b.start ≡ length b.shape = g.met.B.ArraySubsetTraits.is_long c.args.other.now in
    let start : c.loop-k.start.items ≡ overlap_start a.start.items b.start = all_starts _ _ _ _ _ _ c.loop-k.k same all c.loop-k.invariant.shared in
    let shape : c.loop-k.shape.items ≡ overlap_extents a.start.items a.shape.items b.start b.shape =
    all_extents _ _ _ _ _ _ c.loop-k.k a.same_length long same all c.loop-k.invariant.shared in
    rw (start, shape) (in_box-overlap _ _ _ _ position a.same_length long same)

pub returns-clause-value : goal.returns-clause-value
returns-clause-value g c =
    let a = c.args.self.now in
    let b = g.B.ArraySubsetTraits.region c.args.other.now in
    let same : length a.start.items ≡ length b.start = sym c.requires in
    let all : c.loop-k.k ≡ length a.start.items = omega (arith, c.len-dimensions.ensures) in
    let long : length b.start ≡ length b.shape = g.met.B.ArraySubsetTraits.is_long c.args.other.now in
    let start : c.loop-k.start.items ≡ overlap_start a.start.items b.start = all_starts _ _ _ _ _ _ c.loop-k.k same all c.loop-k.invariant.shared in
    let shape : c.loop-k.shape.items ≡ overlap_extents a.start.items a.shape.items b.start b.shape =
    all_extents _ _ _ _ _ _ c.loop-k.k a.same_length long same all c.loop-k.invariant.shared in
    rw (start, shape) refl

pub invariant_of-result : goal.invariant_of-result
invariant_of-result g c =
    let a = c.args.self.now in
    let b = g.B.ArraySubsetTraits.region c.args.other.now in
    let shared = c.loop-k.invariant.shared in
    let same : length a.start.items ≡ length b.start = sym c.requires in
    let all : c.loop-k.k ≡ length a.start.items = omega (arith, c.len-dimensions.ensures, c.loop-k-test.false, c.loop-k.auto, a.start.ok.0) in
    let long : length b.start ≡ length b.shape = g.met.B.ArraySubsetTraits.is_long c.args.other.now in
    let start : c.loop-k.start.items ≡ overlap_start a.start.items b.start = all_starts _ _ _ _ _ _ c.loop-k.k same all shared in
    let shape : c.loop-k.shape.items ≡ overlap_extents a.start.items a.shape.items b.start b.shape =
    all_extents _ _ _ _ _ _ c.loop-k.k a.same_length long same all shared in
    record {
      same_length = shared.start_len ∙ sym shared.shape_len;
      ends_fit = rw (start, shape) (EndsFit-overlap _ _ _ _ a.same_length long same a.ends_fit (other_ends_fit _ _ _ _ _ _ c.loop-k.k long (all ∙ same) shared));
    }
