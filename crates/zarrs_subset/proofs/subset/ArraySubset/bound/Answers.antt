use Rattle.std.proofs.Common.{arith, ◌≡◌, ◌+◌, ◌-◌, ◌<◌, length, slice_index, min, refl, ◌∙◌}
use Rattle.std.proofs.lemmas.List.{get_or_read_under}
use Rattle.zarrs_subset.specs.Regions.{box_of, bound_to}
use Rattle.zarrs_subset.proofs.Overlaps.{EndsFit-bound, end_fits, length-bound}
use Rattle.zarrs_subset.proofs.Shared.{cut_more, cut_starts, cut_extents}
use Rattle.zarrs_subset.proofs.subset.ArraySubset.bound.Goals as goal

pub overflow_add-index : goal.overflow_add-index
overflow_add-index c =
    let a = c.args.self.now in
    let below : c.loop-k.k < length a.start.items = omega (arith, c.loop-k-test.true, c.len-dimensions.ensures, a.start.ok.0) in
    omega (arith, end_fits a.start.items a.shape.items c.loop-k.k _ _ a.ends_fit a.same_length below c.index-in-loop-k.ensures c.index-in-loop-k-2.ensures)

pub loop-k-preserved : goal.loop-k-preserved
loop-k-preserved c =
    let a = c.args.self.now in
    let E = c.args.end.now in
    let k = c.loop-k.k in
    let count = c.len-dimensions.result in
    let count_is : count ≡ length a.start.items = omega (arith, c.len-dimensions.ensures, a.start.ok.0) in
    let below : k < count = c.loop-k-test.true in
    let start : c.index.result.now ≡ slice_index a.start.items k = get_or_read_under a.start.items k count _ 0 c.index.ensures below count_is in
    let again : c.index-in-loop-k.result.now ≡ slice_index a.start.items k = get_or_read_under a.start.items k count _ 0 c.index-in-loop-k.ensures below count_is in
    let extent : c.index-in-loop-k-2.result.now ≡ slice_index a.shape.items k =
    get_or_read_under a.shape.items k count _ 0 c.index-in-loop-k-2.ensures below (count_is ∙ a.same_length) in
    let first : c.min-first.result ≡ min (slice_index a.start.items k) (slice_index E k) = omega (arith, c.min-first.ensures, start) in
    let last : c.min-last.result ≡ min (slice_index a.start.items k + slice_index a.shape.items k) (slice_index E k) =
    omega (arith, c.min-last.ensures, again, extent) in
    record {
      cut = cut_more _ _ _ _ _ _ _ k _ _ c.loop-k.invariant.cut c.push_reserved.ensures.items c.push_reserved-in-loop-k.ensures.items
          first (omega (arith, c.saturating_sub.ensures, first, last));
      start_room = c.push_reserved.ensures.capacity ∙ c.loop-k.invariant.start_room;
      shape_room = c.push_reserved-in-loop-k.ensures.capacity ∙ c.loop-k.invariant.shape_room;
    }

pub invariant_of-result : goal.invariant_of-result
invariant_of-result c =
    let a = c.args.self.now in
    let end = c.args.end.now in
    let same : length a.start.items ≡ length end = omega (arith, c.in_ok-check_length.ensures.ok, c.len.ensures, a.start.ok.0) in
    let all : c.loop-k.k ≡ length a.start.items = omega (arith, c.len-dimensions.ensures) in
    let start : c.loop-k.start.items ≡ (bound_to (box_of a) end).start = cut_starts _ _ _ _ _ c.loop-k.k same all c.loop-k.invariant.cut in
    let shape : c.loop-k.shape.items ≡ (bound_to (box_of a) end).shape = cut_extents _ _ _ _ _ c.loop-k.k a.same_length same all c.loop-k.invariant.cut in
    record {
      same_length = rw (start, shape) (length-bound _ _ _ a.same_length same);
      ends_fit = rw (start, shape) (EndsFit-bound _ _ _ a.same_length same a.ends_fit);
    }

pub returns-clause-value : goal.returns-clause-value
returns-clause-value c =
    let a = c.args.self.now in
    let end = c.args.end.now in
    let same : length a.start.items ≡ length end = omega (arith, c.in_ok-check_length.ensures.ok, c.len.ensures, a.start.ok.0) in
    let all : c.loop-k.k ≡ length a.start.items = omega (arith, c.len-dimensions.ensures) in
    let start : c.loop-k.start.items ≡ (bound_to (box_of a) end).start = cut_starts _ _ _ _ _ c.loop-k.k same all c.loop-k.invariant.cut in
    let shape : c.loop-k.shape.items ≡ (bound_to (box_of a) end).shape = cut_extents _ _ _ _ _ c.loop-k.k a.same_length same all c.loop-k.invariant.cut in
    rw (start, shape) refl
