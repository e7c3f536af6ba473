use Rattle.std.proofs.Common.{arith, rules, ◌≡◌, ◌+◌, ◌-◌, ◌<◌, max, min, length, slice_index, refl, sym}
use Rattle.zarrs_subset.specs.Boxes.{MeetAlong, overlap_extents}
use Rattle.zarrs_subset.specs.Regions.{box_of}
use Rattle.zarrs_subset.proofs.Overlaps.{length-overlap_extents}
use Rattle.zarrs_subset.proofs.Parts.{BytesPlaced-apart, TakesPart-from, shared_start, shared_other_start, zip_with-at}
use Rattle.zarrs_subset.proofs.Parts.{overlap_extents-at, shared_fits, shared_some, shared_copied}
use Rattle.zarrs_subset.proofs.BoxRuns.{box_copied, AllSome-fits, block_within, fits_at, IsPlan-more}
use Rattle.zarrs_subset.proofs.copy.place_part.Goals.{then-cell_size-eq0-via-then-cell_size-eq0, then-cell_size-eq0-via-else-cell_size-eq0+then-are_apart}
use Rattle.zarrs_subset.proofs.copy.place_part.Goals as goal

pub returns-then-cell_size-eq0 : goal.returns-then-cell_size-eq0
returns-then-cell_size-eq0 c =
    let a = c.args.target_box.now in
    let b = c.args.part_box.now in
    let start : c.start-start.result.now ≡ a.start.items = search rules in
    let shape : c.shape-shape.result.now ≡ a.shape.items = search rules in
    let part_start : c.start-part_start.result.now ≡ b.start.items = search rules in
    let part_shape : c.shape-part_shape.result.now ≡ b.shape.items = search rules in
    TakesPart-from _ (box_of a) (box_of b) _ _ _ a.same_length b.same_length c.requires.part_len c.requires.target_len refl
    (elim c.then-cell_size-eq0.branch [
      | then-cell_size-eq0-via-then-cell_size-eq0 w ↦ λ p k inside below. absurd (omega (arith, w.if-cell_size-eq0.true))
      | then-cell_size-eq0-via-else-cell_size-eq0+then-are_apart w ↦
          BytesPlaced-apart _ _ _ _ _ _ _ (rw (start, shape, part_start, part_shape) at (w.are_apart.ensures.apart w.if-are_apart.true))
    ])

pub add-requires-clause-source_room : goal.add-requires-clause-source_room
add-requires-clause-source_room c =
    let a = c.args.target_box.now in
    let b = c.args.part_box.now in
    let long : length c.start-start.result.now ≡ length c.shape-shape.result.now = search rules in
    let part_long : length c.start-part_start.result.now ≡ length c.shape-part_shape.result.now = search rules in
    let dimensions : length c.start-start.result.now ≡ length c.start-part_start.result.now = search rules in
    let meet : MeetAlong c.start-start.result.now c.shape-shape.result.now c.start-part_start.result.now c.shape-part_shape.result.now = search rules in
    let fits = shared_fits _ _ _ _ long part_long dimensions meet in
    let some = shared_some _ _ _ _ long part_long dimensions meet in
    let next : c.loop-k.k ≡ c.loop-k.k - 1 + 1 = omega arith in
    let block = rw next at c.loop-k.invariant.plan.source_block in
    omega (
      arith,
      block_within c.shape-part_shape.result.now (c.loop-k.k - 1) _ _ (length c.args.part.now) (omega arith)
          (AllSome-fits _ _ _ some fits.1) block (search rules),
    )

pub add-requires-clause-target_room : goal.add-requires-clause-target_room
add-requires-clause-target_room c =
    let long : length c.start-start.result.now ≡ length c.shape-shape.result.now = search rules in
    let part_long : length c.start-part_start.result.now ≡ length c.shape-part_shape.result.now = search rules in
    let dimensions : length c.start-start.result.now ≡ length c.start-part_start.result.now = search rules in
    let meet : MeetAlong c.start-start.result.now c.shape-shape.result.now c.start-part_start.result.now c.shape-part_shape.result.now = search rules in
    let fits = shared_fits _ _ _ _ long part_long dimensions meet in
    let some = shared_some _ _ _ _ long part_long dimensions meet in
    let next : c.loop-k.k ≡ c.loop-k.k - 1 + 1 = omega arith in
    let block = rw next at c.loop-k.invariant.plan.target_block in
    omega (
      arith,
      block_within c.shape-shape.result.now (c.loop-k.k - 1) _ _ (length c.args.target.now) (omega arith)
          (AllSome-fits _ _ _ some fits.0) block (search rules),
    )

pub loop-k-preserved : goal.loop-k-preserved
loop-k-preserved c =
    let S = c.start-start.result.now in
    let X = c.shape-shape.result.now in
    let T = c.start-part_start.result.now in
    let Y = c.shape-part_shape.result.now in
    let k = c.loop-k.k - 1 in
    let long : length c.start-start.result.now ≡ length c.shape-shape.result.now = search rules in
    let part_long : length c.start-part_start.result.now ≡ length c.shape-part_shape.result.now = search rules in
    let dimensions : length c.start-start.result.now ≡ length c.start-part_start.result.now = search rules in
    let meet : MeetAlong c.start-start.result.now c.shape-shape.result.now c.start-part_start.result.now c.shape-part_shape.result.now = search rules in
    let fits = shared_fits S X T Y long part_long dimensions meet in
    let below : k < length S = omega arith in
    let below' : k < length T = omega arith in
    let inside : k < length (overlap_extents S X T Y) = omega (arith, length-overlap_extents S X T Y long part_long dimensions) in
    let first : c.max-first.result ≡ max (slice_index S k) (slice_index T k) = search rules in
    let end : c.min-end.result ≡ min (slice_index S k + slice_index X k) (slice_index T k + slice_index Y k) = search rules in
    let from : c.max-first.result - slice_index T k ≡ slice_index (shared_other_start S T) k = rw first (sym (zip_with-at (λ s t. max s t - t) S T k below below')) in
    let to : c.max-first.result - slice_index S k ≡ slice_index (shared_start S T) k = rw first (sym (zip_with-at (λ s t. max s t - s) S T k below below')) in
    let extent : c.min-end.result - c.max-first.result ≡ slice_index (overlap_extents S X T Y) k =
    rw (first, end) (sym (overlap_extents-at S X T Y k long part_long dimensions below)) in
    record {
      within = omega arith;
      plan = IsPlan-more _ _ k _ _ _ _ _ _ _ (omega arith) (fits_at _ _ _ _ _ k fits.1 fits.0 inside)
          (rw (from, to, extent) at c.add.ensures) c.loop-k.invariant.plan;
    }

pub returns : goal.returns
returns c =
    let a = c.args.target_box.now in
    let b = c.args.part_box.now in
    let start : c.start-start.result.now ≡ a.start.items = search rules in
    let shape : c.shape-shape.result.now ≡ a.shape.items = search rules in
    let part_start : c.start-part_start.result.now ≡ b.start.items = search rules in
    let part_shape : c.shape-part_shape.result.now ≡ b.shape.items = search rules in
    let dimensions : length a.start.items ≡ length b.start.items = search rules in
    let meets : MeetAlong c.start-start.result.now c.shape-shape.result.now c.start-part_start.result.now c.shape-part_shape.result.now = search rules in
    let meet = rw (start, shape, part_start, part_shape) at meets in
    let fits = shared_fits a.start.items a.shape.items b.start.items b.shape.items a.same_length b.same_length dimensions meet in
    let all : c.loop-k.k ≡ 0 = omega arith in
    let plan = rw (all, start, shape, part_start, part_shape) at c.loop-k.invariant.plan in
    TakesPart-from _ (box_of a) (box_of b) _ _ _ a.same_length b.same_length c.requires.part_len c.requires.target_len
    c.copy.auto.target
    (shared_copied _ _ _ _ _ _ _ _ a.same_length b.same_length dimensions
    (box_copied _ _ _ _ _ _ _ _ _ _ fits.1 fits.0 plan c.copy.ensures))
