-- A chunk that a region meets shares a position with it along each dimension.
use Rattle.std.proofs.Common.{◌≡◌, ◌<◌, ◌+◌, ◌-◌, ℕ, true, false, List, length, Some, Contains, slice_index, ap, sym, ◌∙◌, inl, inr, arith}
use Rattle.std.proofs.lemmas.Bool.{cases_Bool}
use Rattle.std.proofs.lemmas.List.FromFn.{length-map-range_with_len}
use Rattle.std.proofs.lemmas.Option.{slice_get-get_or}
use Rattle.zarrs_subset.specs.Regions.{Box, IsLong, Holds, overlap_of, positions}
use Rattle.zarrs_subset.proofs.Bytes.{holds_along}
use Rattle.zarrs_subset.proofs.Parts.{overlap_extents-at}
use Rattle.zarrs_subset.proofs.Positions.{positions_in}
use Rattle.zarrs_chunk_grid.specs.Axes.{number_at}
use Rattle.zarrs_chunk_grid.specs.Grids.{Grid, IsGrid, amount_met, box_at, each_dimension, extent_along, first_met, is_covered, met, start_along}
use Rattle.zarrs_chunk_grid.proofs.AxisLemmas.{covered_below, edge_le, number_at_covers, numbers_rise}
use Rattle.zarrs_chunk_grid.proofs.Chunks.{box_dimensions, box_long, covered_chunk}
use Rattle.zarrs_chunk_grid.proofs.MetChunks.{at_dimension}
use Rattle.zarrs_engine_calls.specs.ChunkBoxes.{chunks_met, is_empty, last_of}
use Rattle.zarrs_engine_calls.proofs.Covers.{last_at, last_held, some_extent}
use Rattle.zarrs_engine_calls.proofs.Reached.{first_held, none_met}

module _ (grid : Grid) (lawful : IsGrid grid) (region : Box) (long : IsLong region) (same : length region.start ≡ grid.dimensions)
    (covered : (position : List ℕ) → Holds region position → is_covered grid position ≡ true) (index : List ℕ) (among : Contains (chunks_met grid region) index) where
  -- where the chunk begins, and where it ends
  start_at : (k : ℕ) → k < grid.dimensions → slice_index (box_at grid index).start k ≡ (grid.axis k).edge (slice_index index k)
  unfolding box_at
  start_at k i = at_dimension grid.dimensions (start_along grid index) k i

  extent_at : (k : ℕ) → k < grid.dimensions → slice_index (box_at grid index).shape k ≡ (grid.axis k).edge (slice_index index k + 1) - (grid.axis k).edge (slice_index index k)
  unfolding box_at
  extent_at k i = at_dimension grid.dimensions (extent_along grid index) k i

  module _ (some : is_empty region ≡ false) (k : ℕ) (within : k < length region.start) where
    i : k < grid.dimensions
    i = omega (arith, same)

    abbrev edge : ℕ → ℕ
    edge = (grid.axis k).edge

    -- the chunk ends behind the region's first position, and begins before its end
    ends : (slice_index region.start k < edge (slice_index index k + 1)) × (edge (slice_index index k) < slice_index region.start k + slice_index region.shape k)
        × (edge (slice_index index k) < edge (slice_index index k + 1)) × (0 < slice_index region.shape k)
    unfolding met
    ends =
        let d = grid.dimensions in
        let first = covered_chunk grid lawful region.start (covered region.start (first_held grid lawful region long some covered)) in
        let last = covered_chunk grid lawful (last_of region) (covered (last_of region) (last_held grid lawful region long some)) in
        let range : Box = record { start = each_dimension d (first_met grid region); shape = each_dimension d (amount_met grid region) } in
        let starts = length-map-range_with_len (first_met grid region) 0 d in
        let shapes = length-map-range_with_len (amount_met grid region) 0 d in
        let range_long : IsLong range = starts ∙ sym shapes in
        let here : Contains (positions range) index = rw some at among in
        let inside = holds_along range index range_long (positions_in range.start range.shape here.0 index range_long (slice_get-get_or (positions range) here.0 index here.1 ∙ ap Some here.2)) in
        let x = covered_below (grid.axis k) (lawful k i) _ _ (first.covers k i) in
        let at = last_at region.start region.shape k long within in
        let top = covered_below (grid.axis k) (lawful k i) _ _ (last.covers k i) in
        let z : slice_index region.start k + slice_index region.shape k - 1 < edge (grid.axis k).count = omega arith in
        let e = some_extent region.shape k some (omega (arith, long)) in
        let one = number_at_covers (grid.axis k) (lawful k i) _ x in
        let two = number_at_covers (grid.axis k) (lawful k i) _ z in
        let rises = numbers_rise (grid.axis k) (lawful k i) _ _ _ _ one two (omega arith) in
        let most = two.numbered in
        let low = rw (at_dimension d (first_met grid region) k i) at (inside.from k (omega (arith, starts))) in
        let high = rw (at_dimension d (first_met grid region) k i, at_dimension d (amount_met grid region) k i) at (inside.below k (omega (arith, starts))) in
        let up = edge_le (grid.axis k) (lawful k i) (number_at (grid.axis k) (slice_index region.start k) + 1) (slice_index index k + 1) (omega arith) (omega arith) in
        let down = edge_le (grid.axis k) (lawful k i) (slice_index index k) (number_at (grid.axis k) (slice_index region.start k + slice_index region.shape k - 1)) (omega arith) (omega arith) in
        let step = (lawful k i).ascends (slice_index index k) (omega arith) in
        let under = one.below in
        let from = two.from in
        (omega arith, omega arith, omega arith, e)

    shares_some : 0 < slice_index (overlap_of region (box_at grid index)).shape k
    shares_some =
        let e = ends in
        let a = start_at k i in
        let b = extent_at k i in
        let box = box_at grid index in
        let at = overlap_extents-at region.start region.shape box.start box.shape k long (box_long grid index) (same ∙ sym (box_dimensions grid index)) within in
        omega arith

  pub shares : (k : ℕ) → k < length region.start → 0 < slice_index (overlap_of region (box_at grid index)).shape k
  shares = elim (cases_Bool (is_empty region)) [
    | inr some ↦ shares_some some
    | inl empty ↦ λ k within. absurd (none_met grid region long same empty index among)
  ]
