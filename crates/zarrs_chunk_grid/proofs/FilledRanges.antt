-- The box that a range of chunks fills, from the coordinates that it fills along each dimension.
use Rattle.std.proofs.Common.{◌≡◌, ◌==◌, ℕ, ◌+◌, ◌-◌, ◌<◌, ◌≤◌, ◌^◌, List, length, slice_index, sym, ap, ◌∙◌, refl, eq-eqb, arith}
use Rattle.std.proofs.lemmas.Grind.{same_number_lists}
use Rattle.std.proofs.lemmas.List.Folds.{list_any_none, list_any_at}
use Rattle.std.proofs.lemmas.List.FromFn.{length-map-range_with_len}
use Rattle.zarrs_subset.specs.Regions.{Box, IsBox, IsLong, box_from, empty_box}
use Rattle.zarrs_chunk_grid.specs.Axes.{Axis, IsAxis, IsAxisRange, IsInterval}
use Rattle.zarrs_chunk_grid.specs.Grids.{Grid, IsGrid, HasIndices, IsChunkRange, each_dimension, range_box, chunks_box}
use Rattle.zarrs_chunk_grid.proofs.AxisLemmas.{edge_le}
use Rattle.zarrs_chunk_grid.proofs.Walks.{PairsBelow}
use Rattle.zarrs_chunk_grid.proofs.MetChunks.{at_dimension, all_some, same_box}

-- the chunks of the range fill these coordinates along dimension k
abbrev pub FilledAt : Grid → Box → ℕ → ℕ → ℕ → Type 0
FilledAt g range k start extent =
    let end = slice_index range.start k + slice_index range.shape k in
    (end ≤ (g.axis k).count) × (start ≡ (g.axis k).edge (slice_index range.start k))
    × (extent ≡ (g.axis k).edge end - (g.axis k).edge (slice_index range.start k))

-- the end of an interval is a `u64`
pub interval_fits : (a : Axis) (l : IsAxis a) (i start extent : ℕ) → IsInterval a i start extent → start + extent < 2 ^ 64
interval_fits a l i start extent interval =
    let low : i + 1 ≤ a.count = (let n = interval.numbered in omega arith) in
    omega (arith, edge_le a l (i + 1) a.count low (omega arith), l.fits, interval.ends)

-- what the first and the last interval of a range fill
pub filled_from_ends : (a : Axis) (first end start extent last_start last_extent : ℕ) → first < end
    → IsInterval a first start extent → IsInterval a (end - 1) last_start last_extent → IsAxisRange a first end start (last_start + last_extent)
filled_from_ends a first end start extent last_start last_extent some begin last =
    let at : end - 1 + 1 ≡ end = omega arith in
    record {
      numbered = (let n = last.numbered in omega arith);
      begins = begin.begins;
      ends = last.ends ∙ ap a.edge at;
    }

pub filled_in_order : (a : Axis) (l : IsAxis a) (first end start stop : ℕ) → first ≤ end → IsAxisRange a first end start stop → start ≤ stop
filled_in_order a l first end start stop low filled =
    let up = edge_le a l first end low filled.numbered in
    omega (arith, up, filled.begins, filled.ends)

pub filled_at : (g : Grid) (range : Box) (k first end start stop : ℕ) → first ≡ slice_index range.start k → end ≡ slice_index range.start k + slice_index range.shape k
    → IsAxisRange (g.axis k) first end start stop → FilledAt g range k start (stop - start)
filled_at g range k first end start stop firstIs endIs filled =
    let ends : stop ≡ (g.axis k).edge (slice_index range.start k + slice_index range.shape k) = filled.ends ∙ ap (g.axis k).edge endIs in
    let begins : start ≡ (g.axis k).edge (slice_index range.start k) = filled.begins ∙ ap (g.axis k).edge firstIs in
    (rw endIs at filled.numbered, begins, rw (ends, begins) refl)

module _ (g : Grid) (l : IsGrid g) (range : Box) (long : length range.start ≡ g.dimensions) (same : IsLong range) (some : HasIndices range)
    (start shape : List ℕ) (n : ℕ) (low : g.dimensions ≤ n) (high : n ≤ g.dimensions) (walk : PairsBelow (FilledAt g range) start shape n) where
  pub filled_range : IsChunkRange g range
  filled_range = record {
    start_long = long;
    shape_long = sym same ∙ long;
    some = λ k below. some k (omega (arith, same));
    numbered = λ k below. (walk.each k (omega arith)).0;
  }

  pub filled_is_box : IsBox (box_from start shape)
  filled_is_box = record {
    same_length = walk.shape_long ∙ sym walk.start_long;
    ends_fit = λ k below.
        let inside : k < g.dimensions = omega (arith, walk.start_long) in
        let at = walk.each k (omega arith) in
        let end = slice_index range.start k + slice_index range.shape k in
        let up = edge_le (g.axis k) (l k inside) (slice_index range.start k) end (omega arith) at.0 in
        let top = edge_le (g.axis k) (l k inside) end (g.axis k).count at.0 (omega arith) in
        omega (arith, at.1, at.2, up, top, (l k inside).fits);
  }

  pub filled_is : box_from start shape ≡ chunks_box g range
  filled_is =
      let extents = list_any_none (λ extent. extent == 0) range.shape (all_some range.shape some) in
      let first : ℕ → ℕ = λ k. (g.axis k).edge (slice_index range.start k) in
      let extent : ℕ → ℕ = λ k. (g.axis k).edge (slice_index range.start k + slice_index range.shape k) - (g.axis k).edge (slice_index range.start k) in
      let starts : start ≡ each_dimension g.dimensions first =
      same_number_lists start (each_dimension g.dimensions first) (omega (arith, walk.start_long, length-map-range_with_len first 0 g.dimensions))
      (λ k below. let inside : k < g.dimensions = omega (arith, walk.start_long) in rw (at_dimension g.dimensions first k inside) (walk.each k (omega arith)).1) in
      let shapes : shape ≡ each_dimension g.dimensions extent =
      same_number_lists shape (each_dimension g.dimensions extent) (omega (arith, walk.shape_long, length-map-range_with_len extent 0 g.dimensions))
      (λ k below. let inside : k < g.dimensions = omega (arith, walk.shape_long) in rw (at_dimension g.dimensions extent k inside) (walk.each k (omega arith)).2) in
      rw extents (same_box (box_from start shape) (range_box g range) starts shapes)

-- a range without indices
pub empty_is_filled : (g : Grid) (range : Box) (k : ℕ) → k < length range.shape → slice_index range.shape k ≡ 0 → empty_box (length range.shape) ≡ chunks_box g range
empty_is_filled g range k within none = rw (list_any_at (λ extent. extent == 0) range.shape k 0 within (eq-eqb _ _ none)) refl
