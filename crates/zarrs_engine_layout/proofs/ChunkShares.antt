-- What a region and the chunk of some indices share, one dimension at a time.
use Rattle.std.proofs.Common.{◌≡◌, ◌≢◌, ◌&&◌, ℕ, ◌+◌, ◌-◌, ◌<◌, ◌≤◌, ◌^◌, max, min, List, length, set, sym, ◌∙◌, ap, subst, below_more, arith}
use Rattle.std.specs.Prelude.{slice_index}
use Rattle.std.proofs.lemmas.List.{get_or-set_other, get_or-set_same, length-set}
use Rattle.std.proofs.lemmas.Grind.{same_number_lists}
use Rattle.zarrs_subset.specs.Boxes.{EndsFit, zip_with}
use Rattle.zarrs_subset.specs.Regions.{Box, IsLong, LiesInBox, in_box, overlap_of, seen_from, shifted_box}
use Rattle.zarrs_subset.proofs.Overlaps.{EndsFit-below, in_box-empty, in_box-overlap, length-zip_with, zip_with-from}
use Rattle.zarrs_subset.proofs.Parts.{zip_with-at}
use Rattle.zarrs_chunk_grid.specs.Axes.{IsInterval}
use Rattle.zarrs_chunk_grid.specs.Grids.{Grid, IsGrid, box_at, extent_along, start_along}
use Rattle.zarrs_chunk_grid.proofs.AxisLemmas.{edge_fits}
use Rattle.zarrs_chunk_grid.proofs.Chunks.{box_dimensions, box_long}
use Rattle.zarrs_chunk_grid.proofs.MetChunks.{at_dimension}
use Rattle.zarrs_chunk_grid.proofs.Walks.{PairsBelow}
use Rattle.zarrs_engine_layout.specs.Shared.{AreApart, AreShared, IsSharedIn}
use Rattle.zarrs_engine_layout.proofs.SharedBoxes.{are_shared, shape_at, shape_len, start_at, start_len}

module _ (g : Grid) (index : List ℕ) where
  abbrev chunk : Box
  chunk = box_at g index

  pub chunk_start : (k : ℕ) → k < g.dimensions → slice_index chunk.start k ≡ start_along g index k
  unfolding box_at
  chunk_start k below = at_dimension g.dimensions (start_along g index) k below

  pub chunk_extent : (k : ℕ) → k < g.dimensions → slice_index chunk.shape k ≡ extent_along g index k
  unfolding box_at
  chunk_extent k below = at_dimension g.dimensions (extent_along g index) k below

  -- the interval of the chunk along a dimension, and its box there
  pub interval_start : (k start extent : ℕ) → k < g.dimensions → IsInterval (g.axis k) (slice_index index k) start extent → start ≡ slice_index chunk.start k
  interval_start k start extent below interval = let at = chunk_start k below in let b = interval.begins in omega arith

  pub interval_extent : (k start extent : ℕ) → k < g.dimensions → IsInterval (g.axis k) (slice_index index k) start extent → extent ≡ slice_index chunk.shape k
  interval_extent k start extent below interval = let at = chunk_extent k below in let b = interval.begins in let e = interval.ends in omega arith

  -- it ends below 2^64
  pub interval_fits : IsGrid g → (k start extent : ℕ) → k < g.dimensions → IsInterval (g.axis k) (slice_index index k) start extent → start + extent < 2 ^ 64
  interval_fits lawful k start extent below interval =
      let numbered = interval.numbered in
      let fits = edge_fits (g.axis k) (lawful k below) (slice_index index k + 1) (omega arith) in
      let ends = interval.ends in
      omega arith

  module _ (region : Box) where
    -- along the first n dimensions the chunk lies in the region
    abbrev pub LiesAlong : ℕ → Type 0
    LiesAlong n =
        (k : ℕ) → k < n
        → (slice_index region.start k ≤ slice_index chunk.start k) × (slice_index chunk.start k + slice_index chunk.shape k ≤ slice_index region.start k + slice_index region.shape k)

    pub lies_whole : (n : ℕ) → n ≡ g.dimensions → length region.start ≡ g.dimensions → LiesAlong n → LiesInBox chunk region
    lies_whole n all dimensions along = record {
      same_length = box_dimensions g index ∙ sym dimensions;
      starts = λ k below. (along k (omega arith)).0;
      ends = λ k below. (along k (omega arith)).1;
    }

    -- where what they share begins along a dimension, seen from the corner of the chunk, and as it lies in a box of the
    -- region's shape
    abbrev pub seen_start : ℕ → ℕ
    seen_start k = max (slice_index region.start k) (slice_index chunk.start k) - slice_index chunk.start k

    abbrev pub moved_start : Box → ℕ → ℕ
    moved_start own k = max (slice_index region.start k) (slice_index chunk.start k) - slice_index region.start k + slice_index own.start k

    -- what they share has this first coordinate, as it is told by `f`, and this extent
    pub record SharedAlong (f : ℕ → ℕ) (k x y : ℕ) : Type 0 where
      pub begins : x ≡ f k
      pub extent : y ≡ min (slice_index region.start k + slice_index region.shape k) (slice_index chunk.start k + slice_index chunk.shape k) - max (slice_index region.start k) (slice_index chunk.start k)
      pub some : 0 < y

    -- which lies between the first coordinate and the end that the code counts
    module _ (k region_end chunk_end first end : ℕ)
        (first_is : first ≡ max (slice_index region.start k) (slice_index chunk.start k)) (end_is : end ≡ min region_end chunk_end)
        (in_region : region_end ≡ slice_index region.start k + slice_index region.shape k) (in_chunk : chunk_end ≡ slice_index chunk.start k + slice_index chunk.shape k)
        (some : first < end) where
      pub seen_along : (corner : ℕ) → corner ≡ slice_index chunk.start k → SharedAlong seen_start k (first - corner) (end - corner - (first - corner))
      seen_along corner is = record { begins = omega arith; extent = omega arith; some = omega arith }

      pub moved_along : (own : Box) (from corner : ℕ) → from ≡ slice_index region.start k → corner ≡ slice_index own.start k
          → SharedAlong (moved_start own) k (first - from + corner) (end - from + corner - (first - from + corner))
      moved_along own from corner is at = record { begins = omega arith; extent = omega arith; some = omega arith }

    -- below n a box of the grid's dimensions has what they share, as it is told by `f`
    pub record SharedBelow (f : ℕ → ℕ) (box : Box) (n : ℕ) : Type 0 where
      pub start_long : length box.start ≡ g.dimensions
      pub shape_long : length box.shape ≡ g.dimensions
      pub each : (k : ℕ) → k < n → SharedAlong f k (slice_index box.start k) (slice_index box.shape k)

    pub below_none : (f : ℕ → ℕ) (box : Box) → IsLong box → length box.start ≡ g.dimensions → SharedBelow f box 0
    below_none f box long dimensions = record { start_long = dimensions; shape_long = sym long ∙ dimensions; each = λ k h. absurd (omega arith) }

    -- and along the next dimension
    pub below_set : (f : ℕ → ℕ) (box new : Box) (n x y : ℕ) → SharedBelow f box n → n < g.dimensions → SharedAlong f n x y
        → new.start ≡ set box.start n x → new.shape ≡ set box.shape n y → SharedBelow f new (n + 1)
    below_set f box new n x y below lt here start shape =
        let in_start : n < length box.start = omega (arith, below.start_long) in
        let in_shape : n < length box.shape = omega (arith, below.shape_long) in
        record {
          start_long = ap length start ∙ length-set box.start n x ∙ below.start_long;
          shape_long = ap length shape ∙ length-set box.shape n y ∙ below.shape_long;
          each = below_more _ _
              (λ k h.
              let other : k ≢ n = λ e. omega arith in
              rw (start, shape, get_or-set_other box.start n k x 0 other, get_or-set_other box.shape n k y 0 other) (below.each k h))
              (rw (start, shape, get_or-set_same box.start n x 0 in_start, get_or-set_same box.shape n y 0 in_shape) here);
        }

    pub pairs_of : (f : ℕ → ℕ) (box : Box) (n : ℕ) → n ≡ g.dimensions → SharedBelow f box n → PairsBelow (SharedAlong f) box.start box.shape n
    pairs_of f box n all below = record { start_long = below.start_long ∙ sym all; shape_long = below.shape_long ∙ sym all; each = below.each }

    module _ (long : IsLong region) (dimensions : length region.start ≡ g.dimensions) where
      same : length region.start ≡ length chunk.start
      same = dimensions ∙ sym (box_dimensions g index)

      -- along a dimension they share no coordinate
      pub apart_along : (k : ℕ) → k < g.dimensions
          → min (slice_index region.start k + slice_index region.shape k) (slice_index chunk.start k + slice_index chunk.shape k) ≤ max (slice_index region.start k) (slice_index chunk.start k)
          → AreApart region chunk
      apart_along k below none = λ position holds.
          let inside : k < length region.start = omega (arith, dimensions) in
          let shape = shape_at region chunk long (box_long g index) same k inside in
          let zero : slice_index (overlap_of region chunk).shape k ≡ 0 = omega arith in
          let len = shape_len region chunk long (box_long g index) same in
          let starts = start_len region chunk long (box_long g index) same in
          let out = in_box-empty (overlap_of region chunk).start (overlap_of region chunk).shape position k (starts ∙ sym len) (omega arith) zero in
          ap (λ b. b && in_box chunk position) (sym holds)
          ∙ sym (in_box-overlap region.start region.shape chunk.start chunk.shape position long (box_long g index) same)
          ∙ out

      module _ (f : ℕ → ℕ) (xs ys : List ℕ) (n : ℕ) (all : n ≡ g.dimensions) (pairs : PairsBelow (SharedAlong f) xs ys n) where
        -- the extents are those of what they share
        pub extents_are : ys ≡ (overlap_of region chunk).shape
        extents_are =
            let len = shape_len region chunk long (box_long g index) same in
            let ys_len = pairs.shape_long in
            same_number_lists ys (overlap_of region chunk).shape (omega (arith, dimensions))
            (λ k below.
            let inside : k < n = omega arith in
            let at = shape_at region chunk long (box_long g index) same k (omega (arith, dimensions)) in
            (pairs.each k inside).extent ∙ sym at)

        -- which has positions
        pub has_shared : AreShared region chunk (overlap_of region chunk) (seen_from (overlap_of region chunk) chunk.start)
        has_shared =
            are_shared region chunk long (box_long g index) same
            (λ k below zero.
            let len = shape_len region chunk long (box_long g index) same in
            let some = (pairs.each k (omega (arith, dimensions))).some in
            let at = (pairs.each k (omega (arith, dimensions))).extent in
            let shape = shape_at region chunk long (box_long g index) same k (omega (arith, dimensions)) in
            absurd (omega arith))

        -- as it is seen from the corner of the chunk
        pub seen_are : ((k : ℕ) → k < g.dimensions → f k ≡ max (slice_index region.start k) (slice_index chunk.start k) - slice_index chunk.start k)
            → AreShared region chunk (overlap_of region chunk) (record { start = xs; shape = ys })
        seen_are told =
            let starts = start_len region chunk long (box_long g index) same in
            let dims = box_dimensions g index in
            let xs_len = pairs.start_long in
            let corner : xs ≡ zip_with (λ s t. s - t) (overlap_of region chunk).start chunk.start =
            zip_with-from (λ s t. s - t) (overlap_of region chunk).start chunk.start xs (starts ∙ same) (omega (arith, dimensions))
            (λ k below.
            let inside : k < g.dimensions = omega (arith, dimensions) in
            let at = start_at region chunk long (box_long g index) same k (omega (arith, dimensions)) in
            (pairs.each k (omega arith)).begins ∙ told k inside ∙ ap (λ s. s - slice_index chunk.start k) (sym at)) in
            let is : seen_from (overlap_of region chunk) chunk.start ≡ record { start = xs; shape = ys } =
            ap (λ s. record { start = s; shape = (overlap_of region chunk).shape }) (sym corner) ∙ ap (λ s. record { start = xs; shape = s }) (sym extents_are) in
            subst (λ (b : Box). AreShared region chunk (overlap_of region chunk) b) is has_shared

        -- as it lies in a box of the region's shape
        pub moved_are : (own : Box) → IsLong own → own.shape ≡ region.shape
            → ((k : ℕ) → k < g.dimensions → f k ≡ max (slice_index region.start k) (slice_index chunk.start k) - slice_index region.start k + slice_index own.start k)
            → IsSharedIn own region chunk (record { start = xs; shape = ys })
        moved_are own own_long shapes told =
            let starts = start_len region chunk long (box_long g index) same in
            let xs_len = pairs.start_long in
            let own_len : length own.start ≡ length region.start = own_long ∙ ap length shapes ∙ sym long in
            let seen = zip_with (λ s t. s - t) (overlap_of region chunk).start region.start in
            let seen_len : length seen ≡ length region.start = length-zip_with (λ s t. s - t) (overlap_of region chunk).start region.start starts ∙ starts in
            let corner : xs ≡ zip_with (λ s t. s + t) seen own.start =
            zip_with-from (λ s t. s + t) seen own.start xs (seen_len ∙ sym own_len) (omega (arith, dimensions))
            (λ k below.
            let inside : k < g.dimensions = omega (arith, dimensions) in
            let first = start_at region chunk long (box_long g index) same k (omega (arith, dimensions)) in
            let at = zip_with-at (λ s t. s - t) (overlap_of region chunk).start region.start k (omega (arith, dimensions)) (omega (arith, dimensions)) in
            (pairs.each k (omega arith)).begins ∙ told k inside ∙ ap (λ s. s - slice_index region.start k + slice_index own.start k) (sym first) ∙ ap (λ s. s + slice_index own.start k) (sym at)) in
            let is : shifted_box (seen_from (overlap_of region chunk) region.start) own.start ≡ record { start = xs; shape = ys } =
            ap (λ s. record { start = s; shape = (overlap_of region chunk).shape }) (sym corner) ∙ ap (λ s. record { start = xs; shape = s }) (sym extents_are) in
            record { made_is = sym is; shared = has_shared }

        -- the ends fit
        pub ends_along : ((k : ℕ) → k < n → f k + (min (slice_index region.start k + slice_index region.shape k) (slice_index chunk.start k + slice_index chunk.shape k)
            - max (slice_index region.start k) (slice_index chunk.start k)) < 2 ^ 64) → EndsFit xs ys
        ends_along fit =
            EndsFit-below xs ys (pairs.start_long ∙ sym pairs.shape_long)
            (λ k below.
            let inside : k < n = omega (arith, pairs.start_long) in
            let e = (pairs.each k inside).extent in
            let b = (pairs.each k inside).begins in
            let f = fit k inside in
            omega arith)
