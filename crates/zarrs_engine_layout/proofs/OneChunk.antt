-- Regions that are one chunk, and the cells of a region's data.
use Rattle.std.proofs.Common.{◌≡◌, ◌↔◌, ◌==◌, ◌&&◌, ◌<◌, ◌≤◌, ◌+◌, ◌-◌, ◌*◌, not, ℕ, zero, suc, Bool, true, false, cond, List, [], ◌∷◌, length, map, slice_index}
use Rattle.std.proofs.Common.{IsTrue, replicate, refl, sym, ◌∙◌, ap, subst, inl, inr, arith}
use Rattle.std.specs.List.{SomeIndex, flat_map, range_with_len}
use Rattle.std.proofs.lemmas.List.{append-nil}
use Rattle.std.specs.Str.{bytes_eq}
use Rattle.std.proofs.lemmas.Bool.{and_from, and_parts, cases_Bool, eq-eqb, false≢true}
use Rattle.std.proofs.lemmas.Slice.Eq.{bytes_eq-Decides}
use Rattle.std.proofs.lemmas.List.Folds.{list_any_at}
use Rattle.zarrs_subset.specs.Boxes.{position_count, positions_from}
use Rattle.zarrs_subset.specs.Regions.{Box, Holds, IsLong, box_eq, box_from, empty_box, positions, LiesInBox}
use Rattle.zarrs_subset.proofs.Bytes.{along_holds, holds_along}
use Rattle.zarrs_chunk_grid.specs.Axes.{Covers}
use Rattle.zarrs_chunk_grid.specs.Grids.{Grid, IsGrid, box_at, each_dimension, extent_along, start_along, first_met, amount_met, has_box, index_at, met}
use Rattle.zarrs_chunk_grid.proofs.AxisLemmas.{covered_below, covers_once}
use Rattle.zarrs_chunk_grid.proofs.Chunks.{box_is_there, box_long, box_dimensions, covered_holds}
use Rattle.zarrs_chunk_grid.proofs.MetChunks.{MetAt, at_dimension, met_from_walk, walk_is_met}
use Rattle.zarrs_chunk_grid.proofs.Walks.{PairsBelow}
use Rattle.zarrs_data_type.specs.Kind.{kind}
use Rattle.zarrs_data_type.specs.ArrayData.{ArrayData}
use Rattle.zarrs_data_type.specs.Cells.{HasCells, count_of}
use Rattle.zarrs_data_type_kinds.specs.declared.data_type.DataType.{DataType}
use Rattle.zarrs_data_type_kinds.proofs.Sizes.{element_size-positive}
use Rattle.zarrs_data_type_bytes.proofs.Cells.{HasCells-parts, count_of-fits}
use Rattle.zarrs_engine_calls.specs.ChunkBoxes.{CoversBox, is_empty, is_one_chunk, last_of}
use Rattle.zarrs_engine_calls.proofs.Contents.{member, only_member}
use Rattle.zarrs_engine_calls.proofs.Covers.{last_at, last_held, some_extent}
use Rattle.zarrs_engine_calls.specs.Layout.{Layout, IsLawful}
use Rattle.zarrs_engine_layout.specs.Covers.{CoverRegion, IsInChunk}
use Rattle.zarrs_engine_layout.proofs.RegionRefusals.{no_extent, region_accepted, region_cover}

-- ---- empty boxes

pub empty_is : (box : Box) → SomeIndex box.shape (λ k. slice_index box.shape k ≡ 0) → is_empty box ≡ true
empty_is box at = list_any_at (λ extent. extent == 0) box.shape at.0 0 at.1 (eq-eqb _ _ at.2)

pub not_empty : (box : Box) → (SomeIndex box.shape (λ k. slice_index box.shape k ≡ 0) → ⊥) → is_empty box ≡ false
not_empty box some = elim (cases_Bool (is_empty box)) [
  | inl is ↦ absurd (some (no_extent box.shape is))
  | inr is_not ↦ is_not
]

-- ---- the first chunk that a region meets

-- its indices are those of the chunk that holds the region's first position
pub first_chunk : (grid : Grid) (region : Box) → is_empty region ≡ false → (met grid region).start ≡ index_at grid region.start
unfolding met index_at
first_chunk grid region some =
    ap (λ b. (cond b (empty_box grid.dimensions) (record { start = each_dimension grid.dimensions (first_met grid region); shape = each_dimension grid.dimensions (amount_met grid region) })).start) some

region_first : (region : Box) → IsLong region → is_empty region ≡ false → Holds region region.start
region_first region long some = along_holds region region.start long (record {
  same_length = refl;
  from = λ k below. omega arith;
  below = λ k below. let e = some_extent region.shape k some (omega (arith, long)) in omega arith;
})

pub first_boxed : (grid : Grid) (region : Box) (chunks : List (List ℕ)) → CoverRegion grid region chunks → is_empty region ≡ false → has_box grid (index_at grid region.start) ≡ true
first_boxed grid region chunks cover some =
    let holds = region_first region cover.long some in
    cover.boxed (index_at grid region.start) (cover.listed region.start holds)

-- the region is that chunk's box, or not
pub one_empty : (grid : Grid) (region : Box) → is_empty region ≡ true → is_one_chunk grid region ≡ false
one_empty grid region empty = ap (λ b. not b && box_eq region (box_at grid (index_at grid region.start))) empty

pub one_some : (grid : Grid) (region : Box) (index : List ℕ) (chunk : Box) → is_empty region ≡ false → index ≡ index_at grid region.start → chunk ≡ box_at grid index → is_one_chunk grid region ≡ box_eq region chunk
one_some grid region index chunk some is at =
    ap (λ b. not b && box_eq region (box_at grid (index_at grid region.start))) some
    ∙ ap (λ b. box_eq region b) (sym (at ∙ ap (box_at grid) is))

-- two boxes are one or not
box_same : (a b : Box) → box_eq a b ≡ true → a ≡ b
box_same a b same =
    let parts = and_parts (bytes_eq a.start b.start) (bytes_eq a.shape b.shape) same in
    let starts = (bytes_eq-Decides a.start b.start).0 parts.0 in
    let shapes = (bytes_eq-Decides a.shape b.shape).0 parts.1 in
    ap (λ start. box_from start a.shape) starts ∙ ap (λ shape. box_from b.start shape) shapes

same_box : (a b : Box) → a ≡ b → box_eq a b ≡ true
same_box a b is =
    and_from (bytes_eq a.start b.start) (bytes_eq a.shape b.shape)
    ((bytes_eq-Decides a.start b.start).1 (ap (λ (x : Box). x.start) is))
    ((bytes_eq-Decides a.shape b.shape).1 (ap (λ (x : Box). x.shape) is))

pub box_test : (a b : Box) (result : Bool) → IsTrue result ↔ (a ≡ b) → result ≡ box_eq a b
box_test a b true test = sym (same_box a b (test.0 refl))
box_test a b false test = elim (cases_Bool (box_eq a b)) [
  | inl same ↦ absurd (false≢true (test.1 (box_same a b same)))
  | inr apart ↦ sym apart
]

-- ---- chunks that a region covers

module _ (grid : Grid) (lawful : IsGrid grid) (index : List ℕ) (has : has_box grid index ≡ true) where
  extent_some : (k : ℕ) → k < grid.dimensions → 0 < slice_index (box_at grid index).shape k
  unfolding box_at
  extent_some k below =
      let there = box_is_there grid index has in
      let rises = (lawful k below).ascends (slice_index index k) (there.numbered k below) in
      let at = at_dimension grid.dimensions (extent_along grid index) k below in
      omega arith

  chunk_some : is_empty (box_at grid index) ≡ false
  chunk_some = not_empty (box_at grid index) (λ zero_at.
      let below = zero_at.1 in
      let none = zero_at.2 in
      let positive = extent_some zero_at.0 (omega (arith, box_long grid index, box_dimensions grid index)) in
      omega arith)

  -- a chunk has a first position
  pub first_held : Holds (box_at grid index) (box_at grid index).start
  first_held =
      let box = box_at grid index in
      along_holds box box.start (box_long grid index) (record {
        same_length = refl;
        from = λ k below. omega arith;
        below = λ k below. let e = extent_some k (omega (arith, box_dimensions grid index)) in omega arith;
      })

  -- a region that has each position of a chunk has its start and its end
  pub covers_lies : (region : Box) → IsLong region → length region.start ≡ grid.dimensions → CoversBox region (box_at grid index) → LiesInBox (box_at grid index) region
  covers_lies region long dimensions covers =
      let box = box_at grid index in
      let box_is_long = box_long grid index in
      let count = box_dimensions grid index in
      let first = holds_along region box.start long (covers box.start first_held) in
      let last = holds_along region (last_of box) long (covers (last_of box) (last_held grid lawful box box_is_long chunk_some)) in
      record {
        same_length = count ∙ sym dimensions;
        starts = λ k below. first.from k below;
        ends = λ k below.
            let e = extent_some k (omega (arith, dimensions)) in
            let at = last_at box.start box.shape k box_is_long (omega (arith, count, dimensions)) in
            let b = last.below k below in
            omega arith;
      }

  -- a region that no other chunk has a position of lies in the chunk
  pub region_lies : (region : Box) → CoverRegion grid region (index ∷ []) → is_empty region ≡ false → LiesInBox region (box_at grid index)
  region_lies region cover some =
      let box = box_at grid index in
      let box_is_long = box_long grid index in
      let in_box : (position : List ℕ) → Holds region position → Holds box position =
      (λ position holds. subst (λ i. Holds (box_at grid i) position) (only_member index (index_at grid position) (cover.listed position holds))
      (covered_holds grid lawful position (cover.covered position holds))) in
      let first = holds_along box region.start box_is_long (in_box region.start (region_first region cover.long some)) in
      let last = holds_along box (last_of region) box_is_long (in_box (last_of region) (last_held grid lawful region cover.long some)) in
      record {
        same_length = cover.dimensions ∙ sym (box_dimensions grid index);
        starts = λ k below. first.from k below;
        ends = λ k below.
            let e = some_extent region.shape k some (omega (arith, cover.long, cover.dimensions, box_dimensions grid index)) in
            let at = last_at region.start region.shape k cover.long (omega (arith, cover.dimensions, box_dimensions grid index)) in
            let b = last.below k below in
            omega arith;
      }

-- where a chunk begins along a dimension, and its extent there
box_start_along : (grid : Grid) (index : List ℕ) (k : ℕ) → k < grid.dimensions → slice_index (box_at grid index).start k ≡ start_along grid index k
unfolding box_at
box_start_along grid index k within = at_dimension grid.dimensions (start_along grid index) k within

box_extent_along : (grid : Grid) (index : List ℕ) (k : ℕ) → k < grid.dimensions → slice_index (box_at grid index).shape k ≡ extent_along grid index k
unfolding box_at
box_extent_along grid index k within = at_dimension grid.dimensions (extent_along grid index) k within

-- ---- ranges of one chunk

product_one : (e m : ℕ) → e * m ≡ 1 → (e ≡ 1) × (m ≡ 1)
product_one zero m is = absurd (omega arith)
product_one (suc zero) m is = (refl, omega arith)
product_one (suc (suc e)) zero is = let none : e * 0 ≡ 0 = omega arith in absurd (omega arith)
product_one (suc (suc e)) (suc m) is = absurd (omega arith)

-- a box of one position has its start alone
pub only_position : (start shape : List ℕ) → length start ≡ length shape → position_count shape ≡ 1 → positions_from start shape ≡ start ∷ []
only_position [] [] long one = refl
only_position [] (e ∷ shape) long one = absurd (omega arith)
only_position (s ∷ start) [] long one = absurd (omega arith)
only_position (s ∷ start) (e ∷ shape) long one =
    let parts = product_one e (position_count shape) one in
    ap (λ n. flat_map (λ i. map (λ p. i ∷ p) (positions_from start shape)) (range_with_len s n)) parts.0
    ∙ append-nil (map (λ p. s ∷ p) (positions_from start shape))
    ∙ ap (map (λ p. s ∷ p)) (only_position start shape (omega arith) parts.1)

ones : (n : ℕ) → position_count (replicate n 1) ≡ 1
ones zero = refl
ones (suc n) = ap (λ c. 1 * c) (ones n)

-- a region that meets one chunk along each dimension lies in that one
pub only_chunk_met : (layout : Layout) → IsLawful layout → (shape : List ℕ) (region : Box) → IsLong region → length region.start ≡ layout.grid.dimensions
    → (SomeIndex region.shape (λ k. slice_index region.shape k ≡ 0) → ⊥) → (index : List ℕ) (n : ℕ) → n ≡ layout.grid.dimensions
    → PairsBelow (MetAt layout.grid region) index (replicate n 1) n → IsInChunk layout shape region index
only_chunk_met layout lawful shape region long dimensions filled index n all walk =
    let box = box_from index (replicate n 1) in
    let box_long : IsLong box = walk.start_long ∙ sym walk.shape_long in
    let is_met = met_from_walk layout.grid lawful.grid region dimensions index (replicate n 1) n (omega arith) (omega arith) walk in
    let some : (k : ℕ) → k < length region.shape → 0 < slice_index region.shape k = λ k below. (let here : slice_index region.shape k ≡ 0 → ⊥ = λ z. filled (k, below, z) in omega arith) in
    let is : box ≡ met layout.grid region = walk_is_met layout.grid lawful.grid region dimensions index (replicate n 1) n (omega arith) (omega arith) walk (sym long) some in
    let only : positions box ≡ index ∷ [] = only_position index (replicate n 1) box_long (ones n) in
    record {
      some = not_empty region filled;
      accepted = region_accepted layout lawful shape region long box box_long dimensions is_met;
      met = ap positions (sym is) ∙ only;
      cover = subst (λ (l : List (List ℕ)). CoverRegion layout.grid region l) only (region_cover layout lawful shape region long box box_long dimensions is_met);
    }

-- a region that lies in a chunk lies in it along each dimension
module _ (layout : Layout) (lawful : IsLawful layout) (shape : List ℕ) (region : Box) (index : List ℕ) (lies : IsInChunk layout shape region index) (k : ℕ) (within : k < layout.grid.dimensions) where
  pub extent_in_chunk : 0 < slice_index region.shape k
  extent_in_chunk = some_extent region.shape k lies.some (omega (arith, lies.cover.long, lies.cover.dimensions))

  interval_held : (Covers (layout.grid.axis k) (slice_index index k) (slice_index region.start k))
      × (Covers (layout.grid.axis k) (slice_index index k) (slice_index region.start k + slice_index region.shape k - 1))
  interval_held =
      let grid = layout.grid in
      let has = lies.cover.boxed index (member index) in
      let numbered = (box_is_there grid index has).numbered k within in
      let inside = region_lies grid lawful.grid index has region lies.cover lies.some in
      let below : k < length (box_at grid index).start = omega (arith, box_long grid index, box_dimensions grid index) in
      let from = inside.starts k below in
      let upto = inside.ends k below in
      let start = box_start_along grid index k within in
      let extent = box_extent_along grid index k within in
      let rises = (lawful.grid k within).ascends (slice_index index k) numbered in
      let some = extent_in_chunk in (
        record { numbered = numbered; from = omega arith; below = omega arith },
        record { numbered = numbered; from = omega arith; below = omega arith },
      )

  -- so it meets one chunk there
  pub one_met_along : (first amount : ℕ) → MetAt layout.grid region k first amount → amount ≡ 1
  one_met_along first amount met =
      let axis = layout.grid.axis k in
      let held = interval_held in
      let first_is = covers_once axis (lawful.grid k within) first (slice_index index k) (slice_index region.start k) met.from held.0 in
      let last_is = covers_once axis (lawful.grid k within) (first + amount - 1) (slice_index index k) (slice_index region.start k + slice_index region.shape k - 1) met.upto held.1 in
      let some = met.some in
      omega arith

  -- and no coordinate of it passes the last edge
  pub no_end_in_chunk : (layout.grid.axis k).edge (layout.grid.axis k).count ≤ slice_index region.start k + slice_index region.shape k - 1 → ⊥
  no_end_in_chunk past =
      let before = covered_below (layout.grid.axis k) (lawful.grid k within) (slice_index index k) (slice_index region.start k + slice_index region.shape k - 1) interval_held.1 in
      omega arith

-- ---- the cells of data

-- data of so many cells counts as many
pub cells_counted : (type : DataType) (held : ArrayData) (n : ℕ) → HasCells (kind type) held n → count_of (kind type) held ≡ n
cells_counted type held n has = count_of-fits (kind type) held n (element_size-positive type) (HasCells-parts (kind type) held n has).0
