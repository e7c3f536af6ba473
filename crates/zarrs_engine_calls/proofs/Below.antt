-- Positions below a shape, and chunks that a shape cuts.
use Rattle.std.proofs.Common.{◌≡◌, ◌<◌, ◌≤◌, ◌&&◌, ℕ, true, false, not, List, length, slice_index}
use Rattle.std.proofs.Common.{sym, ◌∙◌, ap, inl, inr, arith}
use Rattle.std.proofs.lemmas.Bool.{cases_Bool, false≢true}
use Rattle.std.proofs.lemmas.List.{get_or-replicate, length-replicate}
use Rattle.std.proofs.lemmas.List.Folds.{list_any_none}
use Rattle.std.proofs.lemmas.List.FromFn.{length-map-range_with_len}
use Rattle.std.specs.Prelude.{◌+◌, ◌-◌, ◌==◌}
use Rattle.zarrs_subset.specs.Regions.{Box, IsLong, Holds, box_at_origin}
use Rattle.zarrs_subset.proofs.Bytes.{along_holds, holds_along}
use Rattle.zarrs_subset.proofs.Overlaps.{length-zip_with}
use Rattle.zarrs_chunk_grid.specs.Grids.{Grid, IsGrid, box_at, has_box, extent_along}
use Rattle.zarrs_chunk_grid.proofs.Chunks.{box_is_there, box_long}
use Rattle.zarrs_chunk_grid.proofs.MetChunks.{all_some, at_dimension}
use Rattle.zarrs_engine_calls.specs.ChunkBoxes.{is_empty, last_of}
use Rattle.zarrs_engine_calls.specs.Cuts.{is_below, is_cut, keeps_some}
use Rattle.zarrs_engine_calls.specs.Laws.{AreCutRight, CutsAreRight}
use Rattle.zarrs_engine_calls.proofs.Covers.{last_at, last_held}
use Rattle.zarrs_engine_calls.proofs.Shapes.{first_held}

origin_long : (shape : List ℕ) → IsLong (box_at_origin shape)
origin_long shape = length-replicate {A = ℕ} (length shape) 0

-- a position below the shape, one dimension at a time
pub record IsBelow (shape position : List ℕ) : Type 0 where
  pub same_length : length position ≡ length shape
  pub below : (k : ℕ) → k < length shape → slice_index position k < slice_index shape k

pub below_along : (shape position : List ℕ) → is_below shape position ≡ true → IsBelow shape position
below_along shape position h =
    let inside = holds_along (box_at_origin shape) position (origin_long shape) h in
    let long = origin_long shape in
    record {
      same_length = inside.same_length ∙ long;
      below = λ k within.
          let b = inside.below k (omega (arith, long)) in
          let zero : slice_index (box_at_origin shape).start k ≡ 0 = get_or-replicate (length shape) k 0 0 within in
          omega arith;
    }

pub along_below : (shape position : List ℕ) → IsBelow shape position → is_below shape position ≡ true
along_below shape position b =
    let long = origin_long shape in
    along_holds (box_at_origin shape) position long (record {
      same_length = b.same_length ∙ sym long;
      from = λ k within. let zero : slice_index (box_at_origin shape).start k ≡ 0 = get_or-replicate (length shape) k 0 0 (omega (arith, long)) in omega arith;
      below = λ k within.
          let zero : slice_index (box_at_origin shape).start k ≡ 0 = get_or-replicate (length shape) k 0 0 (omega (arith, long)) in
          let h = b.below k (omega (arith, long)) in
          omega arith;
    })

-- what is not more than a position below the shape is below it
pub lower_below : (shape low position : List ℕ) → length low ≡ length position → ((k : ℕ) → k < length position → slice_index low k ≤ slice_index position k) → is_below shape position ≡ true → is_below shape low ≡ true
lower_below shape low position long less h =
    let b = below_along shape position h in
    along_below shape low (record {
      same_length = long ∙ b.same_length;
      below = λ k within. let x = b.below k within in let y = less k (omega (arith, b.same_length)) in omega arith;
    })

-- the box of a chunk has positions
pub box_some : (grid : Grid) → IsGrid grid → (index : List ℕ) → has_box grid index ≡ true → is_empty (box_at grid index) ≡ false
unfolding box_at
box_some grid lawful index has =
    let there = box_is_there grid index has in
    let long = length-map-range_with_len (extent_along grid index) 0 grid.dimensions in
    list_any_none (λ extent. extent == 0) (box_at grid index).shape (all_some (box_at grid index).shape (λ k below.
    let within : k < grid.dimensions = omega (arith, long) in
    let rises = (lawful k within).ascends _ (there.numbered k within) in
    rw (at_dimension grid.dimensions (extent_along grid index) k within) (omega arith)))

module _ (grid : Grid) (lawful : IsGrid grid) (shape index : List ℕ) (has : has_box grid index ≡ true) where
  box : Box
  box = box_at grid index

  -- a position of the chunk lies between its first and its last one
  pub first_below : (position : List ℕ) → Holds (box_at grid index) position → is_below shape position ≡ true → keeps_some grid shape index ≡ true
  first_below position holds =
      let inside = holds_along (box_at grid index) position (box_long grid index) holds in
      lower_below shape (box_at grid index).start position (sym inside.same_length) (λ k within. inside.from k (omega (arith, inside.same_length)))

  last_long : length (last_of (box_at grid index)) ≡ length (box_at grid index).start
  last_long = length-zip_with (λ s e. s + e - 1) (box_at grid index).start (box_at grid index).shape (box_long grid index)

  pub last_below : (position : List ℕ) → Holds (box_at grid index) position → is_below shape (last_of (box_at grid index)) ≡ true → is_below shape position ≡ true
  last_below position holds =
      let inside = holds_along (box_at grid index) position (box_long grid index) holds in
      lower_below shape position (last_of (box_at grid index)) (inside.same_length ∙ sym last_long) (λ k within.
      let here : k < length (box_at grid index).start = omega (arith, last_long) in
      let at = last_at (box_at grid index).start (box_at grid index).shape k (box_long grid index) here in
      let b = inside.below k here in
      omega arith)

  -- a chunk that has a position that is not below the shape is cut
  pub past_cuts : (position : List ℕ) → Holds (box_at grid index) position → is_below shape position ≡ false → is_cut grid shape index ≡ true
  past_cuts position holds past = elim (cases_Bool (is_below shape (last_of (box_at grid index)))) [
    | inl all ↦ absurd (false≢true (sym past ∙ last_below position holds all))
    | inr some ↦ ap (λ b. b && not (is_below shape (last_of (box_at grid index)))) has ∙ ap not some
  ]

  cut_last : is_cut grid shape index ≡ true → is_below shape (last_of (box_at grid index)) ≡ false
  cut_last cut = elim (cases_Bool (is_below shape (last_of (box_at grid index)))) [
    | inr some ↦ some
    | inl all ↦
        let clash : false ≡ true = sym (ap (λ b. b && not (is_below shape (last_of (box_at grid index)))) has ∙ ap not all) ∙ cut in
        absurd (false≢true clash)
  ]

  pub cut_right : AreCutRight grid shape index
  cut_right = record {
    cut = (λ cut. (last_of (box_at grid index), last_held grid lawful (box_at grid index) (box_long grid index) (box_some grid lawful index has), cut_last cut), λ some. past_cuts some.0 some.1 some.2);
    kept = (λ kept. ((box_at grid index).start, first_held grid lawful index has, kept), λ some. first_below some.0 some.1 some.2);
  }

pub cuts_right : CutsAreRight
cuts_right grid lawful shape index long has = cut_right grid lawful shape index has
