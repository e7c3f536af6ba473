-- Chunks by the words of the layer above: has_box, box_at, index_at, is_covered.
use Rattle.std.proofs.Common.{◌≡◌, ℕ, zero, suc, ◌+◌, ◌-◌, ◌<◌, ◌≤◌, ◌^◌, ◌==◌, nat_lt, true, false, List, length}
use Rattle.std.proofs.Common.{get_or, slice_index, Some, None, option_map, ap, slice_get, Contains, eq-eqb}
use Rattle.std.proofs.Common.{refl, sym, ◌∙◌, subst, inl, inr, arith}
use Rattle.std.proofs.lemmas.Bool.{cases_Bool, and_parts, and_from, ltb-true, lt-ltb, cases_lt}
use Rattle.std.proofs.lemmas.Map.Views.{exact_unsigned_eq}
use Rattle.std.proofs.lemmas.List.{get_or_past}
use Rattle.std.proofs.lemmas.Option.{slice_get_within, get_or_from_slice_get}
use Rattle.std.proofs.lemmas.List.FromFn.{length-map-range_with_len}
use Rattle.zarrs_subset.specs.Boxes.{positions_from, place, offset_from}
use Rattle.zarrs_subset.specs.Regions.{Box, IsLong, Holds, IsBox}
use Rattle.zarrs_subset.proofs.Bytes.{holds_along, along_holds}
use Rattle.zarrs_subset.proofs.Positions.{positions_in, positions_all}
use Rattle.zarrs_chunk_grid.specs.Grids.{Grid, IsGrid, InChunk, Meets, IsMet, each_dimension, index_at, box_at, HasBox}
use Rattle.zarrs_chunk_grid.specs.Grids.{has_box, chunk_box, numbered_along, covered_along, is_covered, start_along, extent_along}
use Rattle.zarrs_chunk_grid.proofs.AxisLemmas.{covered_below, count_fits, edge_fits}
use Rattle.zarrs_chunk_grid.proofs.Walks.{ChunkSoFar, AlongChunk}
use Rattle.zarrs_chunk_grid.proofs.MetChunks.{at_dimension, index_at_covers, index_is, same_box}

along_parts : (g : Grid) (position : List ℕ) (n : ℕ) → covered_along g position n ≡ true → (k : ℕ) → k < n → slice_index position k < (g.axis k).edge (g.axis k).count
unfolding covered_along
along_parts g position zero h k below = absurd (omega arith)
along_parts g position (suc n) h k below =
    let parts = and_parts (nat_lt (slice_index position n) ((g.axis n).edge (g.axis n).count)) (covered_along g position n) h in
    elim (cases_lt k n) [
      | inl before ↦ along_parts g position n parts.1 k before
      | inr last ↦
          let is : n ≡ k = omega arith in
          subst (λ k. slice_index position k < (g.axis k).edge (g.axis k).count) is (ltb-true _ _ parts.0)
    ]

along_from : (g : Grid) (position : List ℕ) (n : ℕ) → ((k : ℕ) → k < n → slice_index position k < (g.axis k).edge (g.axis k).count) → covered_along g position n ≡ true
unfolding covered_along
along_from g position zero h = refl
along_from g position (suc n) h =
    and_from (nat_lt (slice_index position n) ((g.axis n).edge (g.axis n).count)) (covered_along g position n)
    (lt-ltb _ _ (h n (omega arith))) (along_from g position n (λ k below. h k (omega arith)))

numbered_parts : (g : Grid) (indices : List ℕ) (n : ℕ) → numbered_along g indices n ≡ true → (k : ℕ) → k < n → slice_index indices k < (g.axis k).count
unfolding numbered_along
numbered_parts g indices zero h k below = absurd (omega arith)
numbered_parts g indices (suc n) h k below =
    let parts = and_parts (nat_lt (slice_index indices n) (g.axis n).count) (numbered_along g indices n) h in
    elim (cases_lt k n) [
      | inl before ↦ numbered_parts g indices n parts.1 k before
      | inr last ↦
          let is : n ≡ k = omega arith in
          subst (λ k. slice_index indices k < (g.axis k).count) is (ltb-true _ _ parts.0)
    ]

numbered_from : (g : Grid) (indices : List ℕ) (n : ℕ) → ((k : ℕ) → k < n → slice_index indices k < (g.axis k).count) → numbered_along g indices n ≡ true
unfolding numbered_along
numbered_from g indices zero h = refl
numbered_from g indices (suc n) h =
    and_from (nat_lt (slice_index indices n) (g.axis n).count) (numbered_along g indices n)
    (lt-ltb _ _ (h n (omega arith))) (numbered_from g indices n (λ k below. h k (omega arith)))

-- the two forms of "there is such a chunk"
pub has_box_is : (g : Grid) (indices : List ℕ) → HasBox g indices → has_box g indices ≡ true
unfolding has_box
has_box_is g indices has =
    and_from (length indices == g.dimensions) (numbered_along g indices g.dimensions) (eq-eqb _ _ has.long) (numbered_from g indices g.dimensions has.numbered)

pub box_is_there : (g : Grid) (indices : List ℕ) → has_box g indices ≡ true → HasBox g indices
unfolding has_box
box_is_there g indices h =
    let parts = and_parts (length indices == g.dimensions) (numbered_along g indices g.dimensions) h in
    record { long = exact_unsigned_eq _ _ parts.0; numbered = numbered_parts g indices g.dimensions parts.1 }

-- there is no such chunk if some dimension has none of that number
pub no_box : (g : Grid) (indices : List ℕ) (k : ℕ) → k < g.dimensions → (g.axis k).count ≤ slice_index indices k → has_box g indices ≡ false
no_box g indices k within past =
    elim (cases_Bool (has_box g indices)) [
      | inl there ↦ absurd (let below = (box_is_there g indices there).numbered k within in omega arith)
      | inr none ↦ none
    ]

-- the chunk's box as one option, and what is read off it
pub some_chunk : {A : Type 0} (g : Grid) (indices : List ℕ) (f : Box → A) (x : A) → has_box g indices ≡ true
    → x ≡ f (box_at g indices) → Some x ≡ option_map f (chunk_box g indices)
some_chunk g indices f x there is = rw there (ap (λ y. Some y) is)

pub no_chunk : {A : Type 0} (g : Grid) (indices : List ℕ) (f : Box → A) → has_box g indices ≡ false
    → None ≡ option_map f (chunk_box g indices)
no_chunk g indices f none = rw none refl

-- what a walk over all dimensions has made is the chunk's box
pub chunk_whole : (g : Grid) (indices start shape : List ℕ) (n : ℕ) → n ≡ g.dimensions → ChunkSoFar g indices start shape n → record { start = start; shape = shape } ≡ box_at g indices
unfolding box_at
chunk_whole g indices start shape n whole so_far =
    same_box (record { start = start; shape = shape }) (box_at g indices)
    (subst (λ n. start ≡ each_dimension n (start_along g indices)) whole so_far.start_is)
    (subst (λ n. shape ≡ each_dimension n (extent_along g indices)) whole so_far.shape_is)

pub chunk_there : (g : Grid) (indices start shape : List ℕ) (n : ℕ) → n ≡ g.dimensions → length indices ≡ n → ChunkSoFar g indices start shape n → has_box g indices ≡ true
chunk_there g indices start shape n whole long so_far =
    has_box_is g indices (record { long = long ∙ whole; numbered = λ k below. so_far.numbered k (omega arith) })

-- the same of one list alone
module _ (g : Grid) (indices xs : List ℕ) (n : ℕ) (whole : n ≡ g.dimensions) where
  pub along_there : (f : ℕ → ℕ) → length indices ≡ n → AlongChunk g indices f xs n → has_box g indices ≡ true
  along_there f long along =
      has_box_is g indices (record { long = long ∙ whole; numbered = λ k below. along.numbered k (omega arith) })

  pub start_whole : AlongChunk g indices (start_along g indices) xs n → xs ≡ (box_at g indices).start
  unfolding box_at
  start_whole along = subst (λ n. xs ≡ each_dimension n (start_along g indices)) whole along.values

  pub shape_whole : AlongChunk g indices (extent_along g indices) xs n → xs ≡ (box_at g indices).shape
  unfolding box_at
  shape_whole along = subst (λ n. xs ≡ each_dimension n (extent_along g indices)) whole along.values

pub index_long : (g : Grid) (position : List ℕ) → length (index_at g position) ≡ g.dimensions
unfolding index_at
index_long g position = length-map-range_with_len _ 0 g.dimensions

pub box_long : (g : Grid) (indices : List ℕ) → IsLong (box_at g indices)
unfolding box_at
box_long g indices = length-map-range_with_len _ 0 g.dimensions ∙ sym (length-map-range_with_len _ 0 g.dimensions)

pub box_dimensions : (g : Grid) (indices : List ℕ) → length (box_at g indices).start ≡ g.dimensions
unfolding box_at
box_dimensions g indices = length-map-range_with_len _ 0 g.dimensions

module _ (g : Grid) (l : IsGrid g) where
  -- the box of a chunk is a box
  pub box_is_box : (indices : List ℕ) → has_box g indices ≡ true → IsBox (box_at g indices)
  unfolding box_at
  box_is_box indices there =
      let has = box_is_there g indices there in
      let long = length-map-range_with_len (start_along g indices) 0 g.dimensions in
      record {
        same_length = sym (box_long g indices);
        ends_fit = λ k below.
            let inside : k < g.dimensions = omega (arith, long) in
            let numbered = has.numbered k inside in
            let rises = (l k inside).ascends _ numbered in
            let fits = edge_fits _ (l k inside) (slice_index indices k + 1) (omega arith) in
            rw (at_dimension g.dimensions (start_along g indices) k inside, at_dimension g.dimensions (extent_along g indices) k inside) (omega arith);
      }

  -- each index list of a chunk has numbers that fit u64
  pub box_words : (indices : List ℕ) → HasBox g indices → (k : ℕ) → slice_index indices k < 2 ^ 64
  box_words indices has k =
      elim (cases_lt k g.dimensions) [
        | inl below ↦ let n = has.numbered k below in let fits = count_fits _ (l k below) in omega arith
        | inr past ↦ let none : get_or indices k 0 ≡ 0 = get_or_past indices k 0 (let long = has.long in omega arith) in omega arith
      ]

  -- the chunk of a covered position
  pub covered_chunk : (position : List ℕ) → is_covered g position ≡ true → InChunk g (index_at g position) position
  unfolding is_covered
  covered_chunk position h =
      let parts = and_parts (length position == g.dimensions) (covered_along g position g.dimensions) h in
      index_at_covers g l position (exact_unsigned_eq _ _ parts.0) (along_parts g position g.dimensions parts.1)

  pub chunk_covered : (indices position : List ℕ) → InChunk g indices position → is_covered g position ≡ true
  unfolding is_covered
  chunk_covered indices position c =
      and_from (length position == g.dimensions) (covered_along g position g.dimensions) (eq-eqb _ _ c.position_long)
      (along_from g position g.dimensions (λ k below. covered_below _ (l k below) _ _ (c.covers k below)))

  pub chunk_index : (indices position : List ℕ) → InChunk g indices position → index_at g position ≡ indices
  chunk_index indices position c = sym (index_is g l indices position c)

  pub chunk_has_box : (indices position : List ℕ) → InChunk g indices position → HasBox g indices
  chunk_has_box indices position c = record { long = c.indices_long; numbered = λ k below. (c.covers k below).numbered }

  -- the box of a chunk holds the positions that the chunk covers
  pub chunk_holds : (indices position : List ℕ) → InChunk g indices position → Holds (box_at g indices) position
  unfolding box_at
  chunk_holds indices position c =
      let start : ℕ → ℕ = λ k. (g.axis k).edge (slice_index indices k) in
      let shape : ℕ → ℕ = λ k. (g.axis k).edge (slice_index indices k + 1) - (g.axis k).edge (slice_index indices k) in
      let long = length-map-range_with_len start 0 g.dimensions in
      along_holds (box_at g indices) position (box_long g indices) (record {
        same_length = c.position_long ∙ sym long;
        from = λ k below.
            let inside : k < g.dimensions = omega (arith, long) in
            let v = c.covers k inside in
            let f = v.from in
            rw (at_dimension g.dimensions start k inside) (omega arith);
        below = λ k below.
            let inside : k < g.dimensions = omega (arith, long) in
            let v = c.covers k inside in
            let b = v.below in
            rw (at_dimension g.dimensions start k inside, at_dimension g.dimensions shape k inside) (omega arith);
      })

  pub holds_chunk : (indices position : List ℕ) → HasBox g indices → Holds (box_at g indices) position → InChunk g indices position
  unfolding box_at
  holds_chunk indices position has holds =
      let start : ℕ → ℕ = λ k. (g.axis k).edge (slice_index indices k) in
      let shape : ℕ → ℕ = λ k. (g.axis k).edge (slice_index indices k + 1) - (g.axis k).edge (slice_index indices k) in
      let long = length-map-range_with_len start 0 g.dimensions in
      let inside = holds_along (box_at g indices) position (box_long g indices) holds in
      record {
        indices_long = has.long;
        position_long = inside.same_length ∙ long;
        covers = λ k below.
            let here : k < length (each_dimension g.dimensions start) = omega (arith, long) in
            let f = rw (at_dimension g.dimensions start k below) at (inside.from k here) in
            let b = rw (at_dimension g.dimensions start k below, at_dimension g.dimensions shape k below) at (inside.below k here) in
            let n = has.numbered k below in
            let rises = (l k below).ascends _ n in
            record { numbered = n; from = f; below = omega arith };
      }

  -- a position of a chunk's box has that chunk's indices
  pub box_index : (indices position : List ℕ) → HasBox g indices → Holds (box_at g indices) position → index_at g position ≡ indices
  box_index indices position has holds = chunk_index indices position (holds_chunk indices position has holds)

  pub box_covered : (indices position : List ℕ) → HasBox g indices → Holds (box_at g indices) position → is_covered g position ≡ true
  box_covered indices position has holds = chunk_covered indices position (holds_chunk indices position has holds)

  pub covered_holds : (position : List ℕ) → is_covered g position ≡ true → Holds (box_at g (index_at g position)) position
  covered_holds position h = chunk_holds (index_at g position) position (covered_chunk position h)

  module _ (region chunks : Box) (long : IsLong region) (chunks_long : IsLong chunks) (met : IsMet g region chunks) where
    -- each index list of the query has a chunk that the region meets
    pub met_meets : (k : ℕ) (indices : List ℕ) → slice_get (positions_from chunks.start chunks.shape) k ≡ Some indices → Meets g region indices
    met_meets k indices at = (met.exact indices).0 (holds_along chunks indices chunks_long (positions_in chunks.start chunks.shape k indices chunks_long at))

    pub met_has_box : (k : ℕ) (indices : List ℕ) → slice_get (positions_from chunks.start chunks.shape) k ≡ Some indices → HasBox g indices
    met_has_box k indices at = let m = met_meets k indices at in chunk_has_box indices m.0 m.2

    -- the region is covered
    pub met_covered : (position : List ℕ) → Holds region position → is_covered g position ≡ true
    met_covered position holds =
        let c = met.covered position (holds_along region position long holds) in
        chunk_covered c.0 position c.1

    -- the indices of a position of the region are of the query
    pub met_contains : (position : List ℕ) → Holds region position → Contains (positions_from chunks.start chunks.shape) (index_at g position)
    met_contains position holds =
        let c = covered_chunk position (met_covered position holds) in
        let inside = (met.exact (index_at g position)).1 (position, holds_along region position long holds, c) in
        let at = positions_all chunks.start chunks.shape (index_at g position) chunks_long (along_holds chunks (index_at g position) chunks_long inside) in
        let n = place chunks.shape (offset_from chunks.start (index_at g position)) in
        (n, slice_get_within _ n _ at, get_or_from_slice_get _ n _ _ at)
