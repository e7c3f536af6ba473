-- Ranges of chunks: their box is made of them, and covers each of them.
use Rattle.std.proofs.Common.{◌≡◌, ℕ, true, false, not, cond, List, Option, Some, None, Contains, refl, sym, ◌∙◌, ap, subst, arith}
use Rattle.std.specs.Option.{option_or}
use Rattle.std.proofs.lemmas.List.FromFn.{length-map-range_with_len}
use Rattle.std.proofs.lemmas.Option.{slice_get_within, get_or_from_slice_get, slice_get-get_or}
use Rattle.zarrs_subset.specs.Boxes.{place, offset_from}
use Rattle.zarrs_subset.specs.Regions.{Box, IsLong, Holds, InBox, positions}
use Rattle.zarrs_subset.proofs.Bytes.{holds_along, along_holds}
use Rattle.zarrs_subset.proofs.Positions.{positions_in, positions_all}
use Rattle.zarrs_chunk_grid.specs.Grids.{Grid, IsGrid, IsChunkRange, box_at, index_at, has_box, range_box}
use Rattle.zarrs_chunk_grid.proofs.Chunks.{holds_chunk, chunk_index, has_box_is, box_is_there}
use Rattle.zarrs_chunk_grid.proofs.MetChunks.{range_fills}
use Rattle.zarrs_engine_calls.specs.Layout.{Layout, IsLawful}
use Rattle.zarrs_engine_calls.specs.Refusals as refusal
use Rattle.zarrs_engine_calls.specs.Refusals.{Refusal}
use Rattle.zarrs_engine_calls.specs.ChunkBoxes.{CoversBox, is_empty, last_of}
use Rattle.zarrs_engine_calls.specs.ArgumentRefusals.{chunk_refusal, range_refusal}
use Rattle.zarrs_engine_calls.specs.StateRefusals.{IsPart}
use Rattle.zarrs_engine_calls.proofs.Covers.{last_at, some_extent}

pub box_of_range : (grid : Grid) (range : Box) → IsLong (range_box grid range)
box_of_range grid range = length-map-range_with_len _ 0 grid.dimensions ∙ sym (length-map-range_with_len _ 0 grid.dimensions)

module _ (grid : Grid) (lawful : IsGrid grid) (range : Box) (long : IsLong range) (is_range : IsChunkRange grid range) (box_is_long : IsLong (range_box grid range)) where
  -- an index list of the range has a chunk
  pub range_has : (index : List ℕ) → InBox range index → has_box grid index ≡ true
  range_has index inside = has_box_is grid index (record {
    long = inside.same_length ∙ is_range.start_long;
    numbered = λ k below. let n = is_range.numbered k below in let b = inside.below k (omega (arith, is_range.start_long)) in omega arith;
  })

  pub listed : (index : List ℕ) → Contains (positions range) index → InBox range index
  listed index among =
      holds_along range index long (positions_in range.start range.shape among.0 index long (slice_get-get_or (positions range) among.0 index among.1 ∙ ap Some among.2))

  -- the box of a range covers each chunk of it, so a store of the range reads none
  pub range_covers : (index : List ℕ) → Contains (positions range) index → CoversBox (range_box grid range) (box_at grid index)
  range_covers index among position holds =
      let inside = listed index among in
      let has = range_has index inside in
      let chunk = holds_chunk grid lawful index position (box_is_there grid index has) holds in
      along_holds (range_box grid range) position box_is_long ((range_fills grid lawful range is_range position).1 (index, inside, chunk))

  -- and each position of it lies in one of them
  pub range_contains : (position : List ℕ) → Holds (range_box grid range) position → Contains (positions range) (index_at grid position)
  range_contains position holds =
      let found = (range_fills grid lawful range is_range position).0 (holds_along (range_box grid range) position box_is_long holds) in
      let is : index_at grid position ≡ found.0 = chunk_index grid lawful found.0 position found.2 in
      let at = positions_all range.start range.shape found.0 long (along_holds range found.0 long found.1) in
      let n = place range.shape (offset_from range.start found.0) in
      subst (Contains (positions range)) (sym is) (n, slice_get_within _ n _ at, get_or_from_slice_get _ n _ _ at)

-- If a range is not empty and its first and its last index have a chunk, it is a range of chunks.
first_part : (a b : Option Refusal) → option_or a b ≡ None → (a ≡ None) × (b ≡ None)
first_part None b h = (refl, h)
first_part (Some x) b h = absurd (cc)

pub is_chunk : (layout : Layout) (index : List ℕ) → chunk_refusal layout index ≡ None → has_box layout.grid index ≡ true
is_chunk layout index h =
    elim (has_box layout.grid index) as (λ b. cond (not b) (Some (refusal.indices index)) None ≡ None → b ≡ true) [ true ↦ λ h. refl | false ↦ λ h. absurd (cc) ] h

pub accepted_range : (layout : Layout) (range : Box) → IsLong range → is_empty range ≡ false → range_refusal layout range ≡ None → IsChunkRange layout.grid range
accepted_range layout range long some none =
    let parts = first_part (chunk_refusal layout range.start) (chunk_refusal layout (last_of range)) none in
    let first = box_is_there layout.grid range.start (is_chunk layout range.start parts.0) in
    let last = box_is_there layout.grid (last_of range) (is_chunk layout (last_of range) parts.1) in
    record {
      start_long = first.long;
      shape_long = sym long ∙ first.long;
      some = λ k below. some_extent range.shape k some (omega (arith, long, first.long));
      numbered = λ k below.
          let n = last.numbered k below in
          let at = last_at range.start range.shape k long (omega (arith, first.long)) in
          let e = some_extent range.shape k some (omega (arith, long, first.long)) in
          omega arith;
    }

-- A store of an accepted range covers each chunk of it wholly: it reads none.
pub range_is_whole : (layout : Layout) (lawful : IsLawful layout) (range : Box) → IsLong range → is_empty range ≡ false → range_refusal layout range ≡ None
    → (index : List ℕ) → Contains (positions range) index → IsPart layout (range_box layout.grid range) index → ⊥
range_is_whole layout lawful range long some none index among part =
    part (range_covers layout.grid lawful.grid range long (accepted_range layout range long some none) (box_of_range layout.grid range) index among)
