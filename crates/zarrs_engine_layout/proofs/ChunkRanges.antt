-- Ranges of chunks: the region that they fill, and which are refused.
use Rattle.std.proofs.Common.{◌≡◌, ◌+◌, ◌-◌, ◌*◌, ◌<◌, ◌^◌, ◌==◌, not, ℕ, Bool, true, false, cond, List, [], ◌∷◌}
use Rattle.std.proofs.Common.{length, map, replicate, slice_index, nat_le, Option, Some, None, Contains, SomeIndex}
use Rattle.std.proofs.Common.{refl, sym, ◌∙◌, ap, subst, inl, inr, eq-eqb, arith}
use Rattle.std.specs.List.{list_any}
use Rattle.std.specs.Option.{option_or}
use Rattle.std.proofs.lemmas.Bool.{cases_Bool, false≢true, lt-leb}
use Rattle.std.proofs.lemmas.List.{get_or-replicate, length-replicate}
use Rattle.std.proofs.lemmas.List.Folds.{list_any_none}
use Rattle.std.proofs.lemmas.List.FromFn.{length-map-range_with_len}
use Rattle.std.proofs.lemmas.Option.{slice_get-get_or}
use Rattle.zarrs_subset.specs.Boxes.{ends, position_count, zip_with}
use Rattle.zarrs_subset.specs.Regions.{Box, IsLong, Holds, empty_box, positions}
use Rattle.zarrs_subset.proofs.Bytes.{holds_along}
use Rattle.zarrs_subset.proofs.Overlaps.{in_box-empty, length-zip_with}
use Rattle.zarrs_subset.proofs.Positions.{positions_in}
use Rattle.zarrs_chunk_grid.specs.Grids.{Grid, HasIndices, HasUnnumbered, IsChunkRange, IsGrid, chunks_box, has_box, range_box}
use Rattle.zarrs_chunk_grid.proofs.Chunks.{chunk_covered, has_box_is, no_box}
use Rattle.zarrs_chunk_grid.proofs.MetChunks.{all_some, range_fills}
use Rattle.zarrs_storage.specs.Store.{StoreState}
use Rattle.zarrs_data_type.specs.Kind.{cell_size}
use Rattle.zarrs_data_type.specs.ArrayData.{ArrayData}
use Rattle.zarrs_engine_calls.specs.Layout.{Layout}
use Rattle.zarrs_engine_calls.specs.ArgumentRefusals.{chunk_refusal, dimensions_refusal, range_refusal, read_chunks_refusal, size_refusal}
use Rattle.zarrs_engine_calls.specs.ChunkBoxes.{is_empty, last_of}
use Rattle.zarrs_engine_calls.specs.Reads.{ReadsRegion}
use Rattle.zarrs_engine_calls.specs.Refusals as refusal
use Rattle.zarrs_engine_calls.specs.Refusals.{Refusal, RefusesBy, refuse_if}
use Rattle.zarrs_engine_calls.specs.StateRefusals.{RefusesRegionRead}
use Rattle.zarrs_engine_calls.specs.Step.{RetrievesChunks, RefusesRetrieveChunks}
use Rattle.zarrs_engine_calls.proofs.Covers.{last_at}
use Rattle.zarrs_engine_calls.proofs.Ranges.{range_contains}
use Rattle.zarrs_engine_calls.proofs.RefusalLemmas.{refusal_moved, second_refusal}
use Rattle.zarrs_engine_layout.specs.Covers.{CoverRegion}
use Rattle.zarrs_engine_layout.proofs.ChunkParts.{chunk_accepted, chunk_missing}

-- ---- the last index

-- one less than each end
pub last_before : (start shape : List ℕ) → map (λ end. end - 1) (ends start shape) ≡ zip_with (λ s e. s + e - 1) start shape
last_before [] shape = refl
last_before (s ∷ start) [] = refl
last_before (s ∷ start) (e ∷ shape) = ap (λ xs. (s + e - 1) ∷ xs) (last_before start shape)

-- ---- a range with indices

-- a range is empty or has indices

pub range_some : (range : Box) → HasIndices range → is_empty range ≡ false
range_some range some = list_any_none (λ extent. extent == 0) range.shape (all_some range.shape some)

pub has_indices : (range : Box) → (SomeIndex range.shape (λ k. slice_index range.shape k ≡ 0) → ⊥) → HasIndices range
has_indices range none = λ k below. let apart : slice_index range.shape k ≡ 0 → ⊥ = λ zero_there. none (k, below, zero_there) in omega arith

module _ (layout : Layout) (range : Box) (long : IsLong range) where
  -- each index of it has a chunk
  pub range_accepted : IsChunkRange layout.grid range → range_refusal layout range ≡ None
  range_accepted r =
      let first = has_box_is layout.grid range.start (record {
        long = r.start_long;
        numbered = λ k below. let n = r.numbered k below in let e = r.some k below in omega arith;
      }) in
      let last = has_box_is layout.grid (last_of range) (record {
        long = length-zip_with (λ s e. s + e - 1) range.start range.shape long ∙ r.start_long;
        numbered = λ k below.
            let n = r.numbered k below in
            let e = r.some k below in
            let at = last_at range.start range.shape k long (omega (arith, r.start_long)) in
            omega arith;
      }) in
      second_refusal _ _ (chunk_accepted layout range.start first) ∙ chunk_accepted layout (last_of range) last

  -- the last one has no chunk
  pub range_passes : HasIndices range → length range.start ≡ layout.grid.dimensions → HasUnnumbered layout.grid range → has_box layout.grid (last_of range) ≡ false
  range_passes some dimensions (k, below, past) =
      let at = last_at range.start range.shape k long (omega (arith, dimensions)) in
      no_box layout.grid (last_of range) k below (omega (arith, at, past))

  -- which is the refusal, where the first one has one
  pub range_refused_last : has_box layout.grid (last_of range) ≡ false → chunk_refusal layout range.start ≡ None → range_refusal layout range ≡ Some (refusal.indices (last_of range))
  range_refused_last none first = second_refusal _ _ first ∙ chunk_missing layout (last_of range) none

-- ---- the region of a range

module _ (grid : Grid) (range : Box) (long : IsLong range) where
  listed : (index : List ℕ) → Contains (positions range) index → Holds range index
  listed index among = positions_in range.start range.shape among.0 index long (slice_get-get_or (positions range) among.0 index among.1 ∙ ap Some among.2)

  -- the chunks of a range cover their region
  pub cover_range : IsGrid grid → HasIndices range → IsChunkRange grid range → CoverRegion grid (chunks_box grid range) (positions range)
  cover_range lawful some is_range =
      let box = range_box grid range in
      let starts = length-map-range_with_len (λ k. (grid.axis k).edge (slice_index range.start k)) 0 grid.dimensions in
      let box_long : IsLong box = starts ∙ sym (length-map-range_with_len (λ k.
      (grid.axis k).edge (slice_index range.start k + slice_index range.shape k) - (grid.axis k).edge (slice_index range.start k)) 0 grid.dimensions) in
      let is : chunks_box grid range ≡ box = rw (range_some range some) refl in
      subst (λ (b : Box). CoverRegion grid b (positions range)) (sym is) (record {
        long = box_long;
        dimensions = starts;
        boxed = λ index among.
            let inside = holds_along range index long (listed index among) in
            has_box_is grid index (record {
              long = inside.same_length ∙ is_range.start_long;
              numbered = λ k below. let n = is_range.numbered k below in let b = inside.below k (omega (arith, is_range.start_long)) in omega arith;
            });
        covered = λ position holds.
            let found = (range_fills grid lawful range is_range position).0 (holds_along box position box_long holds) in
            chunk_covered grid lawful found.0 position found.2;
        listed = range_contains grid lawful range long is_range box_long;
      })

  -- and those of an empty range the empty region
  pub cover_none : length range.start ≡ grid.dimensions → (k : ℕ) → k < length range.shape → slice_index range.shape k ≡ 0 → CoverRegion grid (empty_box (length range.start)) (positions range)
  cover_none dimensions k within none =
      let n = length range.start in
      let zeros = length-replicate {A = ℕ} n 0 in
      let zero_at = get_or-replicate {A = ℕ} n k 0 0 (omega (arith, long)) in
      let out : (position : List ℕ) → Holds (empty_box n) position → ⊥ =
      λ position holds. false≢true (sym (in_box-empty (replicate n 0) (replicate n 0) position k refl (omega (arith, zeros, long)) zero_at) ∙ holds) in
      record {
        long = refl;
        dimensions = zeros ∙ dimensions;
        boxed = λ index among. absurd (false≢true (sym (in_box-empty range.start range.shape index k long within none) ∙ listed index among));
        covered = λ position holds. absurd (out position holds);
        listed = λ position holds. absurd (out position holds);
      }

-- ---- the read of a range

-- what refuses a range before its size does
abbrev pub range_first : Layout → List ℕ → Box → Option Refusal
range_first layout shape range = option_or (dimensions_refusal layout shape range) (cond (is_empty range) None (range_refusal layout range))

dimensions_accepted : (layout : Layout) (shape : List ℕ) (range : Box) → length range.start ≡ layout.grid.dimensions → dimensions_refusal layout shape range ≡ None
dimensions_accepted layout shape range dimensions = ap (λ b. refuse_if (not b) (refusal.array_subset range shape)) (eq-eqb _ _ dimensions)

-- an empty range fills the empty region, and is not refused
pub filled_none : (layout : Layout) (shape : List ℕ) (range : Box) → IsLong range → length range.start ≡ layout.grid.dimensions → is_empty range ≡ true
    → (empty_box (length range.start) ≡ chunks_box layout.grid range) × (range_first layout shape range ≡ None)
filled_none layout shape range long dimensions empty = (
  ap empty_box long ∙ sym (ap (λ b. cond b (empty_box (length range.shape)) (range_box layout.grid range)) empty),
  second_refusal (dimensions_refusal layout shape range) _ (dimensions_accepted layout shape range dimensions) ∙ ap (λ b. cond b None (range_refusal layout range)) empty,
)

module _ (layout : Layout) (shape : List ℕ) (range : Box) (dimensions : length range.start ≡ layout.grid.dimensions) (some : HasIndices range) where
  first_is : range_first layout shape range ≡ range_refusal layout range
  first_is =
      second_refusal (dimensions_refusal layout shape range) _ (dimensions_accepted layout shape range dimensions)
      ∙ ap (λ b. cond b None (range_refusal layout range)) (range_some range some)

  pub first_accepted : IsLong range → IsChunkRange layout.grid range → range_first layout shape range ≡ None
  first_accepted long r = first_is ∙ range_accepted layout range long r

  pub first_refused : (r : Refusal) → RefusesBy (range_refusal layout range) r → RefusesBy (range_first layout shape range) r
  first_refused r h = subst (λ (o : Option Refusal). RefusesBy o r) (sym first_is) h

more : (d r s : Option Refusal) (empty : Bool) (x : Refusal) → option_or d (cond empty None r) ≡ Some x → option_or d (cond empty None (option_or r s)) ≡ Some x
more None None s true x h = absurd (cc)
more None (Some y) s true x h = absurd (cc)
more None None s false x h = absurd (cc)
more None (Some y) s false x h = h
more (Some y) r s empty x h = h

then_size : (d r s : Option Refusal) (empty : Bool) → option_or d (cond empty None r) ≡ None → option_or d (cond empty None (option_or r s)) ≡ cond empty None s
then_size None r s true h = refl
then_size None None s false h = refl
then_size None (Some y) s false h = absurd (cc)
then_size (Some y) r s empty h = absurd (cc)

-- no cell takes no byte
no_bytes : (count size : ℕ) → count ≡ 0 → nat_le (2 ^ 64) (count * size) ≡ false
no_bytes count size none = lt-leb (2 ^ 64) (count * size) (omega (arith, ap (λ n. n * size) none))

no_size : (layout : Layout) (shape : List ℕ) → position_count shape ≡ 0 → size_refusal layout shape ≡ None
no_size layout shape none = ap (λ b. refuse_if b refusal.size_overflow) (no_bytes (position_count shape) (cell_size layout.kind) none)

pub no_position : (shape : List ℕ) → list_any (λ extent. extent == 0) shape ≡ true → position_count (replicate (length shape) 0) ≡ 0
no_position [] h = absurd (false≢true h)
no_position (e ∷ shape) h = omega arith

module _ (layout : Layout) (shape : List ℕ) (range : Box) where
  -- a range that is not refused before is refused for the size of its region
  pub range_size : range_first layout shape range ≡ None → read_chunks_refusal layout shape range ≡ size_refusal layout (chunks_box layout.grid range).shape
  range_size none =
      then_size (dimensions_refusal layout shape range) (range_refusal layout range) (size_refusal layout (range_box layout.grid range).shape) (is_empty range) none
      ∙ elim (cases_Bool (is_empty range)) [
        | inl empty ↦ rw empty (sym (no_size layout (replicate (length range.shape) 0) (no_position range.shape empty)))
        | inr some ↦ rw some refl
      ]

  pub range_refused_first : (state : StoreState) (r : Refusal) → RefusesBy (range_first layout shape range) r → RefusesRetrieveChunks layout shape range r state
  range_refused_first state r h =
      inl (refusal_moved (range_first layout shape range) (read_chunks_refusal layout shape range) r
      (more (dimensions_refusal layout shape range) (range_refusal layout range) (size_refusal layout (range_box layout.grid range).shape) (is_empty range)) h)

  pub range_refused_then : (region : Box) (state : StoreState) (r : Refusal) → range_first layout shape range ≡ None → region ≡ chunks_box layout.grid range
      → RefusesRegionRead layout (size_refusal layout region.shape) region (positions range) state r → RefusesRetrieveChunks layout shape range r state
  range_refused_then region state r none is why =
      subst (λ (o : Option Refusal). RefusesRegionRead layout o (chunks_box layout.grid range) (positions range) state r) (sym (range_size none))
      (subst (λ (b : Box). RefusesRegionRead layout (size_refusal layout b.shape) b (positions range) state r) is why)

  -- an accepted one
  pub range_read : (region : Box) (held : ArrayData) (state : StoreState) → range_first layout shape range ≡ None → region ≡ chunks_box layout.grid range
      → size_refusal layout region.shape ≡ None → ReadsRegion layout region (positions range) held state → RetrievesChunks layout shape range held state
  range_read region held state none is fits r =
      (range_size none ∙ ap (λ (b : Box). size_refusal layout b.shape) (sym is) ∙ fits, subst (λ (b : Box). ReadsRegion layout b (positions range) held state) is r)
