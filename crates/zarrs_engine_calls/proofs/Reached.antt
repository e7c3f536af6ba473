-- Reads of stores that agree where a read may ask.
use Rattle.std.proofs.Common.{◌≡◌, ◌==◌, ◌<◌, ◌+◌, ◌-◌, ◌||◌, not, ℕ, suc, Bool, true, false, cond, List, [], ◌∷◌, length, Option, Some, None}
use Rattle.std.proofs.Common.{Contains, slice_index, refl, sym, ◌∙◌, ap, subst, inl, inr, arith}
use Rattle.std.specs.List.{list_any}
use Rattle.std.specs.Prelude.{if◌then◌else◌, nat_le}
use Rattle.std.specs.Option.{option_or}
use Rattle.std.proofs.lemmas.Bool.{cases_Bool}
use Rattle.std.proofs.lemmas.Bool.Decides.{nat_tests}
use Rattle.std.proofs.lemmas.Option.{slice_get_within, get_or_from_slice_get, slice_get-get_or}
use Rattle.std.proofs.lemmas.Map.Views.{exact_unsigned_eq}
use Rattle.std.proofs.lemmas.List.{get_or-replicate, length-replicate}
use Rattle.std.proofs.lemmas.List.FromFn.{length-map-range_with_len}
use Rattle.zarrs_subset.specs.Boxes.{place, offset_by, offset_from, in_range, is_within}
use Rattle.zarrs_subset.specs.Regions.{Box, IsLong, Holds, InBox, box_of, empty_box, positions}
use Rattle.zarrs_subset.proofs.Bytes.{holds_along, along_holds}
use Rattle.zarrs_subset.proofs.Positions.{positions_in, positions_all}
use Rattle.zarrs_chunk_grid.specs.Grids.{Grid, IsGrid, box_at, has_box, index_at, is_covered, met, chunks_box, each_dimension, first_met, amount_met, range_box}
use Rattle.zarrs_chunk_grid.specs.Axes.{number_at}
use Rattle.zarrs_chunk_grid.proofs.AxisLemmas.{covered_below, number_at_covers, numbers_rise}
use Rattle.zarrs_chunk_grid.proofs.Chunks.{box_covered, box_index, box_is_there, box_long, chunk_covered, covered_chunk, has_box_is}
use Rattle.zarrs_chunk_grid.proofs.MetChunks.{at_dimension, range_fills}
use Rattle.zarrs_storage.specs.Store.{StoreState}
use Rattle.zarrs_data_type.specs.ArrayData.{ArrayData}
use Rattle.zarrs_engine_calls.specs.Layout.{ArrayState, Layout, IsLawful}
use Rattle.zarrs_engine_calls.specs.Content.{value_at, content, chunk_cell}
use Rattle.zarrs_engine_calls.specs.ChunkBoxes.{CoversBox, chunks_met, ends_within, is_covered_box, is_empty, is_part_of, is_whole_of, last_of, part_box}
use Rattle.zarrs_engine_calls.specs.Refusals as refusal
use Rattle.zarrs_engine_calls.specs.Refusals.{Refusal, RefusesBy, box_refusal, length_refusal, read_refusal}
use Rattle.zarrs_engine_calls.specs.Changes.{IsPresent, RetrievesChunk, RetrievesIfExists}
use Rattle.zarrs_engine_calls.specs.Reads.{IsBroken, ReadsRegion}
use Rattle.zarrs_engine_calls.specs.StateRefusals.{IsLargeBox, IsTooLargeToRead, NeedsLargeFill, RefusesChunkRead, RefusesRegionRead, RefusesSomeChunk, known_cell}
use Rattle.zarrs_engine_calls.specs.Acts.{Act, read, read_chunk, read_part_act, shape_left}
use Rattle.zarrs_engine_calls.specs.ArgumentRefusals.{chunk_refusal, dimensions_refusal, part_refusal, range_refusal, read_chunks_refusal, read_part_refusal, read_region_refusal}
use Rattle.zarrs_engine_calls.specs.ArgumentRefusals.{region_refusal, size_refusal}
use Rattle.zarrs_engine_calls.proofs.Ranges.{accepted_range, box_of_range, is_chunk, listed, range_contains, range_covers, range_has}
use Rattle.zarrs_engine_calls.specs.Outcome as outcome
use Rattle.zarrs_engine_calls.specs.Outcome.{Outcome, outcome_of}
use Rattle.zarrs_engine_calls.specs.declared.call.Call.TheVariants as call
use Rattle.zarrs_engine_calls.specs.Step.{ActOutcome}
use Rattle.zarrs_engine_calls.specs.declared.call.Call.{Call}
use Rattle.zarrs_engine_calls.specs.declared.call.Reply.{Reply}
use Rattle.zarrs_engine_calls.specs.Step.{Step}
use Rattle.zarrs_engine_calls.specs.Reached.{AgreeAt, AgreeFor}
use Rattle.zarrs_engine_calls.proofs.Contents.{content_covered, content_in_box, member, only_member}
use Rattle.zarrs_engine_calls.proofs.CutLaws.{and_both, and_left, and_right}
use Rattle.zarrs_engine_calls.proofs.Covers.{last_at, last_covers, last_held, some_extent}

-- ---- the chunks that a covered region meets

zero_extent : (shape : List ℕ) → list_any (λ extent. extent == 0) shape ≡ true → (k : ℕ) × (k < length shape) × (slice_index shape k ≡ 0)
zero_extent [] some = absurd (cc)
zero_extent (e ∷ shape) some = elim (cases_Bool (e == 0)) [
  | inl is ↦ (0, omega arith, exact_unsigned_eq e 0 is)
  | inr other ↦
      let tail : list_any (λ extent. extent == 0) shape ≡ true = sym (ap (λ b. b || list_any (λ extent. extent == 0) shape) other) ∙ some in
      let rest = zero_extent shape tail in
      (suc rest.0, (let b = rest.1 in omega arith), rest.2)
]

-- a region that holds a position is not empty
held_some : (region : Box) → IsLong region → (position : List ℕ) → Holds region position → is_empty region ≡ false
held_some region long position holds = elim (cases_Bool (is_empty region)) [
  | inr some ↦ some
  | inl empty ↦
      let at = zero_extent region.shape empty in
      let inside = holds_along region position long holds in
      let here : at.0 < length region.start = (let b = at.1 in omega (arith, long)) in
      let from = inside.from at.0 here in
      let below = inside.below at.0 here in
      let none = at.2 in
      absurd (omega arith)
]

module _ (grid : Grid) (lawful : IsGrid grid) (region : Box) (long : IsLong region) (some : is_empty region ≡ false)
    (covered : (position : List ℕ) → Holds region position → is_covered grid position ≡ true) where
  pub first_held : Holds region region.start
  first_held = along_holds region region.start long (record {
    same_length = refl;
    from = λ k below. omega arith;
    below = λ k below. let e = some_extent region.shape k some (omega (arith, long)) in omega arith;
  })

  dimensions : length region.start ≡ grid.dimensions
  dimensions = (covered_chunk grid lawful region.start (covered region.start first_held)).position_long

  -- the chunk of a position of the region is one of those that it meets
  meets : (position : List ℕ) → Holds region position → Contains (chunks_met grid region) (index_at grid position)
  unfolding met index_at
  meets position holds =
      let d = grid.dimensions in
      let chunk = covered_chunk grid lawful position (covered position holds) in
      let first = covered_chunk grid lawful region.start (covered region.start first_held) in
      let last = covered_chunk grid lawful (last_of region) (covered (last_of region) (last_held grid lawful region long some)) in
      let inside = holds_along region position long holds in
      let range : Box = record { start = each_dimension d (first_met grid region); shape = each_dimension d (amount_met grid region) } in
      let starts = length-map-range_with_len (first_met grid region) 0 d in
      let shapes = length-map-range_with_len (amount_met grid region) 0 d in
      let range_long : IsLong range = starts ∙ sym shapes in
      let in_range : InBox range (index_at grid position) = record {
        same_length = chunk.indices_long ∙ sym starts;
        from = λ k below.
            let i : k < d = omega (arith, starts) in
            let here : k < length region.start = omega (arith, dimensions) in
            let x = covered_below (grid.axis k) (lawful k i) _ _ (first.covers k i) in
            let y = covered_below (grid.axis k) (lawful k i) _ _ (chunk.covers k i) in
            let rises = numbers_rise (grid.axis k) (lawful k i) _ _ _ _ (number_at_covers (grid.axis k) (lawful k i) _ x) (number_at_covers (grid.axis k) (lawful k i) _ y) (inside.from k here) in
            rw (at_dimension d (first_met grid region) k i, at_dimension d (λ k. number_at (grid.axis k) (slice_index position k)) k i) rises;
        below = λ k below.
            let i : k < d = omega (arith, starts) in
            let here : k < length region.start = omega (arith, dimensions) in
            let x = covered_below (grid.axis k) (lawful k i) _ _ (first.covers k i) in
            let y = covered_below (grid.axis k) (lawful k i) _ _ (chunk.covers k i) in
            let low = numbers_rise (grid.axis k) (lawful k i) _ _ _ _ (number_at_covers (grid.axis k) (lawful k i) _ x) (number_at_covers (grid.axis k) (lawful k i) _ y) (inside.from k here) in
            let at = last_at region.start region.shape k long here in
            let top = covered_below (grid.axis k) (lawful k i) _ _ (last.covers k i) in
            let z : slice_index region.start k + slice_index region.shape k - 1 < (grid.axis k).edge (grid.axis k).count = omega arith in
            let b = inside.below k here in
            let high = numbers_rise (grid.axis k) (lawful k i) _ _ _ _ (number_at_covers (grid.axis k) (lawful k i) _ y) (number_at_covers (grid.axis k) (lawful k i) _ z) (omega arith) in
            rw (at_dimension d (first_met grid region) k i, at_dimension d (amount_met grid region) k i, at_dimension d (λ k. number_at (grid.axis k) (slice_index position k)) k i) (omega arith);
      } in
      let at = positions_all range.start range.shape (index_at grid position) range_long (along_holds range (index_at grid position) range_long in_range) in
      let n = place range.shape (offset_from range.start (index_at grid position)) in
      rw some (n, slice_get_within _ n _ at, get_or_from_slice_get _ n _ _ at)

  -- and each of these has a box
  boxed : (index : List ℕ) → Contains (chunks_met grid region) index → has_box grid index ≡ true
  unfolding met
  boxed index among =
      let d = grid.dimensions in
      let first = covered_chunk grid lawful region.start (covered region.start first_held) in
      let last = covered_chunk grid lawful (last_of region) (covered (last_of region) (last_held grid lawful region long some)) in
      let range : Box = record { start = each_dimension d (first_met grid region); shape = each_dimension d (amount_met grid region) } in
      let starts = length-map-range_with_len (first_met grid region) 0 d in
      let shapes = length-map-range_with_len (amount_met grid region) 0 d in
      let range_long : IsLong range = starts ∙ sym shapes in
      let here : Contains (positions range) index = rw some at among in
      let inside = holds_along range index range_long (positions_in range.start range.shape here.0 index range_long (slice_get-get_or (positions range) here.0 index here.1 ∙ ap Some here.2)) in
      has_box_is grid index (record {
        long = inside.same_length ∙ starts;
        numbered = λ k i.
            let within : k < length region.start = omega (arith, dimensions) in
            let x = covered_below (grid.axis k) (lawful k i) _ _ (first.covers k i) in
            let at = last_at region.start region.shape k long within in
            let top = covered_below (grid.axis k) (lawful k i) _ _ (last.covers k i) in
            let z : slice_index region.start k + slice_index region.shape k - 1 < (grid.axis k).edge (grid.axis k).count = omega arith in
            let e = some_extent region.shape k some (omega (arith, long)) in
            let one = number_at_covers (grid.axis k) (lawful k i) _ x in
            let two = number_at_covers (grid.axis k) (lawful k i) _ z in
            let rises = numbers_rise (grid.axis k) (lawful k i) _ _ _ _ one two (omega arith) in
            let most = two.numbered in
            let below = rw (at_dimension d (first_met grid region) k i, at_dimension d (amount_met grid region) k i) at (inside.below k (omega (arith, starts))) in
            omega arith;
      })

-- an empty region meets no chunk
pub none_met : (grid : Grid) (region : Box) → IsLong region → length region.start ≡ grid.dimensions → is_empty region ≡ true
    → (index : List ℕ) → Contains (chunks_met grid region) index → ⊥
unfolding met
none_met grid region long same empty index among =
    let d = grid.dimensions in
    let at = zero_extent region.shape empty in
    let some : 0 < d = (let b = at.1 in omega (arith, long, same)) in
    let none : Box = empty_box d in
    let none_long : IsLong none = refl in
    let here : Contains (positions none) index = rw empty at among in
    let inside = holds_along none index none_long (positions_in none.start none.shape here.0 index none_long (slice_get-get_or (positions none) here.0 index here.1 ∙ ap Some here.2)) in
    let wide = length-replicate {A = ℕ} d 0 in
    let below = inside.below 0 (omega (arith, wide)) in
    let zero_at = get_or-replicate {A = ℕ} d 0 0 0 some in
    absurd (omega arith)

-- ---- what depends on the bytes of one chunk

module _ (layout : Layout) (lawful : IsLawful layout) (a b : StoreState) where
  cell_agrees : (position : List ℕ) → is_covered layout.grid position ≡ true → AgreeAt layout a b (index_at layout.grid position)
      → content layout (value_at b) position ≡ content layout (value_at a) position
  cell_agrees position covered same =
      let index = index_at layout.grid position in
      content_covered layout (value_at b) position covered
      ∙ ap (λ t. chunk_cell layout t (box_at layout.grid index) position) same.values
      ∙ sym (content_covered layout (value_at a) position covered)

  module _ (index : List ℕ) (same : AgreeAt layout a b index) where
    box_agrees : has_box layout.grid index ≡ true → (position : List ℕ) → Holds (box_at layout.grid index) position
        → content layout (value_at b) position ≡ content layout (value_at a) position
    box_agrees has position holds =
        content_in_box layout (value_at b) lawful index has position holds
        ∙ ap (λ t. chunk_cell layout t (box_at layout.grid index) position) same.values
        ∙ sym (content_in_box layout (value_at a) lawful index has position holds)

    chunk_read : (held : ArrayData) → RetrievesChunk layout index held a → RetrievesChunk layout index held b
    chunk_read held r = record {
      has_box = r.has_box;
      chunk = r.chunk;
      is_chunk = r.is_chunk;
      reads = record { count = r.reads.count; each = λ position holds. box_agrees r.has_box position holds ∙ r.reads.each position holds };
    }

    present : IsPresent layout index a → IsPresent layout index b
    present p = (p.0, same.values ∙ p.1)

    chunk_if_exists : (found : Option ArrayData) → RetrievesIfExists layout index found a → RetrievesIfExists layout index found b
    chunk_if_exists None r = (r.0, same.values ∙ r.1)
    chunk_if_exists (Some held) r = (chunk_read held r.0, present r.1)

    pub broken : IsBroken layout index a → IsBroken layout index b
    broken r = record { encoded = r.encoded; stands = same.values ∙ r.stands; undecoded = r.undecoded }

    broken_back : IsBroken layout index b → IsBroken layout index a
    broken_back r = record { encoded = r.encoded; stands = sym same.values ∙ r.stands; undecoded = r.undecoded }

    pub large_fill : NeedsLargeFill layout index a → NeedsLargeFill layout index b
    large_fill r = record { encoded = r.encoded; stands = same.values ∙ r.stands; left_out = r.left_out; large = r.large }

    pub large_box : has_box layout.grid index ≡ true → IsLargeBox layout (box_at layout.grid index) a → IsLargeBox layout (box_at layout.grid index) b
    large_box has r =
        (r.0, record { count = r.1.count; each = λ position holds. ap (λ o. Some (known_cell o)) (box_agrees has position holds) ∙ r.1.each position holds }, r.2)

    -- what a read decodes whole of the chunk is too large
    too_large : (region : Box) → IsTooLargeToRead layout region index a → IsTooLargeToRead layout region index b
    too_large region r = record { encoded = r.encoded; stands = same.values ∙ r.stands; large = r.large }

    -- a refused read of the chunk
    chunk_refused : (early : Option Refusal) (needed : Bool) (r : Refusal)
        → RefusesChunkRead layout early needed index a r → RefusesChunkRead layout early needed index b r
    chunk_refused early needed r (inl why) =
        let by = λ (q : Bool) (v : Option (List ℕ)). RefusesBy (option_or early (option_or (cond q (Some refusal.storage) None) (read_refusal layout needed index v))) r in
        inl (subst (by (b.refuses (layout.key index))) (sym same.values) (subst (λ q. by q (value_at a (layout.key index))) (sym same.refuses) why))
    chunk_refused early needed r (inr (is, none, large)) =
        let no = λ (q : Bool). option_or early (option_or (cond q (Some refusal.storage) None) (box_refusal layout index)) ≡ None in
        inr (is, subst no (sym same.refuses) none, large_fill large)

-- a read of a chunk whose index list has another length is refused for that
other_length : (layout : Layout) (a b : StoreState) (index : List ℕ) (x : Refusal) (needed : Bool) (r : Refusal)
    → RefusesChunkRead layout (Some x) needed index a r → RefusesChunkRead layout (Some x) needed index b r
other_length layout a b index x needed r (inl why) = inl why
other_length layout a b index x needed r (inr (is, none, large)) = absurd (cc)

-- ---- what depends on the bytes of the chunks of a region

module _ (layout : Layout) (lawful : IsLawful layout) (a b : StoreState) (region : Box) (chunks : List (List ℕ)) where
  region_read : (held : ArrayData)
      → ((position : List ℕ) → Holds region position → is_covered layout.grid position ≡ true → AgreeAt layout a b (index_at layout.grid position))
      → ((index : List ℕ) → Contains chunks index → has_box layout.grid index ≡ true → AgreeAt layout a b index)
      → ((index : List ℕ) → Contains chunks index → has_box layout.grid index ≡ true)
      → ReadsRegion layout region chunks held a → ReadsRegion layout region chunks held b
  region_read held over at boxes r = record {
    given = r.given;
    are_cells = r.are_cells;
    reads = record {
      count = r.reads.count;
      each = λ position cell holds is.
          let covered = r.covered position holds in
          r.reads.each position cell holds (sym (cell_agrees layout lawful a b position covered (over position holds covered)) ∙ is);
    };
    long = r.long;
    covered = r.covered;
    whole = λ index among covers bad. r.whole index among covers (broken_back layout lawful a b index (at index among (boxes index among)) bad);
  }

  module _ (covered : (position : List ℕ) → Holds region position → is_covered layout.grid position ≡ true)
      (over : (position : List ℕ) → Holds region position → AgreeAt layout a b (index_at layout.grid position))
      (boxes : (index : List ℕ) → Contains chunks index → has_box layout.grid index ≡ true)
      (at : (index : List ℕ) → Contains chunks index → AgreeAt layout a b index) where
    some_refused : (r : Refusal) → RefusesSomeChunk layout region chunks a r → RefusesSomeChunk layout region chunks b r
    some_refused refusal.storage (index, among, is) = (index, among, (at index among).refuses ∙ is)
    some_refused refusal.codec (index, among, bad) = (index, among, broken layout lawful a b index (at index among) bad)
    some_refused refusal.size_overflow (inl (index, among, large)) = inl (index, among, too_large layout lawful a b index (at index among) region large)
    some_refused refusal.size_overflow (inr large) = inr (
      large.0,
      record {
        count = large.1.count;
        each = λ position holds.
            ap (λ o. Some (known_cell o)) (cell_agrees layout lawful a b position (covered position holds) (over position holds)) ∙ large.1.each position holds;
      },
      large.2,
    )
    some_refused refusal.out_of_memory s = s
    some_refused r s = absurd s

-- ---- reads

pub first_part : (a b : Option Refusal) → option_or a b ≡ None → (a ≡ None) × (b ≡ None)
first_part None b h = (refl, h)
first_part (Some x) b h = absurd (cc)

pub said_true : (b : Bool) (x : Refusal) → cond (not b) (Some x) None ≡ None → b ≡ true
said_true true x h = refl
said_true false x h = absurd (cc)

-- what an accepted region is
module _ (layout : Layout) (lawful : IsLawful layout) (shape : List ℕ) (region : Box) (long : IsLong region) (accepted : region_refusal layout shape region ≡ None) where
  region_parts : (dimensions_refusal layout shape region ≡ None) × (cond (not (is_covered_box layout.grid region)) (Some (refusal.array_subset region shape)) None ≡ None)
  region_parts =
      first_part (dimensions_refusal layout shape region) (cond (not (is_covered_box layout.grid region)) (Some (refusal.array_subset region shape)) None) accepted

  region_dimensions : length region.start ≡ layout.grid.dimensions
  region_dimensions = exact_unsigned_eq _ _ (said_true (length region.start == layout.grid.dimensions) (refusal.array_subset region shape) region_parts.0)

  pub region_covered : (position : List ℕ) → Holds region position → is_covered layout.grid position ≡ true
  region_covered position holds =
      let some = held_some region long position holds in
      let hit = said_true (is_covered_box layout.grid region) (refusal.array_subset region shape) region_parts.1 in
      last_covers layout.grid lawful.grid region long some (sym (ap (λ b. b || is_covered layout.grid (last_of region)) some) ∙ hit) position holds

  pub region_boxed : (index : List ℕ) → Contains (chunks_met layout.grid region) index → has_box layout.grid index ≡ true
  region_boxed index among = elim (cases_Bool (is_empty region)) [
    | inl empty ↦ absurd (none_met layout.grid region long region_dimensions empty index among)
    | inr some ↦ boxed layout.grid lawful.grid region long some region_covered index among
  ]

  pub region_meets : (position : List ℕ) → Holds region position → Contains (chunks_met layout.grid region) (index_at layout.grid position)
  region_meets position holds = meets layout.grid lawful.grid region long (held_some region long position holds) region_covered position holds

-- a read accepts its region
pub takes_region : (layout : Layout) (shape : List ℕ) (region : Box) → read_region_refusal layout shape region ≡ None → region_refusal layout shape region ≡ None
takes_region layout shape region accepted = (first_part (region_refusal layout shape region) (size_refusal layout region.shape) accepted).0

module _ (layout : Layout) (lawful : IsLawful layout) (keep : Bool) (shape : List ℕ) (a b : StoreState) where
  -- a read of a whole chunk
  boxed_agrees : (index : List ℕ) → (length index ≡ layout.grid.dimensions → AgreeAt layout a b index) → has_box layout.grid index ≡ true → AgreeAt layout a b index
  boxed_agrees index at has = at (box_is_there layout.grid index has).long

  refused_early : (early : Option Refusal) (needed : Bool) (index : List ℕ) (r : Refusal) → (early ≡ None → AgreeAt layout a b index)
      → RefusesChunkRead layout early needed index a r → RefusesChunkRead layout early needed index b r
  refused_early None needed index r at = chunk_refused layout lawful a b index (at refl) None needed r
  refused_early (Some x) needed index r at = other_length layout a b index x needed r

  refused_whole : (needed : Bool) (index : List ℕ) (r : Refusal) → (length index ≡ layout.grid.dimensions → AgreeAt layout a b index)
      → RefusesChunkRead layout (length_refusal layout index) needed index a r → RefusesChunkRead layout (length_refusal layout index) needed index b r
  refused_whole needed index r at why =
      let of = λ (v : Bool) (state : StoreState). RefusesChunkRead layout (cond v None (Some (refusal.indices index))) needed index state r in
      elim (length index == layout.grid.dimensions) as (λ v. (length index == layout.grid.dimensions) ≡ v → of v a → of v b) [
        | true ↦ λ is. chunk_refused layout lawful a b index (at (exact_unsigned_eq _ _ is)) None needed r
        | false ↦ λ is. other_length layout a b index (refusal.indices index) needed r
      ] refl why

  whole_depends : (needed : Bool) (index : List ℕ) (ended : Outcome) (new : StoreState)
      → (length index ≡ layout.grid.dimensions → AgreeAt layout a b index)
      → ActOutcome layout keep shape (length_refusal layout index) (read_chunk needed index) ended a new
      → ActOutcome layout keep shape (length_refusal layout index) (read_chunk needed index) ended b b
  whole_depends true index (outcome.cells held) new at s =
      (refl, s.1, chunk_read layout lawful a b index (boxed_agrees index at s.2.has_box) held s.2)
  whole_depends false index (outcome.maybe None) new at s = (refl, s.1, chunk_if_exists layout lawful a b index (at s.2.0) None s.2)
  whole_depends false index (outcome.maybe (Some held)) new at s =
      (refl, s.1, chunk_if_exists layout lawful a b index (boxed_agrees index at s.2.0.has_box) (Some held) s.2)
  whole_depends true index (outcome.refused r) new at s = (refl, refused_whole true index r at s.1)
  whole_depends false index (outcome.refused r) new at s = (refl, refused_whole false index r at s.1)
  whole_depends needed index ended new at s = absurd s

  refused_region : (region : Box) (r : Refusal) → IsLong region
      → (read_region_refusal layout shape region ≡ None → (index : List ℕ) → Contains (chunks_met layout.grid region) index → length index ≡ layout.grid.dimensions → AgreeAt layout a b index)
      → RefusesRegionRead layout (read_region_refusal layout shape region) region (chunks_met layout.grid region) a r
      → RefusesRegionRead layout (read_region_refusal layout shape region) region (chunks_met layout.grid region) b r
  refused_region region r long at (inl by) = inl by
  refused_region region r long at (inr (none, some)) =
      let boxes = region_boxed layout lawful shape region long (takes_region layout shape region none) in
      let meet = region_meets layout lawful shape region long (takes_region layout shape region none) in
      inr (
        none,
        some_refused layout lawful a b region (chunks_met layout.grid region) (region_covered layout lawful shape region long (takes_region layout shape region none))
            (λ position holds. boxed_agrees (index_at layout.grid position) (at none (index_at layout.grid position) (meet position holds)) (boxes (index_at layout.grid position) (meet position holds)))
            boxes (λ index among. boxed_agrees index (at none index among) (boxes index among)) r some,
      )

  region_depends : (region : Box) (ended : Outcome) (new : StoreState) → IsLong region
      → (read_region_refusal layout shape region ≡ None → (index : List ℕ) → Contains (chunks_met layout.grid region) index → length index ≡ layout.grid.dimensions → AgreeAt layout a b index)
      → ActOutcome layout keep shape (read_region_refusal layout shape region) (read region (chunks_met layout.grid region)) ended a new
      → ActOutcome layout keep shape (read_region_refusal layout shape region) (read region (chunks_met layout.grid region)) ended b b
  region_depends region (outcome.cells held) new long at s =
      let boxes = region_boxed layout lawful shape region long (takes_region layout shape region s.1) in
      let meet = region_meets layout lawful shape region long (takes_region layout shape region s.1) in (
        refl,
        s.1,
        region_read layout lawful a b region (chunks_met layout.grid region) held
            (λ position holds covered. boxed_agrees (index_at layout.grid position) (at s.1 (index_at layout.grid position) (meet position holds)) (boxes (index_at layout.grid position) (meet position holds)))
            (λ index among has. boxed_agrees index (at s.1 index among) has) boxes s.2,
      )
  region_depends region (outcome.refused r) new long at s = (refl, refused_region region r long at s.1)
  region_depends region ended new long at s = absurd s

-- a part of a chunk lies in its box
inside_part : (c n s e p : List ℕ) → length c ≡ length n → ends_within s e n ≡ true → is_within (offset_by c s) e p ≡ true → is_within c n p ≡ true
inside_part [] [] [] [] [] long fits within = refl
inside_part [] [] [] [] (i ∷ p) long fits within = within
inside_part [] [] [] (x ∷ e) p long fits within = absurd (cc)
inside_part [] [] (x ∷ s) [] p long fits within = absurd (cc)
inside_part [] [] (x ∷ s) (y ∷ e) p long fits within = absurd (cc)
inside_part [] (y ∷ n) s e p long fits within = absurd (omega arith)
inside_part (x ∷ c) [] s e p long fits within = absurd (omega arith)
inside_part (x ∷ c) (y ∷ n) [] [] p long fits within = absurd (cc)
inside_part (x ∷ c) (y ∷ n) [] (w ∷ e) p long fits within = absurd (cc)
inside_part (x ∷ c) (y ∷ n) (z ∷ s) [] p long fits within = absurd (cc)
inside_part (x ∷ c) (y ∷ n) (z ∷ s) (w ∷ e) [] long fits within = absurd (cc)
inside_part (x ∷ c) (y ∷ n) (z ∷ s) (w ∷ e) (i ∷ p) long fits within =
    let ends = and_left (nat_le (z + w) y) (ends_within s e n) fits in
    let here = and_left (in_range (x + z) w i) (is_within (offset_by c s) e p) within in
    and_both (in_range x y i) (is_within c n p) (grind (arith, nat_tests))
    (inside_part c n s e p (omega arith) (and_right (nat_le (z + w) y) (ends_within s e n) fits) (and_right (in_range (x + z) w i) (is_within (offset_by c s) e p) within))

-- the chunks of a region, whichever read asks for them
module _ (layout : Layout) (lawful : IsLawful layout) (keep : Bool) (shape : List ℕ) (a b : StoreState) (first : Option Refusal) (region : Box) (chunks : List (List ℕ))
    (covered : first ≡ None → (position : List ℕ) → Holds region position → is_covered layout.grid position ≡ true)
    (boxes : first ≡ None → (index : List ℕ) → Contains chunks index → has_box layout.grid index ≡ true)
    (meet : first ≡ None → (position : List ℕ) → Holds region position → Contains chunks (index_at layout.grid position))
    (at : first ≡ None → (index : List ℕ) → Contains chunks index → length index ≡ layout.grid.dimensions → AgreeAt layout a b index) where
  over : first ≡ None → (position : List ℕ) → Holds region position → AgreeAt layout a b (index_at layout.grid position)
  over none position holds =
      let index = index_at layout.grid position in
      let among = meet none position holds in
      at none index among (box_is_there layout.grid index (boxes none index among)).long

  each_at : first ≡ None → (index : List ℕ) → Contains chunks index → AgreeAt layout a b index
  each_at none index among = at none index among (box_is_there layout.grid index (boxes none index among)).long

  chunks_refused : (r : Refusal) → RefusesRegionRead layout first region chunks a r → RefusesRegionRead layout first region chunks b r
  chunks_refused r (inl by) = inl by
  chunks_refused r (inr (none, some)) =
      inr (none, some_refused layout lawful a b region chunks (covered none) (over none) (boxes none) (each_at none) r some)

  chunks_read : (held : ArrayData) → first ≡ None → ReadsRegion layout region chunks held a → ReadsRegion layout region chunks held b
  chunks_read held none r =
      region_read layout lawful a b region chunks held (λ position holds hit. over none position holds) (λ index among has. each_at none index among) (boxes none) r

  chunks_depend : (ended : Outcome) (new : StoreState) → ActOutcome layout keep shape first (read region chunks) ended a new
      → ActOutcome layout keep shape first (read region chunks) ended b b
  chunks_depend (outcome.cells held) new s = (refl, s.1, chunks_read held s.1 s.2)
  chunks_depend (outcome.refused r) new s = (refl, chunks_refused r s.1)
  chunks_depend ended new s = absurd s

-- a part of a chunk that is accepted
module _ (layout : Layout) (lawful : IsLawful layout) (index : List ℕ) (part : Box) (has : has_box layout.grid index ≡ true)
    (fits : is_part_of (box_at layout.grid index).shape part ≡ true) where
  pub part_inside : (position : List ℕ) → Holds (part_box (box_at layout.grid index) part) position → Holds (box_at layout.grid index) position
  part_inside position holds =
      let box = box_at layout.grid index in
      inside_part box.start box.shape part.start part.shape position (box_long layout.grid index) fits holds

  pub part_meets : (position : List ℕ) → Holds (part_box (box_at layout.grid index) part) position → Contains (index ∷ []) (index_at layout.grid position)
  part_meets position holds =
      subst (Contains (index ∷ [])) (sym (box_index layout.grid lawful.grid index position (box_is_there layout.grid index has) (part_inside position holds))) (member index)

  pub part_covered : (position : List ℕ) → Holds (part_box (box_at layout.grid index) part) position → is_covered layout.grid position ≡ true
  part_covered position holds = box_covered layout.grid lawful.grid index position (box_is_there layout.grid index has) (part_inside position holds)

pub one_boxed : (layout : Layout) (index : List ℕ) → has_box layout.grid index ≡ true → (i : List ℕ) → Contains (index ∷ []) i → has_box layout.grid i ≡ true
one_boxed layout index has i among = subst (λ k. has_box layout.grid k ≡ true) (sym (only_member index i among)) has

-- what an accepted read of a part has
pub part_has : (layout : Layout) (index : List ℕ) (part : Box) → read_part_refusal layout index part ≡ None → has_box layout.grid index ≡ true
part_has layout index part none = is_chunk layout index (first_part (chunk_refusal layout index) _ none).0

part_fits : (layout : Layout) (index : List ℕ) (part : Box) → read_part_refusal layout index part ≡ None → is_part_of (box_at layout.grid index).shape part ≡ true
part_fits layout index part none = said_true (is_part_of (box_at layout.grid index).shape part) (refusal.chunk_subset part index (box_at layout.grid index).shape)
    (first_part (part_refusal layout index part) _ (first_part (chunk_refusal layout index) _ none).1).0

module _ (layout : Layout) (lawful : IsLawful layout) (keep : Bool) (shape : List ℕ) (a b : StoreState) (index : List ℕ) (part : Box)
    (at : read_part_refusal layout index part ≡ None → length index ≡ layout.grid.dimensions → AgreeAt layout a b index) where
  abbrev part_first : Option Refusal
  part_first = read_part_refusal layout index part

  abbrev part_act : Bool → Act
  part_act whole = if whole then read_chunk true index else read (part_box (box_at layout.grid index) part) (index ∷ [])

  part_depends : (whole : Bool) (ended : Outcome) (new : StoreState)
      → ActOutcome layout keep shape part_first (part_act whole) ended a new → ActOutcome layout keep shape part_first (part_act whole) ended b b
  part_depends true (outcome.cells held) new s = (refl, s.1, chunk_read layout lawful a b index (at s.1 (box_is_there layout.grid index s.2.has_box).long) held s.2)
  part_depends true (outcome.refused r) new s =
      (refl, refused_early layout lawful keep shape a b part_first true index r (λ none. at none (box_is_there layout.grid index (part_has layout index part none)).long) s.1)
  part_depends true ended new s = absurd s
  part_depends false ended new s =
      chunks_depend layout lawful keep shape a b part_first (part_box (box_at layout.grid index) part) (index ∷ [])
      (λ none. part_covered layout lawful index part (part_has layout index part none) (part_fits layout index part none)) (λ none. one_boxed layout index (part_has layout index part none))
      (λ none. part_meets layout lawful index part (part_has layout index part none) (part_fits layout index part none))
      (λ none i among long. subst (AgreeAt layout a b) (sym (only_member index i among)) (at none (subst (λ (k : List ℕ). length k ≡ layout.grid.dimensions) (only_member index i among) long)))
      ended new s

-- a range of chunks that is accepted
module _ (layout : Layout) (lawful : IsLawful layout) (range : Box) (long : IsLong range) (accepted : is_empty range ≡ false → range_refusal layout range ≡ None) where
  no_index : is_empty range ≡ true → (index : List ℕ) → Contains (positions range) index → ⊥
  no_index empty index among =
      let at = zero_extent range.shape empty in
      let inside = holds_along range index long (positions_in range.start range.shape among.0 index long (slice_get-get_or (positions range) among.0 index among.1 ∙ ap Some among.2)) in
      let b = inside.below at.0 (let b = at.1 in omega (arith, long)) in
      let f = inside.from at.0 (let b = at.1 in omega (arith, long)) in
      let z = at.2 in
      absurd (omega arith)

  no_position : is_empty range ≡ true → (position : List ℕ) → Holds (empty_box (length range.shape)) position → ⊥
  no_position empty position holds =
      let at = zero_extent range.shape empty in
      let none : Box = empty_box (length range.shape) in
      let inside = holds_along none position refl holds in
      let wide = length-replicate {A = ℕ} (length range.shape) 0 in
      let b = inside.below at.0 (let b = at.1 in omega (arith, wide)) in
      let z = get_or-replicate {A = ℕ} (length range.shape) at.0 0 0 at.1 in
      absurd (omega arith)

  pub range_boxed : (index : List ℕ) → Contains (positions range) index → has_box layout.grid index ≡ true
  range_boxed index among = elim (cases_Bool (is_empty range)) [
    | inl empty ↦ absurd (no_index empty index among)
    | inr some ↦
        let is = accepted_range layout range long some (accepted some) in
        let wide = box_of_range layout.grid range in
        range_has layout.grid lawful.grid range long is wide index (listed layout.grid lawful.grid range long is wide index among)
  ]

  pub range_meets : (position : List ℕ) → Holds (chunks_box layout.grid range) position → Contains (positions range) (index_at layout.grid position)
  range_meets position =
      elim (is_empty range) as (λ v. is_empty range ≡ v → Holds (cond v (empty_box (length range.shape)) (range_box layout.grid range)) position → Contains (positions range) (index_at layout.grid position)) [
        | true ↦ λ empty holds. absurd (no_position empty position holds)
        | false ↦ λ some holds.
            range_contains layout.grid lawful.grid range long (accepted_range layout range long some (accepted some)) (box_of_range layout.grid range) position holds
      ] refl

  pub range_covered : (position : List ℕ) → Holds (chunks_box layout.grid range) position → is_covered layout.grid position ≡ true
  range_covered position =
      elim (is_empty range) as (λ v. is_empty range ≡ v → Holds (cond v (empty_box (length range.shape)) (range_box layout.grid range)) position → is_covered layout.grid position ≡ true) [
        | true ↦ λ empty holds. absurd (no_position empty position holds)
        | false ↦ λ some holds.
            let is = accepted_range layout range long some (accepted some) in
            let wide = box_of_range layout.grid range in
            let found = (range_fills layout.grid lawful.grid range is position).0 (holds_along (range_box layout.grid range) position wide holds) in
            chunk_covered layout.grid lawful.grid found.0 position found.2
      ] refl

  pub range_whole : (index : List ℕ) → Contains (positions range) index → CoversBox (chunks_box layout.grid range) (box_at layout.grid index)
  range_whole index among position held =
      elim (is_empty range) as (λ v. is_empty range ≡ v → Holds (cond v (empty_box (length range.shape)) (range_box layout.grid range)) position) [
        | true ↦ λ empty. absurd (no_index empty index among)
        | false ↦ λ some.
            range_covers layout.grid lawful.grid range long (accepted_range layout range long some (accepted some)) (box_of_range layout.grid range) index among position held
      ] refl

-- a read of a range accepts it, if it has an index
pub takes_range : (layout : Layout) (shape : List ℕ) (range : Box) → read_chunks_refusal layout shape range ≡ None → is_empty range ≡ false → range_refusal layout range ≡ None
takes_range layout shape range none some =
    let later = λ (v : Bool). cond v None (option_or (range_refusal layout range) (size_refusal layout (range_box layout.grid range).shape)) in
    let second : later (is_empty range) ≡ None = (first_part (dimensions_refusal layout shape range) (later (is_empty range)) none).1 in
    (first_part (range_refusal layout range) (size_refusal layout (range_box layout.grid range).shape) (sym (ap later some) ∙ second)).0

-- where an accepted read is, its arguments refuse nothing
pub both_none : (a b : Option Refusal) → a ≡ None → b ≡ None → option_or a b ≡ None
both_none None b one two = two
both_none (Some x) b one two = absurd (cc)

located_range : (layout : Layout) (shape : List ℕ) (range : Box) → read_chunks_refusal layout shape range ≡ None
    → option_or (dimensions_refusal layout shape range) (cond (is_empty range) None (range_refusal layout range)) ≡ None
located_range layout shape range none =
    let later = λ (v : Bool). cond v None (option_or (range_refusal layout range) (size_refusal layout (range_box layout.grid range).shape)) in
    both_none (dimensions_refusal layout shape range) (cond (is_empty range) None (range_refusal layout range))
    (first_part (dimensions_refusal layout shape range) (later (is_empty range)) none).0
    (elim (is_empty range) as (λ v. is_empty range ≡ v → cond v None (range_refusal layout range) ≡ None) [
      | true ↦ λ empty. refl
      | false ↦ λ some. takes_range layout shape range none some
    ] refl)

located_part : (layout : Layout) (index : List ℕ) (part : Box) → read_part_refusal layout index part ≡ None
    → option_or (chunk_refusal layout index) (part_refusal layout index part) ≡ None
located_part layout index part none =
    let parts = first_part (chunk_refusal layout index) _ none in
    both_none (chunk_refusal layout index) (part_refusal layout index part) parts.0 (first_part (part_refusal layout index part) _ parts.1).0

-- the call reads
abbrev pub IsRead : Call → Type 0
IsRead (call.RetrieveChunkIfExists index) = Unit {0}
IsRead (call.RetrieveChunk index) = Unit {0}
IsRead (call.RetrieveChunks range) = Unit {0}
IsRead (call.RetrieveChunkSubset index part) = Unit {0}
IsRead (call.RetrieveArraySubset region) = Unit {0}
IsRead _ = ⊥

-- of reads: a read changes nothing, so the other store is left as it was
abbrev pub ReadsDependOnTheReach : Type 0
ReadsDependOnTheReach =
    (layout : Layout) → IsLawful layout → (keep : Bool) (call : Call) (reply : Reply) (a b new_a : ArrayState)
    → IsRead call → AgreeFor layout call a b → Step layout keep call reply a new_a → Step layout keep call reply b b

pub reads_depend : ReadsDependOnTheReach
reads_depend layout lawful keep (call.RetrieveChunkIfExists index) reply a b new_a is agree s = (
  refl,
  whole_depends layout lawful keep b.shape a.store b.store false index.items (outcome_of reply) new_a.store (λ long. agree.reach refl index.items long refl)
      (subst (λ shape. ActOutcome layout keep shape (length_refusal layout index.items) (read_chunk false index.items) (outcome_of reply) a.store new_a.store) (sym agree.shape) s.1),
)
reads_depend layout lawful keep (call.RetrieveChunk index) reply a b new_a is agree s = (
  refl,
  whole_depends layout lawful keep b.shape a.store b.store true index.items (outcome_of reply) new_a.store (λ long. agree.reach refl index.items long refl)
      (subst (λ shape. ActOutcome layout keep shape (length_refusal layout index.items) (read_chunk true index.items) (outcome_of reply) a.store new_a.store) (sym agree.shape) s.1),
)
reads_depend layout lawful keep (call.RetrieveArraySubset region) reply a b new_a is agree s =
    let box = box_of region in
    let act = read box (chunks_met layout.grid box) in (
      refl,
      region_depends layout lawful keep b.shape a.store b.store box (outcome_of reply) new_a.store region.same_length
          (λ none index among long. agree.reach (subst (λ shape. region_refusal layout shape box ≡ None) agree.shape (takes_region layout b.shape box none)) index long among)
          (subst (λ shape. ActOutcome layout keep shape (read_region_refusal layout shape box) act (outcome_of reply) a.store new_a.store) (sym agree.shape) s.1),
    )
reads_depend layout lawful keep (call.RetrieveChunks range) reply a b new_a is agree s =
    let box = box_of range in
    let act = read (chunks_box layout.grid box) (positions box) in
    let takes = λ (none : read_chunks_refusal layout b.shape box ≡ None). takes_range layout b.shape box none in (
      refl,
      chunks_depend layout lawful keep b.shape a.store b.store (read_chunks_refusal layout b.shape box) (chunks_box layout.grid box) (positions box)
          (λ none. range_covered layout lawful box range.same_length (takes none)) (λ none. range_boxed layout lawful box range.same_length (takes none)) (λ none. range_meets layout lawful box range.same_length (takes none))
          (λ none index among long. agree.reach (subst (λ shape. option_or (dimensions_refusal layout shape box) (cond (is_empty box) None (range_refusal layout box)) ≡ None) agree.shape (located_range layout b.shape box none)) index long among)
          (outcome_of reply) new_a.store
          (subst (λ shape. ActOutcome layout keep shape (read_chunks_refusal layout shape box) act (outcome_of reply) a.store new_a.store) (sym agree.shape) s.1),
    )
reads_depend layout lawful keep (call.RetrieveChunkSubset index part) reply a b new_a is agree s =
    let i = index.items in
    let box = box_of part in
    let whole = is_whole_of (box_at layout.grid i).shape box in (
      elim whole as (λ v. b.shape ≡ shape_left (part_act layout lawful keep b.shape a.store b.store i box (λ none long. agree.reach (located_part layout i box none) i long refl) v) (outcome_of reply) b.shape) [ true ↦ refl | false ↦ refl ],
      part_depends layout lawful keep b.shape a.store b.store i box (λ none long. agree.reach (located_part layout i box none) i long refl) whole (outcome_of reply) new_a.store
          (subst (λ shape. ActOutcome layout keep shape (read_part_refusal layout i box) (read_part_act layout i box) (outcome_of reply) a.store new_a.store) (sym agree.shape) s.1),
    )
reads_depend layout lawful keep other reply a b new_a is agree s = absurd is
