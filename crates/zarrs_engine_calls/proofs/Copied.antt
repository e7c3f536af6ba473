-- Writes of stores that agree where a write may ask: the bytes that a write left in the one store, at the keys of the chunks
-- that are done, are what it may leave in the other.
use Rattle.std.proofs.Common.{◌≡◌, ◌≢◌, ◌==◌, ◌<◌, ◌+◌, ◌⊎◌, not, ℕ, zero, suc, Bool, true, false, cond, List, [], ◌∷◌, length, take}
use Rattle.std.proofs.Common.{bytes_eq, Contains, Option, Some, None, refl, sym, ◌∙◌, ap, subst, inl, inr, arith}
use Rattle.std.specs.FinMap as map
use Rattle.std.specs.Prelude.{if◌then◌else◌}
use Rattle.std.proofs.lemmas.Bool.{cases_Bool, false≢true}
use Rattle.std.proofs.lemmas.Slice.Eq.{bytes_eq-Decides}
use Rattle.std.proofs.Math.Seq.{take-length}
use Rattle.std.proofs.Math.Nat.{mul-pos}
use Rattle.std.specs.Prelude.{nat_le, ◌^◌, ◌*◌, ◌-◌, ◌||◌}
use Rattle.std.specs.List.{filter, list_any}
use Rattle.std.proofs.lemmas.Option.{slice_get_within, get_or_from_slice_get}
use Rattle.zarrs_subset.specs.Boxes.{position_count, zip_with}
use Rattle.zarrs_subset.specs.Regions.{Box, IsLong, Holds, box_at_origin, box_of, in_box, cell_in, positions}
use Rattle.zarrs_chunk_grid.specs.Grids.{Grid, box_at, chunks_box, has_box, index_at, is_covered, range_box}
use Rattle.zarrs_chunk_grid.proofs.Chunks.{box_is_there, box_covered, box_index}
use Rattle.zarrs_keys.specs.Keys.{IsIndexList}
use Rattle.zarrs_storage.specs.Store.{StoreState, Values}
use Rattle.zarrs_storage.proofs.ValuesLemmas.{get_inserted, get_removed}
use Rattle.zarrs_data_type.specs.Cell.{Cell}
use Rattle.zarrs_data_type.specs.ArrayData.{ArrayData, data_of}
use Rattle.zarrs_engine_calls.specs.Layout.{ArrayState, Layout, IsLawful}
use Rattle.zarrs_engine_calls.specs.Content.{value_at, content, chunk_cell}
use Rattle.zarrs_engine_calls.specs.Refusals as refusal
use Rattle.zarrs_engine_calls.specs.Refusals.{Refusal, RefusesBy, box_refusal, length_refusal}
use Rattle.zarrs_engine_calls.specs.Changes.{ChangesKeysOf, Erases, IsValueOf, Makes}
use Rattle.zarrs_engine_calls.specs.ChunkBoxes.{chunks_met, is_empty, is_part_of, last_of, part_box}
use Rattle.zarrs_engine_calls.specs.Cuts.{Cuts, cut_chunks, is_below, is_cut, keeps_some}
use Rattle.zarrs_engine_calls.proofs.Below.{cut_right}
use Rattle.zarrs_engine_calls.proofs.CutLaws.{and_left}
use Rattle.zarrs_engine_calls.proofs.CutLoops.{cuts_all}
use Rattle.zarrs_engine_calls.specs.Fronts.{CutsAll, ErasesAll, Front, HasWriteCause, StoresAll, Takes}
use Rattle.zarrs_engine_calls.specs.StateRefusals.{AreUpdated, CallFails, IsCutAs, IsPart, IsRefusedAs, RefusesCut, RefusesErasure, RefusesKeptCut, RefusesPart}
use Rattle.zarrs_engine_calls.specs.Acts.{act_of, compact, erase, resize, shape_left, store}
use Rattle.zarrs_engine_calls.specs.ArgumentRefusals.{argument_refusal, cells_refusal, chunk_refusal, part_refusal, range_refusal, region_data_refusal, region_refusal}
use Rattle.zarrs_engine_calls.specs.ArgumentRefusals.{resize_refusal, store_chunk_refusal, store_chunks_refusal, store_part_refusal, store_region_refusal}
use Rattle.zarrs_engine_calls.specs.Compactions.{CompactsChunk, RefusesCompactionOf, compaction_refusal}
use Rattle.std.specs.Option.{option_or}
use Rattle.std.proofs.lemmas.Map.Views.{exact_unsigned_eq}
use Rattle.zarrs_engine_calls.proofs.Ranges.{is_chunk}
use Rattle.zarrs_engine_calls.specs.Outcome as outcome
use Rattle.zarrs_engine_calls.specs.Outcome.{Outcome, outcome_of}
use Rattle.zarrs_engine_calls.specs.declared.call.Call.{Call}
use Rattle.zarrs_engine_calls.specs.declared.call.Call.TheVariants as call
use Rattle.zarrs_engine_calls.specs.Step.{ActOutcome, RefusesCompact, RefusesCuts, RefusesErase, RefusesStore}
use Rattle.zarrs_engine_calls.specs.declared.call.Reply.{Reply}
use Rattle.zarrs_engine_calls.specs.Step.{Step}
use Rattle.zarrs_engine_calls.specs.Acts.{read, read_chunk}
use Rattle.zarrs_engine_calls.specs.ChunkBoxes.{is_whole_of}
use Rattle.zarrs_engine_calls.specs.Reached.{AgreeAt, AgreeFor, AnswersDependOnTheReach, AreChangedAlike}
use Rattle.zarrs_engine_calls.proofs.Reached.{reads_depend}
use Rattle.zarrs_engine_calls.proofs.Reached.{both_none, broken, first_part, large_box, large_fill, one_boxed, part_meets, range_boxed, range_meets, range_whole, region_boxed, region_meets, said_true}
use Rattle.zarrs_engine_calls.proofs.RefusalLemmas.{box_accepted}
use Rattle.zarrs_engine_calls.proofs.Contents.{content_covered, content_in_box, content_uncovered, covered_has_box, in_chunk, index_list, member, one_key, only_member}
use Rattle.zarrs_engine_calls.proofs.Headline.{front_keys, in_front}
use Rattle.zarrs_engine_calls.proofs.Loops.{erases_all, put_changes}
use Rattle.zarrs_engine_calls.proofs.Shapes.{among_or_not}

-- ---- some keys' bytes, taken from another store

abbrev put_value : Values → List ℕ → Option (List ℕ) → Values
put_value m key None = map.remove m key
put_value m key (Some value) = map.insert m key value

get_put : (m : Values) (key : List ℕ) (value : Option (List ℕ)) (q : List ℕ) → map.get (put_value m key value) q ≡ cond (bytes_eq q key) value (map.get m q)
get_put m key None q = get_removed m key q
get_put m key (Some value) q = get_inserted m key value q

module _ (key : List ℕ → List ℕ) (from : List ℕ → Option (List ℕ)) where
  abbrev copied : List (List ℕ) → Values → Values
  copied [] m = m
  copied (i ∷ indices) m = put_value (copied indices m) (key i) (from (key i))

  not_first : (q i : List ℕ) → q ≢ key i → bytes_eq q (key i) ≡ false
  not_first q i apart = elim (cases_Bool (bytes_eq q (key i))) [ inl is ↦ absurd (apart ((bytes_eq-Decides q (key i)).0 is)) | inr out ↦ out ]

  copied_others : (indices : List (List ℕ)) (m : Values) (q : List ℕ) → ((i : List ℕ) → Contains indices i → q ≢ key i) → map.get (copied indices m) q ≡ map.get m q
  copied_others [] m q apart = refl
  copied_others (i ∷ indices) m q apart =
      get_put (copied indices m) (key i) (from (key i)) q
      ∙ ap (λ b. cond b (from (key i)) (map.get (copied indices m) q)) (not_first q i (apart i (0, omega arith, refl)))
      ∙ copied_others indices m q (λ j among. let b = among.1 in apart j (suc among.0, omega arith, among.2))

  later : (j : List ℕ) (indices : List (List ℕ)) (i : List ℕ) → Contains (j ∷ indices) i → (j ≡ i → ⊥) → Contains indices i
  later j indices i (zero, below, at) apart = absurd (apart at)
  later j indices i (suc k, below, at) apart = (k, omega arith, at)

  copied_here : (indices : List (List ℕ)) (m : Values) (i : List ℕ) → Contains indices i → map.get (copied indices m) (key i) ≡ from (key i)
  copied_here [] m i among = let b = among.1 in absurd (omega arith)
  copied_here (j ∷ indices) m i among =
      get_put (copied indices m) (key j) (from (key j)) (key i)
      ∙ (elim (cases_Bool (bytes_eq (key i) (key j))) [
        | inl is ↦
            ap (λ b. cond b (from (key j)) (map.get (copied indices m) (key i))) is
            ∙ ap from (sym ((bytes_eq-Decides (key i) (key j)).0 is))
        | inr out ↦
            ap (λ b. cond b (from (key j)) (map.get (copied indices m) (key i))) out
            ∙ copied_here indices m i (later j indices i among (λ same. false≢true (sym out ∙ (bytes_eq-Decides (key i) (key j)).1 (ap key (sym same)))))
      ])

  none_of : (j : List ℕ) (indices : List (List ℕ)) (q : List ℕ) → q ≢ key j → ((i : List ℕ) → Contains indices i → q ≢ key i) → (i : List ℕ) → Contains (j ∷ indices) i → q ≢ key i
  none_of j indices q first rest i (zero, below, at) is = first (is ∙ ap key (sym at))
  none_of j indices q first rest i (suc k, below, at) is = rest i (k, omega arith, at) is

  -- the key is one of these, or none of them
  one_or_none : (indices : List (List ℕ)) (q : List ℕ) → ((i : List ℕ) × Contains indices i × (q ≡ key i)) ⊎ ((i : List ℕ) → Contains indices i → q ≢ key i)
  one_or_none [] q = inr (λ i among is. let b = among.1 in absurd (omega arith))
  one_or_none (j ∷ indices) q = elim (cases_Bool (bytes_eq q (key j))) [
    | inl is ↦ inl (j, (0, omega arith, refl), (bytes_eq-Decides q (key j)).0 is)
    | inr out ↦ elim (one_or_none indices q) [
      | inl (i, among, is) ↦ let b = among.1 in inl (i, (suc among.0, omega arith, among.2), is)
      | inr apart ↦ inr (none_of j indices q (λ is. false≢true (sym out ∙ (bytes_eq-Decides q (key j)).1 is)) apart)
    ]
  ]

-- at each key the same bytes are present in the end, or both stores have what they had
abbrev SameOrKept : (a b new_a new_b : StoreState) → Type 0
SameOrKept a b new_a new_b =
    (key : List ℕ) → (value_at new_b key ≡ value_at new_a key) ⊎ ((value_at new_a key ≡ value_at a key) × (value_at new_b key ≡ value_at b key))

-- ---- the other store after the write

module _ (layout : Layout) (was_a now_a was_b : StoreState) where
  abbrev now_b : List (List ℕ) → ℕ → ℕ → StoreState
  now_b chunks done failed = record was_b {
    values = copied layout.key (value_at now_a) (take done chunks) was_b.values;
    calls = was_b.calls + done + failed;
    failures = was_b.failures + failed;
  }

  front_copied : (changed_a changed_b : List (List ℕ) → Type 0) (chunks : List (List ℕ)) (done failed : ℕ) → Front Makes changed_a chunks done failed was_a now_a
      → (changed_a (take done chunks) → changed_b (take done chunks)) → Front Makes changed_b chunks done failed was_b (now_b chunks done failed)
  front_copied changed_a changed_b chunks done failed front step = record {
    within = front.within;
    untouched = λ none. ap (λ n. copied layout.key (value_at now_a) (take n chunks) was_b.values) none;
    changes = λ some. step (front.changes some);
    makes = record { calls = refl; failures = refl; reach = record { refuses = λ key. refl; may_ask = λ key. refl; may_read = λ key place. refl; sets_parts = refl; lenders = refl; parts = refl } };
  }

  copied_alike : (chunks : List (List ℕ)) (done failed : ℕ) → ChangesKeysOf layout (take done chunks) was_a now_a → SameOrKept was_a was_b now_a (now_b chunks done failed)
  copied_alike chunks done failed keys key = elim (one_or_none layout.key (value_at now_a) (take done chunks) key) [
    | inl (i, among, is) ↦
        inl (ap (value_at (now_b chunks done failed)) is ∙ copied_here layout.key (value_at now_a) (take done chunks) was_b.values i among ∙ ap (value_at now_a) (sym is))
    | inr apart ↦ inr (keys key apart, copied_others layout.key (value_at now_a) (take done chunks) was_b.values key apart)
  ]

-- ---- erasures

module _ (layout : Layout) (lawful : IsLawful layout) (was_a now_a was_b now_b : StoreState) (done : List (List ℕ))
    (held : (index : List ℕ) → Contains done index → value_at now_b (layout.key index) ≡ value_at now_a (layout.key index))
    (others : ChangesKeysOf layout done was_b now_b) where
  -- the content hangs on the bytes at one key
  cell_from : (x y : StoreState) (position : List ℕ) → is_covered layout.grid position ≡ true
      → value_at y (layout.key (index_at layout.grid position)) ≡ value_at x (layout.key (index_at layout.grid position))
      → content layout (value_at y) position ≡ content layout (value_at x) position
  cell_from x y position covered same =
      content_covered layout (value_at y) position covered
      ∙ ap (λ t. chunk_cell layout t (box_at layout.grid (index_at layout.grid position)) position) same
      ∙ sym (content_covered layout (value_at x) position covered)

  no_cell : (x y : StoreState) (position : List ℕ) → is_covered layout.grid position ≡ false → content layout (value_at y) position ≡ content layout (value_at x) position
  no_cell x y position uncovered = content_uncovered layout (value_at y) position uncovered ∙ sym (content_uncovered layout (value_at x) position uncovered)

  -- of a chunk that is not done
  other_cell : ((index : List ℕ) → Contains done index → IsIndexList layout.grid.dimensions index) → (position : List ℕ) → is_covered layout.grid position ≡ true
      → (Contains done (index_at layout.grid position) → ⊥) → content layout (value_at now_b) position ≡ content layout (value_at was_b) position
  other_cell long position covered apart =
      let index = index_at layout.grid position in
      cell_from was_b now_b position covered (others (layout.key index) (λ i among same.
      apart (subst (Contains done) (sym (one_key layout lawful index i (index_list layout lawful index (covered_has_box layout lawful position covered)) (long i among) same)) among)))

  erases_copied : Erases layout done was_a now_a → Erases layout done was_b now_b
  erases_copied e = record {
    inside = λ position covered among. cell_from now_a now_b position covered (held (index_at layout.grid position) among) ∙ e.inside position covered among;
    outside = λ position out. elim (cases_Bool (is_covered layout.grid position)) [
      | inl covered ↦ other_cell e.long position covered (out covered)
      | inr uncovered ↦ no_cell was_b now_b position uncovered
    ];
    keys = others;
    long = e.long;
    absent = λ index among. held index among ∙ e.absent index among;
  }

  cuts_copied : (keep : Bool) (wanted : List ℕ)
      → ((index : List ℕ) → Contains done index → has_box layout.grid index ≡ true → keeps_some layout.grid wanted index ≡ true
      → value_at was_b (layout.key index) ≡ value_at was_a (layout.key index))
      → Cuts layout keep wanted done was_a now_a → Cuts layout keep wanted done was_b now_b
  cuts_copied keep wanted agree c = record {
    inside = λ position covered among past. cell_from now_a now_b position covered (held (index_at layout.grid position) among) ∙ c.inside position covered among past;
    outside = λ position out. elim (cases_Bool (is_covered layout.grid position)) [
      | inr uncovered ↦ no_cell was_b now_b position uncovered
      | inl covered ↦
          let index = index_at layout.grid position in
          elim (among_or_not done index) [
            | inr apart ↦ other_cell (λ i among. index_list layout lawful i (c.boxed i among)) position covered apart
            | inl among ↦
                let has = c.boxed index among in
                let below : is_below wanted position ≡ true = elim (cases_Bool (is_below wanted position)) [ inl is ↦ is | inr past ↦ absurd (out covered among past) ] in
                let kept = (cut_right layout.grid lawful.grid wanted index has).kept.1 (position, in_chunk layout lawful index position covered refl, below) in
                cell_from now_a now_b position covered (held index among) ∙ c.outside position out
                ∙ sym (cell_from was_a was_b position covered (agree index among has kept))
          ]
    ];
    keys = others;
    boxed = c.boxed;
    gone = λ index among none. held index among ∙ c.gone index among none;
    held = λ index among kept.
        let h = c.held index among kept in
        let there = box_is_there layout.grid index (c.boxed index among) in (
          h.0,
          record {
            count = h.1.count;
            each = λ position holds.
                let is = box_index layout.grid lawful.grid index position there holds in
                cell_from now_a now_b position (box_covered layout.grid lawful.grid index position there holds)
                (held (index_at layout.grid position) (subst (Contains done) (sym is) among)) ∙ h.1.each position holds;
          },
          subst (IsValueOf layout keep (box_at layout.grid index) h.0) (sym (held index among)) h.2,
        );
  }

  takes_copied : (keep : Bool) (region : Box) (data_held : ArrayData)
      → ((index : List ℕ) → Contains done index → IsPart layout region index → value_at was_b (layout.key index) ≡ value_at was_a (layout.key index))
      → Takes layout keep region data_held done was_a now_a → Takes layout keep region data_held done was_b now_b
  takes_copied keep region data_held agree t =
      let u = t.stores.updates in
      record {
        given = t.given;
        are_cells = t.are_cells;
        count = t.count;
        stores = record {
          updates = record {
            inside = λ position holds among. elim (cases_Bool (is_covered layout.grid position)) [
              | inl covered ↦ cell_from now_a now_b position covered (held (index_at layout.grid position) among) ∙ u.inside position holds among
              | inr uncovered ↦ no_cell now_a now_b position uncovered ∙ u.inside position holds among
            ];
            outside = λ position out. elim (cases_Bool (is_covered layout.grid position)) [
              | inl covered ↦
                  let index = index_at layout.grid position in
                  elim (among_or_not done index) [
                    | inl among ↦
                        cell_from now_a now_b position covered (held index among) ∙ u.outside position out
                        ∙ sym (cell_from was_a was_b position covered (agree index among (λ covers. out (covers position (in_chunk layout lawful index position covered refl)) among)))
                    | inr apart ↦ other_cell (λ i among. index_list layout lawful i (u.boxed i among)) position covered apart
                  ]
              | inr uncovered ↦ no_cell was_b now_b position uncovered
            ];
            keys = others;
            boxed = u.boxed;
          };
          held = λ index among.
              let h = t.stores.held index among in
              let there = box_is_there layout.grid index (u.boxed index among) in (
                h.0,
                record {
                  count = h.1.count;
                  each = λ position holds.
                      let is = box_index layout.grid lawful.grid index position there holds in
                      cell_from now_a now_b position (box_covered layout.grid lawful.grid index position there holds)
                      (held (index_at layout.grid position) (subst (Contains done) (sym is) among)) ∙ h.1.each position holds;
                },
                subst (IsValueOf layout keep (box_at layout.grid index) h.0) (sym (held index among)) h.2,
              );
        };
      }

-- ---- erasures and stores, accepted and refused

-- a refused store of a chunk, in a state that agrees at its key if the region covers a part of it
module _ (layout : Layout) (lawful : IsLawful layout) (keep : Bool) (region : Box) (held : ArrayData) (index : List ℕ) (failed : ℕ) (x y : StoreState)
    (has : has_box layout.grid index ≡ true) (calls : y.calls ≡ x.calls)
    (same : IsPart layout region index → AgreeAt layout x y index) where
  cell_late : (position : List ℕ) → Holds (box_at layout.grid index) position → in_box region position ≡ false
      → content layout (value_at y) position ≡ content layout (value_at x) position
  cell_late position holds out =
      content_in_box layout (value_at y) lawful index has position holds
      ∙ ap (λ t. chunk_cell layout t (box_at layout.grid index) position) (same (λ covers. false≢true (sym out ∙ covers position holds))).values
      ∙ sym (content_in_box layout (value_at x) lawful index has position holds)

  updated : (chunk : List Cell) → AreUpdated layout region held (box_at layout.grid index) x chunk → AreUpdated layout region held (box_at layout.grid index) y chunk
  updated chunk u = record {
    given = u.given;
    are_cells = u.are_cells;
    count = u.count;
    each = λ position holds.
        let put = cell_in region u.given position in
        let was = content layout (value_at x) position in
        let now = content layout (value_at y) position in
        u.each position holds ∙ (elim (cases_Bool (in_box region position)) [
          | inl hit ↦ ap (λ b. cond b put was) hit ∙ sym (ap (λ b. cond b put now) hit)
          | inr out ↦ ap (λ b. cond b put was) out ∙ sym (cell_late position holds out) ∙ sym (ap (λ b. cond b put now) out)
        ]);
  }

  refused_as : (r : Option Refusal) → IsRefusedAs layout keep region held index x r → IsRefusedAs layout keep region held index y r
  refused_as r such = (such.0, updated such.0 such.1, such.2)

  fails_late : CallFails failed x → CallFails failed y
  fails_late (inl one) = inl one
  fails_late (inr last) = inr (calls ∙ last)

  part_late : (r : Refusal) → RefusesPart layout keep region held index failed x r → RefusesPart layout keep region held index failed y r
  part_late refusal.storage (inl (none, small, part, is)) = inl (none, small, part, (same part).refuses ∙ is)
  part_late refusal.storage (inr (small, such, fails)) = inr (small, refused_as None such, fails_late fails)
  part_late refusal.codec (none, small, inl (part, bad)) = (none, small, inl (part, broken layout lawful x y index (same part) bad))
  part_late refusal.codec (none, small, inr such) = (none, small, inr (refused_as (Some refusal.codec) such))
  part_late refusal.size_overflow (none, inl large) = (none, inl large)
  part_late refusal.size_overflow (none, inr (inl (part, inl large))) = (none, inr (inl (part, inl (large_box layout lawful x y index (same part) has large))))
  part_late refusal.size_overflow (none, inr (inl (part, inr fill))) = (none, inr (inl (part, inr (large_fill layout lawful x y index (same part) fill))))
  part_late refusal.size_overflow (none, inr (inr such)) = (none, inr (inr (refused_as (Some refusal.size_overflow) such)))
  part_late refusal.out_of_memory why = why
  part_late r why = absurd why

erasure_late : (failed : ℕ) (x y : StoreState) → y.calls ≡ x.calls → (r : Refusal) → RefusesErasure failed x r → RefusesErasure failed y r
erasure_late failed x y calls refusal.storage (inl one) = inl one
erasure_late failed x y calls refusal.storage (inr last) = inr (calls ∙ last)
erasure_late failed x y calls refusal.out_of_memory why = why
erasure_late failed x y calls r why = absurd why

module _ (layout : Layout) (lawful : IsLawful layout) (keep : Bool) (chunks : List (List ℕ)) (a now_a b : StoreState) (calls : b.calls ≡ a.calls) where
  abbrev after_b : ℕ → ℕ → StoreState
  after_b done failed = now_b layout a now_a b chunks done failed

  here : (done failed : ℕ) (i : List ℕ) → Contains (take done chunks) i → value_at (after_b done failed) (layout.key i) ≡ value_at now_a (layout.key i)
  here done failed i among = copied_here layout.key (value_at now_a) (take done chunks) b.values i among

  elsewhere : (done failed : ℕ) → ChangesKeysOf layout (take done chunks) b (after_b done failed)
  elsewhere done failed key apart = copied_others layout.key (value_at now_a) (take done chunks) b.values key apart

  all_here : (i : List ℕ) → Contains chunks i → value_at (after_b (length chunks) 0) (layout.key i) ≡ value_at now_a (layout.key i)
  all_here i among = here (length chunks) 0 i (subst (λ (l : List (List ℕ)). Contains l i) (sym (take-length chunks)) among)

  all_elsewhere : ChangesKeysOf layout chunks b (after_b (length chunks) 0)
  all_elsewhere key apart = elsewhere (length chunks) 0 key (λ i among. apart i (subst (λ (l : List (List ℕ)). Contains l i) (take-length chunks) among))

  -- the other store has made as many writing calls
  same_calls : (changed : List (List ℕ) → Type 0) (done failed : ℕ) → Front Makes changed chunks done failed a now_a → (after_b done failed).calls ≡ now_a.calls
  same_calls changed done failed front = ap (λ n. n + done + failed) calls ∙ sym front.makes.calls

  abbrev Other : (StoreState → Type 0) → Type 0
  Other P = (new : StoreState) × P new × AreChangedAlike a b now_a new

  erase_front : (done failed : ℕ) → Front Makes (λ indices. Erases layout indices a now_a) chunks done failed a now_a
      → Front Makes (λ indices. Erases layout indices b (after_b done failed)) chunks done failed b (after_b done failed)
  erase_front done failed front =
      front_copied layout a now_a b (λ indices. Erases layout indices a now_a) (λ indices. Erases layout indices b (after_b done failed)) chunks done failed front
      (λ e. erases_copied layout lawful a now_a b (after_b done failed) (take done chunks) (here done failed) (elsewhere done failed) e)

  erase_done : ErasesAll layout chunks a now_a → Other (ErasesAll layout chunks b)
  erase_done e = (
    after_b (length chunks) 0,
    erases_all layout chunks b (after_b (length chunks) 0)
        (erases_copied layout lawful a now_a b (after_b (length chunks) 0) chunks all_here all_elsewhere e.erases)
        (erase_front (length chunks) 0 e.front),
    record {
      values = copied_alike layout a now_a b chunks (length chunks) 0 (front_keys layout a now_a (λ indices. Erases layout indices a now_a) chunks (length chunks) 0 (λ e. e.keys) e.front);
      calls = same_calls _ (length chunks) 0 e.front;
    },
  )

  erase_refused : (first : Option Refusal) (r : Refusal) → RefusesErase layout first chunks r a now_a → Other (RefusesErase layout first chunks r b)
  erase_refused first r s =
      let same = same_calls _ s.done s.failed s.front in (
        after_b s.done s.failed,
        record {
          done = s.done;
          failed = s.failed;
          front = erase_front s.done s.failed s.front;
          below = s.below;
          one = s.one;
          counted = λ some is. s.counted some (sym same ∙ is);
          cause = elim s.cause [
            | inl early ↦ inl early
            | inr (index, at, why) ↦ inr (index, at, (why.0, erasure_late s.failed now_a (after_b s.done s.failed) same r why.1))
          ];
        },
        record {
          values = copied_alike layout a now_a b chunks s.done s.failed (front_keys layout a now_a (λ indices. Erases layout indices a now_a) chunks s.done s.failed (λ e. e.keys) s.front);
          calls = same;
        },
      )

  -- the cause of a refusal: before any chunk, or none of it is what the arguments decide
  agree_in : (first : Option Refusal) (early : Type 0) (late : List ℕ → ℕ → Type 0) (region : Box) (done failed : ℕ)
      → HasWriteCause chunks early (λ index failed. (first ≡ None) × late index failed) done failed
      → (first ≡ None → (index : List ℕ) → Contains chunks index → has_box layout.grid index ≡ true → IsPart layout region index
      → value_at b (layout.key index) ≡ value_at a (layout.key index))
      → (index : List ℕ) → Contains (take done chunks) index → has_box layout.grid index ≡ true → IsPart layout region index
      → value_at b (layout.key index) ≡ value_at a (layout.key index)
  agree_in first early late region done failed (inl (e, zero_done, z)) agree index among has part =
      let none : Contains [] index = subst (λ n. Contains (take n chunks) index) zero_done among in
      let below = none.1 in
      absurd (omega arith)
  agree_in first early late region done failed (inr (i, at, why)) agree index among has part = agree why.0 index (in_front done chunks index among) has part

  module _ (region : Box) (held : ArrayData) where
    take_front : (done failed : ℕ)
        → ((index : List ℕ) → Contains (take done chunks) index → has_box layout.grid index ≡ true → IsPart layout region index
        → value_at b (layout.key index) ≡ value_at a (layout.key index))
        → Front Makes (λ indices. Takes layout keep region held indices a now_a) chunks done failed a now_a
        → Front Makes (λ indices. Takes layout keep region held indices b (after_b done failed)) chunks done failed b (after_b done failed)
    take_front done failed agree front =
        front_copied layout a now_a b (λ indices. Takes layout keep region held indices a now_a) (λ indices. Takes layout keep region held indices b (after_b done failed)) chunks done failed front
        (λ t. takes_copied layout lawful a now_a b (after_b done failed) (take done chunks) (here done failed) (elsewhere done failed) keep region held
        (λ index among part. agree index among (t.stores.updates.boxed index among) part) t)

    store_alike : (done failed : ℕ) → Front Makes (λ indices. Takes layout keep region held indices a now_a) chunks done failed a now_a → SameOrKept a b now_a (after_b done failed)
    store_alike done failed front =
        copied_alike layout a now_a b chunks done failed (front_keys layout a now_a (λ indices. Takes layout keep region held indices a now_a) chunks done failed (λ t. t.stores.updates.keys) front)

    store_done : ((index : List ℕ) → Contains chunks index → has_box layout.grid index ≡ true → IsPart layout region index
        → value_at b (layout.key index) ≡ value_at a (layout.key index))
        → ((position : List ℕ) → Holds region position → is_covered layout.grid position ≡ true → Contains chunks (index_at layout.grid position))
        → StoresAll layout keep region held chunks a now_a → Other (StoresAll layout keep region held chunks b)
    unfolding takes_copied
    store_done agree meet s =
        let new = after_b (length chunks) 0 in
        let t = takes_copied layout lawful a now_a b new chunks all_here all_elsewhere keep region held
        (λ index among part. agree index among (s.takes.stores.updates.boxed index among) part) s.takes in (
          new,
          record {
            takes = t;
            updates = λ position.
                let put = cell_in region s.takes.given position in
                elim (cases_Bool (in_box region position)) [
                  | inl hit ↦ elim (cases_Bool (is_covered layout.grid position)) [
                    | inl covered ↦ t.stores.updates.inside position hit (meet position hit covered) ∙ sym (ap (λ x. cond x put (content layout (value_at b) position)) hit)
                    | inr uncovered ↦
                        content_uncovered layout (value_at new) position uncovered ∙ sym (content_uncovered layout (value_at now_a) position uncovered)
                        ∙ s.updates position ∙ ap (λ x. cond x put (content layout (value_at a) position)) hit
                        ∙ sym (ap (λ x. cond x put (content layout (value_at b) position)) hit)
                  ]
                  | inr out ↦
                      t.stores.updates.outside position (λ holds among. false≢true (sym out ∙ holds))
                      ∙ sym (ap (λ x. cond x put (content layout (value_at b) position)) out)
                ];
            front = take_front (length chunks) 0 (λ index among. agree index (in_front (length chunks) chunks index among)) s.front;
          },
          record { values = store_alike (length chunks) 0 s.front; calls = same_calls _ (length chunks) 0 s.front },
        )

    store_refused : (first : Option Refusal) (r : Refusal)
        → (first ≡ None → (index : List ℕ) → Contains chunks index → has_box layout.grid index ≡ true → IsPart layout region index
        → AgreeAt layout a b index)
        → (first ≡ None → (index : List ℕ) → Contains chunks index → has_box layout.grid index ≡ true)
        → RefusesStore layout keep first region held chunks r a now_a → Other (RefusesStore layout keep first region held chunks r b)
    store_refused first r agree boxes s =
        let new = after_b s.done s.failed in
        let same = same_calls _ s.done s.failed s.front in
        let alike = store_alike s.done s.failed s.front in (
          new,
          record {
            done = s.done;
            failed = s.failed;
            front = take_front s.done s.failed (agree_in first _ (λ x n. RefusesPart layout keep region held x n now_a r) region s.done s.failed s.cause (λ none i among has part. (agree none i among has part).values)) s.front;
            below = s.below;
            one = s.one;
            counted = λ some is. s.counted some (sym same ∙ is);
            cause = elim s.cause [
              | inl early ↦ inl early
              | inr (index, at, why) ↦
                  let among : Contains chunks index = (s.done, slice_get_within chunks s.done index at, get_or_from_slice_get chunks s.done index _ at) in
                  let has = boxes why.0 index among in
                  inr (
                    index,
                    at,
                    (
                      why.0,
                      part_late layout lawful keep region held index s.failed now_a new has same
                          (λ part. record {
                            values = elim (alike (layout.key index)) [ inl is ↦ is | inr (x, y) ↦ y ∙ (agree why.0 index among has part).values ∙ sym x ];
                            refuses = (agree why.0 index among has part).refuses ∙ sym (s.front.makes.reach.refuses (layout.key index));
                          }) r why.1,
                    ),
                  )
            ];
          },
          record { values = alike; calls = same },
        )

    store_depends : (shape : List ℕ) (first : Option Refusal) (ended : Outcome)
        → (first ≡ None → (index : List ℕ) → Contains chunks index → has_box layout.grid index ≡ true → IsPart layout region index
        → AgreeAt layout a b index)
        → (first ≡ None → (index : List ℕ) → Contains chunks index → has_box layout.grid index ≡ true)
        → (first ≡ None → (position : List ℕ) → Holds region position → Contains chunks (index_at layout.grid position))
        → ActOutcome layout keep shape first (store region held chunks) ended a now_a → Other (ActOutcome layout keep shape first (store region held chunks) ended b)
    store_depends shape first outcome.done agree boxes meet s =
        let o = store_done (λ i among has part. (agree s.0 i among has part).values) (λ position holds covered. meet s.0 position holds) s.1 in (o.0, (s.0, o.1), o.2)
    store_depends shape first (outcome.refused r) agree boxes meet s = store_refused first r agree boxes s
    store_depends shape first ended agree boxes meet s = absurd s

  erase_depends : (shape : List ℕ) (first : Option Refusal) (ended : Outcome)
      → ActOutcome layout keep shape first (erase chunks) ended a now_a → Other (ActOutcome layout keep shape first (erase chunks) ended b)
  erase_depends shape first outcome.done s = let o = erase_done s.1 in (o.0, (s.0, o.1), o.2)
  erase_depends shape first (outcome.refused r) s = erase_refused first r s
  erase_depends shape first ended s = absurd s

-- the same act on an array of another shape, which is that shape
moved : (layout : Layout) (keep : Bool) (call : Call) (ended : Outcome) (a b : List ℕ) (old new : StoreState) → b ≡ a
    → ActOutcome layout keep a (argument_refusal layout a call) (act_of layout call) ended old new
    → ActOutcome layout keep b (argument_refusal layout b call) (act_of layout call) ended old new
moved layout keep call ended a b old new is =
    subst (λ shape. ActOutcome layout keep shape (argument_refusal layout shape call) (act_of layout call) ended old new) (sym is)

-- ---- changes of the shape

first_passes : (p : List ℕ → Bool) (y : List ℕ) (ys : List (List ℕ)) (x : List ℕ) → p y ≡ true → (Contains ys x → p x ≡ true) → Contains (y ∷ ys) x → p x ≡ true
first_passes p y ys x here rest (zero, below, at) = subst (λ z. p z ≡ true) at here
first_passes p y ys x here rest (suc k, below, at) = rest (k, omega arith, at)

filtered : (p : List ℕ → Bool) (xs : List (List ℕ)) (x : List ℕ) → Contains (filter p xs) x → p x ≡ true
filtered p [] x among = let b = among.1 in absurd (omega arith)
filtered p (y ∷ ys) x among =
    elim (p y) as (λ v. p y ≡ v → Contains (cond v (y ∷ filter p ys) (filter p ys)) x → p x ≡ true) [
      | true ↦ λ here. first_passes p y (filter p ys) x here (filtered p ys x)
      | false ↦ λ out. filtered p ys x
    ] refl among

cut_boxed : (grid : Grid) (shape wanted index : List ℕ) → Contains (cut_chunks grid shape wanted) index → has_box grid index ≡ true
cut_boxed grid shape wanted index among =
    and_left (has_box grid index) (not (is_below wanted (last_of (box_at grid index)))) (filtered (is_cut grid wanted) (positions (box_at_origin (grid.counts shape))) index among)

module _ (layout : Layout) (lawful : IsLawful layout) (keep : Bool) (wanted index : List ℕ) (failed : ℕ) (x y : StoreState)
    (has : has_box layout.grid index ≡ true) (calls : y.calls ≡ x.calls)
    (same : keeps_some layout.grid wanted index ≡ true → AgreeAt layout x y index) where
  cut_as : keeps_some layout.grid wanted index ≡ true → (r : Option Refusal) → IsCutAs layout keep wanted index x r → IsCutAs layout keep wanted index y r
  cut_as kept r such = (
    such.0,
    record {
      count = such.1.count;
      each = λ position holds.
          such.1.each position holds
          ∙ ap (λ o. cond (is_below wanted position) o (Some layout.fill))
          (sym (content_in_box layout (value_at y) lawful index has position holds
          ∙ ap (λ t. chunk_cell layout t (box_at layout.grid index) position) (same kept).values
          ∙ sym (content_in_box layout (value_at x) lawful index has position holds)));
    },
    such.2,
  )

  kept_late : keeps_some layout.grid wanted index ≡ true → (r : Refusal) → RefusesKeptCut layout keep wanted index failed x r → RefusesKeptCut layout keep wanted index failed y r
  kept_late kept refusal.storage (inl (none, small, is)) = inl (none, small, (same kept).refuses ∙ is)
  kept_late kept refusal.storage (inr (small, such, inl one)) = inr (small, cut_as kept None such, inl one)
  kept_late kept refusal.storage (inr (small, such, inr last)) = inr (small, cut_as kept None such, inr (calls ∙ last))
  kept_late kept refusal.codec (none, small, inl bad) = (none, small, inl (broken layout lawful x y index (same kept) bad))
  kept_late kept refusal.codec (none, small, inr such) = (none, small, inr (cut_as kept (Some refusal.codec) such))
  kept_late kept refusal.size_overflow (none, inl large) = (none, inl large)
  kept_late kept refusal.size_overflow (none, inr (inl (inl large))) = (none, inr (inl (inl (large_box layout lawful x y index (same kept) has large))))
  kept_late kept refusal.size_overflow (none, inr (inl (inr (inl fill)))) = (none, inr (inl (inr (inl (large_fill layout lawful x y index (same kept) fill)))))
  kept_late kept refusal.size_overflow (none, inr (inl (inr (inr gone)))) = (none, inr (inl (inr (inr gone))))
  kept_late kept refusal.size_overflow (none, inr (inr such)) = (none, inr (inr (cut_as kept (Some refusal.size_overflow) such)))
  kept_late kept refusal.out_of_memory why = why
  kept_late kept r why = absurd why

  cut_late : (r : Refusal) → RefusesCut layout keep wanted index failed x r → RefusesCut layout keep wanted index failed y r
  cut_late r why = record {
    gone = λ none. erasure_late failed x y calls r (why.gone none);
    kept = λ kept. kept_late kept r (why.kept kept);
  }

module _ (layout : Layout) (lawful : IsLawful layout) (keep : Bool) (shape wanted : List ℕ) (a now_a b : StoreState) (calls : b.calls ≡ a.calls)
    (first : Option Refusal)
    (agree : first ≡ None → (index : List ℕ) → Contains (cut_chunks layout.grid shape wanted) index → keeps_some layout.grid wanted index ≡ true → AgreeAt layout a b index) where
  abbrev cut_list : List (List ℕ)
  cut_list = cut_chunks layout.grid shape wanted

  abbrev after_cut : ℕ → ℕ → StoreState
  after_cut done failed = now_b layout a now_a b cut_list done failed

  abbrev Resized : (StoreState → Type 0) → Type 0
  Resized P = (new : StoreState) × P new × AreChangedAlike a b now_a new

  -- of the chunks that are cut, since the arguments are accepted then
  cut_agree : (early : Type 0) (late : List ℕ → ℕ → Type 0) (done failed : ℕ)
      → HasWriteCause cut_list early (λ index failed. (first ≡ None) × late index failed) done failed
      → (index : List ℕ) → Contains (take done cut_list) index → keeps_some layout.grid wanted index ≡ true → AgreeAt layout a b index
  cut_agree early late done failed (inl (e, zero_done, z)) index among kept =
      let none : Contains [] index = subst (λ n. Contains (take n cut_list) index) zero_done among in
      let below = none.1 in
      absurd (omega arith)
  cut_agree early late done failed (inr (i, at, why)) index among kept = agree why.0 index (in_front done cut_list index among) kept

  cut_front : (done failed : ℕ)
      → ((index : List ℕ) → Contains (take done cut_list) index → keeps_some layout.grid wanted index ≡ true → AgreeAt layout a b index)
      → Front Makes (λ indices. Cuts layout keep wanted indices a now_a) cut_list done failed a now_a
      → Front Makes (λ indices. Cuts layout keep wanted indices b (after_cut done failed)) cut_list done failed b (after_cut done failed)
  cut_front done failed same front =
      front_copied layout a now_a b (λ indices. Cuts layout keep wanted indices a now_a) (λ indices. Cuts layout keep wanted indices b (after_cut done failed)) cut_list done failed front
      (λ c. cuts_copied layout lawful a now_a b (after_cut done failed) (take done cut_list)
      (here layout lawful keep cut_list a now_a b calls done failed) (elsewhere layout lawful keep cut_list a now_a b calls done failed) keep wanted
      (λ index among has kept. (same index among kept).values) c)

  cut_alike : (done failed : ℕ) → Front Makes (λ indices. Cuts layout keep wanted indices a now_a) cut_list done failed a now_a → SameOrKept a b now_a (after_cut done failed)
  cut_alike done failed front =
      copied_alike layout a now_a b cut_list done failed (front_keys layout a now_a (λ indices. Cuts layout keep wanted indices a now_a) cut_list done failed (λ c. c.keys) front)

  cut_done : first ≡ None → CutsAll layout keep shape wanted a now_a → Resized (CutsAll layout keep shape wanted b)
  cut_done none s =
      let new = after_cut (length cut_list) 0 in (
        new,
        cuts_all layout lawful keep shape wanted b new
            (cuts_copied layout lawful a now_a b new cut_list (all_here layout lawful keep cut_list a now_a b calls) (all_elsewhere layout lawful keep cut_list a now_a b calls) keep wanted
            (λ index among has kept. (agree none index among kept).values) s.cuts)
            (cut_front (length cut_list) 0 (λ index among. agree none index (in_front (length cut_list) cut_list index among)) s.front),
        record { values = cut_alike (length cut_list) 0 s.front; calls = ap (λ n. n + length cut_list + 0) calls ∙ sym s.front.makes.calls },
      )

  cut_refused : (r : Refusal) → RefusesCuts layout keep shape first wanted r a now_a → Resized (RefusesCuts layout keep shape first wanted r b)
  cut_refused r s =
      let new = after_cut s.done s.failed in
      let same : new.calls ≡ now_a.calls = ap (λ n. n + s.done + s.failed) calls ∙ sym s.front.makes.calls in
      let alike = cut_alike s.done s.failed s.front in (
        new,
        record {
          done = s.done;
          failed = s.failed;
          front = cut_front s.done s.failed (cut_agree _ (λ x n. RefusesCut layout keep wanted x n now_a r) s.done s.failed s.cause) s.front;
          below = s.below;
          one = s.one;
          counted = λ some is. s.counted some (sym same ∙ is);
          cause = elim s.cause [
            | inl early ↦ inl early
            | inr (index, where_at, why) ↦
                let among : Contains cut_list index = (s.done, slice_get_within cut_list s.done index where_at, get_or_from_slice_get cut_list s.done index _ where_at) in
                inr (
                  index,
                  where_at,
                  (
                    why.0,
                    cut_late layout lawful keep wanted index s.failed now_a new (cut_boxed layout.grid shape wanted index among) same
                        (λ kept. record {
                          values = elim (alike (layout.key index)) [ inl is ↦ is | inr (x, y) ↦ y ∙ (agree why.0 index among kept).values ∙ sym x ];
                          refuses = (agree why.0 index among kept).refuses ∙ sym (s.front.makes.reach.refuses (layout.key index));
                        }) r why.1,
                  ),
                )
          ];
        },
        record { values = alike; calls = same },
      )

  cut_depends : (ended : Outcome) → ActOutcome layout keep shape first (resize wanted) ended a now_a
      → Resized (ActOutcome layout keep shape first (resize wanted) ended b)
  cut_depends outcome.done s = let o = cut_done s.0 s.1 in (o.0, (s.0, o.1), o.2)
  cut_depends (outcome.refused r) s = cut_refused r s
  cut_depends ended s = absurd s

-- an accepted index list has one number for each dimension
long_index : (layout : Layout) (index : List ℕ) → length_refusal layout index ≡ None → length index ≡ layout.grid.dimensions
long_index layout index =
    elim (length index == layout.grid.dimensions) as (λ v. (length index == layout.grid.dimensions) ≡ v → cond v None (Some (refusal.indices index)) ≡ None → length index ≡ layout.grid.dimensions) [
      | true ↦ λ is none. exact_unsigned_eq _ _ is
      | false ↦ λ is none. absurd (cc)
    ] refl

-- ---- compactions

module _ (layout : Layout) (lawful : IsLawful layout) (keep : Bool) (index : List ℕ) (a now_a b : StoreState) (calls : b.calls ≡ a.calls)
    (at : length index ≡ layout.grid.dimensions → AgreeAt layout a b index) where
  abbrev Compacted : (StoreState → Type 0) → Type 0
  Compacted P = (new : StoreState) × P new × AreChangedAlike a b now_a new

  compact_done : (answer : Bool) → length index ≡ layout.grid.dimensions → CompactsChunk layout index answer a now_a → Compacted (CompactsChunk layout index answer b)
  compact_done true long c =
      let new = now_b layout a now_a b (index ∷ []) 1 0 in (
        new,
        record {
          encoded = c.encoded;
          less = c.less;
          boxed = c.boxed;
          stands = (at long).values ∙ c.stands;
          compacts = c.compacts;
          short = c.short;
          put = record {
            held = copied_here layout.key (value_at now_a) (index ∷ []) b.values index (member index) ∙ c.put.held;
            others = λ other apart. copied_others layout.key (value_at now_a) (index ∷ []) b.values other (λ i among is. apart (is ∙ ap layout.key (only_member index i among)));
            makes = record { calls = refl; failures = refl; reach = record { refuses = λ key. refl; may_ask = λ key. refl; may_read = λ key place. refl; sets_parts = refl; lenders = refl; parts = refl } };
          };
        },
        record {
          values = copied_alike layout a now_a b (index ∷ []) 1 0 (put_changes layout index (layout.key index) (Some c.less) a now_a refl c.put);
          calls = ap (λ n. n + 1 + 0) calls ∙ sym c.put.makes.calls;
        },
      )
  compact_done false long c = (
    b,
    record { same = refl; compact = λ encoded stands. c.compact encoded (sym (at long).values ∙ stands) },
    record { values = λ key. inr (ap (λ (s : StoreState). value_at s key) c.same, refl); calls = calls ∙ sym (ap (λ (s : StoreState). s.calls) c.same) },
  )

  compact_late : (failed : ℕ) (r : Refusal) (y : StoreState) → y.calls ≡ now_a.calls → AgreeAt layout now_a y index
      → RefusesCompactionOf layout index failed now_a r → RefusesCompactionOf layout index failed y r
  compact_late failed r y same agree (inl (none, by)) =
      let of = λ (q : Bool) (v : Option (List ℕ)). RefusesBy (option_or (cond q (Some refusal.storage) None) (compaction_refusal layout index v)) r in
      inl (none, subst (of (y.refuses (layout.key index))) (sym agree.values) (subst (λ q. of q (value_at now_a (layout.key index))) (sym agree.refuses) by))
  compact_late failed r y same agree (inr (has, why)) = inr (
    record { encoded = has.encoded; less = has.less; stands = agree.values ∙ has.stands; accepted = has.accepted; compacts = has.compacts },
    erasure_late failed now_a y same r why,
  )

  compact_refused : (r : Refusal) → RefusesCompact layout (length_refusal layout index) index r a now_a → Compacted (RefusesCompact layout (length_refusal layout index) index r b)
  compact_refused r s =
      let new = now_b layout a now_a b (index ∷ []) s.done s.failed in
      let same : new.calls ≡ now_a.calls = ap (λ n. n + s.done + s.failed) calls ∙ sym s.front.makes.calls in
      let alike = copied_alike layout a now_a b (index ∷ []) s.done s.failed (front_keys layout a now_a (λ indices. ⊥) (index ∷ []) s.done s.failed (λ none. absurd none) s.front) in (
        new,
        record {
          done = s.done;
          failed = s.failed;
          front = front_copied layout a now_a b (λ indices. ⊥) (λ indices. ⊥) (index ∷ []) s.done s.failed s.front (λ none. none);
          below = s.below;
          one = s.one;
          counted = λ some is. s.counted some (sym same ∙ is);
          cause = elim s.cause [
            | inl early ↦ inl early
            | inr (i, where_at, why) ↦
                let agree = at (long_index layout index why.0) in
                let is : i ≡ index = only_member index i (s.done, slice_get_within (index ∷ []) s.done i where_at, get_or_from_slice_get (index ∷ []) s.done i _ where_at) in
                inr (
                  i,
                  where_at,
                  (
                    why.0,
                    subst (λ k. RefusesCompactionOf layout k s.failed new r) (sym is) (compact_late s.failed r new same (record {
                      values = elim (alike (layout.key index)) [ inl same_value ↦ same_value | inr (x, y) ↦ y ∙ agree.values ∙ sym x ];
                      refuses = agree.refuses ∙ sym (s.front.makes.reach.refuses (layout.key index));
                    }) (subst (λ k. RefusesCompactionOf layout k s.failed now_a r) is why.1)),
                  ),
                )
          ];
        },
        record { values = alike; calls = same },
      )

  compact_depends : (shape : List ℕ) (ended : Outcome) → ActOutcome layout keep shape (length_refusal layout index) (compact index) ended a now_a
      → Compacted (ActOutcome layout keep shape (length_refusal layout index) (compact index) ended b)
  compact_depends shape (outcome.compacted answer) s = let o = compact_done answer (long_index layout index s.0) s.1 in (o.0, (s.0, o.1), o.2)
  compact_depends shape (outcome.refused r) s = compact_refused r s
  compact_depends shape ended s = absurd s

product_one : (e m : ℕ) → e * m ≡ 1 → (e ≡ 1) × (m ≡ 1)
product_one zero m is = absurd (omega arith)
product_one (suc zero) m is = (refl, omega arith)
product_one (suc (suc e)) zero is = let none : e * 0 ≡ 0 = omega arith in absurd (omega arith)
product_one (suc (suc e)) (suc m) is = absurd (omega arith)

or_second : (a b : Bool) → a || b ≡ false → b ≡ false
or_second true b h = absurd (cc)
or_second false b h = h

count_some : (shape : List ℕ) → list_any (λ extent. extent == 0) shape ≡ false → 0 < position_count shape
count_some [] none = omega arith
count_some (zero ∷ shape) none = absurd (cc)
count_some (suc e ∷ shape) none = mul-pos (omega arith) (count_some shape (or_second (suc e == 0) (list_any (λ extent. extent == 0) shape) none))

last_is_first : (start shape : List ℕ) → length start ≡ length shape → position_count shape ≡ 1 → zip_with (λ s e. s + e - 1) start shape ≡ start
last_is_first [] [] long one = refl
last_is_first [] (e ∷ shape) long one = absurd (omega arith)
last_is_first (s ∷ start) [] long one = absurd (omega arith)
last_is_first (s ∷ start) (e ∷ shape) long one =
    let parts = product_one e (position_count shape) one in
    let single = parts.0 in
    let head : s + e - 1 ≡ s = omega arith in
    ap (λ n. n ∷ zip_with (λ s e. s + e - 1) start shape) head ∙ ap (λ l. s ∷ l) (last_is_first start shape (omega arith) parts.1)

-- what an accepted store of a range, and of a part, has
pub takes_stored_range : (layout : Layout) (range : Box) (held : ArrayData) → IsLong range → store_chunks_refusal layout range held ≡ None → is_empty range ≡ false
    → range_refusal layout range ≡ None
takes_stored_range layout range held long none some =
    let number = position_count range.shape in
    let fourth = option_or (range_refusal layout range) (cells_refusal layout (position_count (range_box layout.grid range).shape) held) in
    let third = λ (b : Bool). cond b (store_chunk_refusal layout range.start held) fourth in
    let second = λ (b : Bool). cond b (cells_refusal layout 0 held) (third (number == 1)) in
    let first = λ (b : Bool). cond b (Some refusal.size_overflow) (second (number == 0)) in
    elim (cases_Bool (nat_le (2 ^ 64) number)) [
      | inl large ↦ let clash : Some refusal.size_overflow ≡ None = sym (ap first large) ∙ none in absurd (cc)
      | inr small ↦
          let one : second (number == 0) ≡ None = sym (ap first small) ∙ none in
          elim (cases_Bool (number == 0)) [
            | inl zero_number ↦
                let is = exact_unsigned_eq number 0 zero_number in
                let positive = count_some range.shape some in
                absurd (omega arith)
            | inr filled ↦
                let two : third (number == 1) ≡ None = sym (ap second filled) ∙ one in
                elim (cases_Bool (number == 1)) [
                  | inl single ↦
                      let three : store_chunk_refusal layout range.start held ≡ None = sym (ap third single) ∙ two in
                      let has = (box_accepted layout range.start (first_part (box_refusal layout range.start) _ three).0).0 in
                      let there : chunk_refusal layout range.start ≡ None = ap (λ b. cond (not b) (Some (refusal.indices range.start)) None) has in
                      ap (λ o. option_or o (chunk_refusal layout (last_of range))) there
                      ∙ ap (chunk_refusal layout) (last_is_first range.start range.shape long (exact_unsigned_eq number 1 single)) ∙ there
                  | inr many ↦
                      let three : fourth ≡ None = sym (ap third many) ∙ two in
                      (first_part (range_refusal layout range) _ three).0
                ]
          ]
    ]

pub stored_part : (layout : Layout) (index : List ℕ) (part : Box) (held : ArrayData) → store_part_refusal layout index part held ≡ None
    → (has_box layout.grid index ≡ true) × (is_part_of (box_at layout.grid index).shape part ≡ true)
stored_part layout index part held none =
    let rest = (first_part (cond (not (length index == layout.grid.dimensions)) (Some (refusal.dimensionality (length index) layout.grid.dimensions)) None) _ none).1 in
    let parts = first_part (chunk_refusal layout index) _ rest in (
      is_chunk layout index parts.0,
      said_true (is_part_of (box_at layout.grid index).shape part) (refusal.chunk_subset part index (box_at layout.grid index).shape) (first_part (part_refusal layout index part) _ parts.1).0,
    )

located_store : (layout : Layout) (index : List ℕ) (part : Box) (held : ArrayData) → store_part_refusal layout index part held ≡ None
    → option_or (chunk_refusal layout index) (part_refusal layout index part) ≡ None
located_store layout index part held none =
    let rest = (first_part (cond (not (length index == layout.grid.dimensions)) (Some (refusal.dimensionality (length index) layout.grid.dimensions)) None) _ none).1 in
    let parts = first_part (chunk_refusal layout index) _ rest in
    both_none (chunk_refusal layout index) (part_refusal layout index part) parts.0 (first_part (part_refusal layout index part) _ parts.1).0

-- the call writes
abbrev pub IsWrite : Call → Type 0
IsWrite (call.StoreChunk index held) = Unit {0}
IsWrite (call.StoreChunks range held) = Unit {0}
IsWrite (call.StoreChunkSubset index part held) = Unit {0}
IsWrite (call.StoreArraySubset region held) = Unit {0}
IsWrite (call.EraseChunk index) = Unit {0}
IsWrite (call.EraseChunks range) = Unit {0}
IsWrite (call.CompactChunk index) = Unit {0}
IsWrite (call.Resize wanted) = Unit {0}
IsWrite _ = ⊥

-- of these writes, accepted or refused
abbrev pub WritesDependOnTheReach : Type 0
WritesDependOnTheReach =
    (layout : Layout) → IsLawful layout → (keep : Bool) (call : Call) (reply : Reply) (a b new_a : ArrayState)
    → IsWrite call → AgreeFor layout call a b → Step layout keep call reply a new_a
    → (new_b : ArrayState) × Step layout keep call reply b new_b × AreChangedAlike a.store b.store new_a.store new_b.store

pub writes_depend : WritesDependOnTheReach
writes_depend layout lawful keep (call.StoreChunk index held) reply a b new_a is agree s =
    let i = index.items in
    let box = box_at layout.grid i in
    let first = store_chunk_refusal layout i (data_of held) in
    let has : first ≡ None → has_box layout.grid i ≡ true = λ none.
    (box_accepted layout i (first_part (box_refusal layout i) (cells_refusal layout (position_count box.shape) (data_of held)) none).0).0 in
    let o = store_depends layout lawful keep (i ∷ []) a.store new_a.store b.store agree.calls box (data_of held) b.shape first (outcome_of reply)
    (λ none j among there part. absurd (part (λ position holds. subst (λ k. Holds (box_at layout.grid k) position) (only_member i j among) holds)))
    (λ none j among. subst (λ k. has_box layout.grid k ≡ true) (sym (only_member i j among)) (has none))
    (λ none position holds. subst (Contains (i ∷ [])) (sym (box_index layout.grid lawful.grid i position (box_is_there layout.grid i (has none)) holds)) (member i))
    (moved layout keep (call.StoreChunk index held) (outcome_of reply) a.shape b.shape a.store new_a.store agree.shape s.1) in
    (record { store = o.0; shape = b.shape }, (refl, o.1), o.2)
writes_depend layout lawful keep (call.StoreArraySubset region held) reply a b new_a is agree s =
    let box = box_of region in
    let first = store_region_refusal layout b.shape box (data_of held) in
    let takes : first ≡ None → region_refusal layout b.shape box ≡ None = λ none.
    (first_part (region_refusal layout b.shape box) (region_data_refusal layout box (data_of held)) none).0 in
    let o = store_depends layout lawful keep (chunks_met layout.grid box) a.store new_a.store b.store agree.calls box (data_of held) b.shape first (outcome_of reply)
    (λ none j among there part. agree.reach (subst (λ shape. region_refusal layout shape box ≡ None) agree.shape (takes none)) j (box_is_there layout.grid j there).long (among, part))
    (λ none. region_boxed layout lawful b.shape box region.same_length (takes none))
    (λ none. region_meets layout lawful b.shape box region.same_length (takes none))
    (moved layout keep (call.StoreArraySubset region held) (outcome_of reply) a.shape b.shape a.store new_a.store agree.shape s.1) in
    (record { store = o.0; shape = b.shape }, (refl, o.1), o.2)
writes_depend layout lawful keep (call.EraseChunk index) reply a b new_a is agree s =
    let o = erase_depends layout lawful keep (index.items ∷ []) a.store new_a.store b.store agree.calls b.shape (length_refusal layout index.items) (outcome_of reply)
    (moved layout keep (call.EraseChunk index) (outcome_of reply) a.shape b.shape a.store new_a.store agree.shape s.1) in
    (record { store = o.0; shape = b.shape }, (refl, o.1), o.2)
writes_depend layout lawful keep (call.EraseChunks range) reply a b new_a is agree s =
    let o = erase_depends layout lawful keep (positions (box_of range)) a.store new_a.store b.store agree.calls b.shape (length_refusal layout (box_of range).start) (outcome_of reply)
    (moved layout keep (call.EraseChunks range) (outcome_of reply) a.shape b.shape a.store new_a.store agree.shape s.1) in
    (record { store = o.0; shape = b.shape }, (refl, o.1), o.2)
writes_depend layout lawful keep (call.StoreChunks range held) reply a b new_a is agree s =
    let box = box_of range in
    let first = store_chunks_refusal layout box (data_of held) in
    let takes = λ (none : first ≡ None). takes_stored_range layout box (data_of held) range.same_length none in
    let o = store_depends layout lawful keep (positions box) a.store new_a.store b.store agree.calls (chunks_box layout.grid box) (data_of held) b.shape first (outcome_of reply)
    (λ none j among there part. absurd (part (range_whole layout lawful box range.same_length (takes none) j among)))
    (λ none. range_boxed layout lawful box range.same_length (takes none))
    (λ none. range_meets layout lawful box range.same_length (takes none))
    (moved layout keep (call.StoreChunks range held) (outcome_of reply) a.shape b.shape a.store new_a.store agree.shape s.1) in
    (record { store = o.0; shape = b.shape }, (refl, o.1), o.2)
writes_depend layout lawful keep (call.StoreChunkSubset index part held) reply a b new_a is agree s =
    let i = index.items in
    let box = box_of part in
    let first = store_part_refusal layout i box (data_of held) in
    let parts = λ (none : first ≡ None). stored_part layout i box (data_of held) none in
    let o = store_depends layout lawful keep (i ∷ []) a.store new_a.store b.store agree.calls (part_box (box_at layout.grid i) box) (data_of held) b.shape first (outcome_of reply)
    (λ none j among there part. agree.reach (located_store layout i box (data_of held) none) j (box_is_there layout.grid j there).long
    (only_member i j among, part))
    (λ none. one_boxed layout i (parts none).0)
    (λ none. part_meets layout lawful i box (parts none).0 (parts none).1)
    (moved layout keep (call.StoreChunkSubset index part held) (outcome_of reply) a.shape b.shape a.store new_a.store agree.shape s.1) in
    (record { store = o.0; shape = b.shape }, (refl, o.1), o.2)
writes_depend layout lawful keep (call.CompactChunk index) reply a b new_a is agree s =
    let i = index.items in
    let o = compact_depends layout lawful keep i a.store new_a.store b.store agree.calls (λ long. agree.reach refl i long refl) b.shape (outcome_of reply)
    (moved layout keep (call.CompactChunk index) (outcome_of reply) a.shape b.shape a.store new_a.store agree.shape s.1) in
    (record { store = o.0; shape = b.shape }, (refl, o.1), o.2)
writes_depend layout lawful keep (call.Resize wanted) reply a b new_a is agree s =
    let o = cut_depends layout lawful keep b.shape wanted.items a.store new_a.store b.store agree.calls
    (resize_refusal layout wanted.items)
    (λ none index among kept. agree.reach none index (box_is_there layout.grid index (cut_boxed layout.grid b.shape wanted.items index among)).long
    (subst (λ shape. Contains (cut_chunks layout.grid shape wanted.items) index) agree.shape among, kept))
    (outcome_of reply)
    (moved layout keep (call.Resize wanted) (outcome_of reply) a.shape b.shape a.store new_a.store agree.shape s.1) in
    (record { store = o.0; shape = shape_left (resize wanted.items) (outcome_of reply) b.shape }, (refl, o.1), o.2)
writes_depend layout lawful keep other reply a b new_a is agree s = absurd is

-- ---- all calls

-- a read changes nothing
read_same : (layout : Layout) (keep : Bool) (shape : List ℕ) (first : Option Refusal) (region : Box) (chunks : List (List ℕ)) (ended : Outcome) (old new : StoreState)
    → ActOutcome layout keep shape first (read region chunks) ended old new → new ≡ old
read_same layout keep shape first region chunks (outcome.cells held) old new s = s.0
read_same layout keep shape first region chunks (outcome.refused r) old new s = s.0
read_same layout keep shape first region chunks ended old new s = absurd s

chunk_same : (layout : Layout) (keep : Bool) (shape : List ℕ) (first : Option Refusal) (needed : Bool) (index : List ℕ) (ended : Outcome) (old new : StoreState)
    → ActOutcome layout keep shape first (read_chunk needed index) ended old new → new ≡ old
chunk_same layout keep shape first true index (outcome.cells held) old new s = s.0
chunk_same layout keep shape first false index (outcome.maybe found) old new s = s.0
chunk_same layout keep shape first true index (outcome.refused r) old new s = s.0
chunk_same layout keep shape first false index (outcome.refused r) old new s = s.0
chunk_same layout keep shape first needed index ended old new s = absurd s

part_same : (layout : Layout) (keep : Bool) (shape : List ℕ) (first : Option Refusal) (index : List ℕ) (part : Box) (whole : Bool) (ended : Outcome) (old new : StoreState)
    → ActOutcome layout keep shape first (if whole then read_chunk true index else read part (index ∷ [])) ended old new → new ≡ old
part_same layout keep shape first index part true ended old new s = chunk_same layout keep shape first true index ended old new s
part_same layout keep shape first index part false ended old new s = read_same layout keep shape first part (index ∷ []) ended old new s

-- so both stores have what they had
left_alike : (a b now_a : StoreState) → b.calls ≡ a.calls → now_a ≡ a → AreChangedAlike a b now_a b
left_alike a b now_a calls is = record { values = λ key. inr (ap (λ (s : StoreState). value_at s key) is, refl); calls = calls ∙ sym (ap (λ (s : StoreState). s.calls) is) }

pub answers_depend : AnswersDependOnTheReach
answers_depend layout lawful keep (call.RetrieveChunkIfExists index) reply a b new_a agree s =
    let c = call.RetrieveChunkIfExists index in
    (b, reads_depend layout lawful keep c reply a b new_a tt agree s, left_alike a.store b.store new_a.store agree.calls (chunk_same layout keep a.shape _ false index.items (outcome_of reply) a.store new_a.store s.1))
answers_depend layout lawful keep (call.RetrieveChunk index) reply a b new_a agree s =
    let c = call.RetrieveChunk index in
    (b, reads_depend layout lawful keep c reply a b new_a tt agree s, left_alike a.store b.store new_a.store agree.calls (chunk_same layout keep a.shape _ true index.items (outcome_of reply) a.store new_a.store s.1))
answers_depend layout lawful keep (call.RetrieveChunks range) reply a b new_a agree s =
    let c = call.RetrieveChunks range in
    (b, reads_depend layout lawful keep c reply a b new_a tt agree s, left_alike a.store b.store new_a.store agree.calls (read_same layout keep a.shape _ _ _ (outcome_of reply) a.store new_a.store s.1))
answers_depend layout lawful keep (call.RetrieveChunkSubset index part) reply a b new_a agree s =
    let c = call.RetrieveChunkSubset index part in
    let i = index.items in (
      b,
      reads_depend layout lawful keep c reply a b new_a tt agree s,
      left_alike a.store b.store new_a.store agree.calls (part_same layout keep a.shape _ i (part_box (box_at layout.grid i) (box_of part)) (is_whole_of (box_at layout.grid i).shape (box_of part)) (outcome_of reply) a.store new_a.store s.1),
    )
answers_depend layout lawful keep (call.RetrieveArraySubset region) reply a b new_a agree s =
    let c = call.RetrieveArraySubset region in
    (b, reads_depend layout lawful keep c reply a b new_a tt agree s, left_alike a.store b.store new_a.store agree.calls (read_same layout keep a.shape _ _ _ (outcome_of reply) a.store new_a.store s.1))
answers_depend layout lawful keep (call.StoreChunk index held) reply a b new_a agree s = writes_depend layout lawful keep (call.StoreChunk index held) reply a b new_a tt agree s
answers_depend layout lawful keep (call.StoreChunks range held) reply a b new_a agree s = writes_depend layout lawful keep (call.StoreChunks range held) reply a b new_a tt agree s
answers_depend layout lawful keep (call.StoreChunkSubset index part held) reply a b new_a agree s =
    writes_depend layout lawful keep (call.StoreChunkSubset index part held) reply a b new_a tt agree s
answers_depend layout lawful keep (call.StoreArraySubset region held) reply a b new_a agree s =
    writes_depend layout lawful keep (call.StoreArraySubset region held) reply a b new_a tt agree s
answers_depend layout lawful keep (call.EraseChunk index) reply a b new_a agree s = writes_depend layout lawful keep (call.EraseChunk index) reply a b new_a tt agree s
answers_depend layout lawful keep (call.EraseChunks range) reply a b new_a agree s = writes_depend layout lawful keep (call.EraseChunks range) reply a b new_a tt agree s
answers_depend layout lawful keep (call.CompactChunk index) reply a b new_a agree s = writes_depend layout lawful keep (call.CompactChunk index) reply a b new_a tt agree s
answers_depend layout lawful keep (call.Resize wanted) reply a b new_a agree s = writes_depend layout lawful keep (call.Resize wanted) reply a b new_a tt agree s
