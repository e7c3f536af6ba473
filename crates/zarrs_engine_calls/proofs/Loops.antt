-- What the loop of a write over its chunks needs: one chunk, one more chunk, all chunks, a refused chunk.
use Rattle.std.specs.List.{list_any}
use Rattle.std.specs.Str.{bytes_eq}
use Rattle.std.proofs.lemmas.Slice.Eq.{bytes_eq-Decides}
use Rattle.std.proofs.Common.{get_or, ◌||◌, zero, suc, ◌<◌, ◌≡◌, ◌≢◌, ◌≤◌, not, ◌&&◌, ℕ, Bool, true, false, cond, List}
use Rattle.std.proofs.Common.{[], ◌∷◌, ◌++◌, length, take, Option, Some, None, Contains, refl, sym, ◌∙◌, ap, subst, inl}
use Rattle.std.proofs.Common.{inr, arith}
use Rattle.std.proofs.lemmas.Bool.{cases_Bool, false≢true}
use Rattle.std.proofs.lemmas.List.Elements.{Contains-push, Contains-push_cases, Contains-append_left}
use Rattle.zarrs_subset.specs.Boxes.{position_count}
use Rattle.zarrs_subset.specs.Regions.{Box, Holds, in_box, place_in, cell_in}
use Rattle.zarrs_subset.proofs.Bytes.{place_in_below}
use Rattle.zarrs_chunk_grid.specs.Grids.{box_at, index_at, has_box, is_covered}
use Rattle.zarrs_chunk_grid.proofs.Chunks.{box_is_there, box_long, box_index}
use Rattle.zarrs_keys.specs.Keys.{IsIndexList}
use Rattle.zarrs_storage.specs.Store.{StoreState}
use Rattle.zarrs_storage.proofs.ValuesLemmas.{reach_on}
use Rattle.zarrs_data_type.specs.Cell.{Cell, are_values}
use Rattle.zarrs_data_type.specs.ArrayData.{ArrayData}
use Rattle.zarrs_data_type.specs.Cells.{cells}
use Rattle.zarrs_engine_calls.specs.Layout.{Layout, IsLawful}
use Rattle.zarrs_engine_calls.specs.Content.{value_at, content, Reads, cell_at_place, chunk_cell}
use Rattle.zarrs_engine_calls.specs.Changes.{IsValueOf, ChangesKeysOf, Makes, Stores, Erases, IsPut, Puts}
use Rattle.zarrs_engine_calls.proofs.Contents.{fill_at, index_list, one_key, content_in_box, content_covered}
use Rattle.zarrs_engine_calls.proofs.Contents.{content_uncovered, covered_has_box, in_chunk, member, only_member, same_or_not}
use Rattle.zarrs_engine_calls.specs.Fronts.{Front, Takes, StoresAll, ErasesAll, is_in_chunks}
use Rattle.zarrs_engine_calls.specs.StateRefusals.{AreUpdated}

pub left_out_fill : (keep all : Bool) → not keep && all ≡ true → all ≡ true
left_out_fill true all e = absurd (cc)
left_out_fill false all e = e

-- one key changed, so no other chunk's bytes
pub put_changes : {made : ℕ → ℕ → StoreState → StoreState → Type 0} → (layout : Layout) (index key : List ℕ) (encoded : Option (List ℕ)) (old new : StoreState) → key ≡ layout.key index → Puts made key encoded old new → ChangesKeysOf layout (index ∷ []) old new
put_changes layout index key encoded old new is put = λ other apart. put.others other (λ same. apart index (member index) (same ∙ is))

pub put_keeps : (layout : Layout) → IsLawful layout → (index key : List ℕ) (encoded : Option (List ℕ)) (old new : StoreState) → key ≡ layout.key index → IsPut key encoded old new → IsIndexList layout.grid.dimensions index
    → (i : List ℕ) → IsIndexList layout.grid.dimensions i → i ≢ index → value_at new (layout.key i) ≡ value_at old (layout.key i)
put_keeps layout lawful index key encoded old new is put long i i_long apart = put.others (layout.key i) (λ same. apart (one_key layout lawful i index i_long long (same ∙ is)))

-- none is done yet
pub stores_none : (layout : Layout) (keep : Bool) (region : Box) (given : List Cell) (state : StoreState) → Stores layout keep region given [] state state
stores_none layout keep region given state = record {
  updates = record {
    inside = λ position holds among. let b = among.1 in absurd (omega arith);
    outside = λ position out. refl;
    keys = λ key apart. refl;
    boxed = λ i among. let b = among.1 in absurd (omega arith);
  };
  held = λ i among. let b = among.1 in absurd (omega arith);
}

-- a refused call that leaves the values
pub stores_same : (layout : Layout) (keep : Bool) (region : Box) (given : List Cell) (indices : List (List ℕ)) (old mid new : StoreState) → new.values ≡ mid.values → Stores layout keep region given indices old mid → Stores layout keep region given indices old new
stores_same layout keep region given indices old mid new same s =
    let moved = subst (λ values. Stores layout keep region given indices old (record mid { values = values })) (sym same)
    (record { updates = record { inside = s.updates.inside; outside = s.updates.outside; keys = s.updates.keys; boxed = s.updates.boxed }; held = s.held }) in
    record { updates = record { inside = moved.updates.inside; outside = moved.updates.outside; keys = moved.updates.keys; boxed = moved.updates.boxed }; held = moved.held }

module _ (layout : Layout) (lawful : IsLawful layout) where
  -- one more chunk took its part
  pub stores_push : (keep : Bool) (region : Box) (given : List Cell) (indices : List (List ℕ)) (index : List ℕ) (old mid new : StoreState)
      → Stores layout keep region given indices old mid → Stores layout keep region given (index ∷ []) mid new → Stores layout keep region given (indices ++ index ∷ []) old new
  stores_push keep region given indices index old mid new s one =
      let last : (i : List ℕ) → i ≡ index → Contains (index ∷ []) i = λ i is. subst (Contains (index ∷ [])) (sym is) (member index) in
      let later : (i : List ℕ) → Contains (index ∷ []) i → Contains (indices ++ index ∷ []) i = λ i only. subst (Contains (indices ++ index ∷ [])) (sym (only_member index i only)) (Contains-push indices index) in
      let before : (i : List ℕ) → Contains (indices ++ index ∷ []) i → i ≢ index → Contains indices i =
      λ i among apart. elim (Contains-push_cases indices index i among) [ inl early ↦ early | inr is ↦ absurd (apart (sym is)) ] in
      record {
        updates = record {
          inside = λ position holds among. elim (same_or_not (index_at layout.grid position) index) [
            | inl is ↦ one.updates.inside position holds (last _ is)
            | inr apart ↦ one.updates.outside position (λ _ only. apart (only_member index _ only)) ∙ s.updates.inside position holds (before _ among apart)
          ];
          outside = λ position out.
              one.updates.outside position (λ holds only. out holds (later _ only))
              ∙ s.updates.outside position (λ holds early. out holds (Contains-append_left indices (index ∷ []) _ early));
          keys = λ key apart.
              one.updates.keys key (λ j only. apart j (later j only))
              ∙ s.updates.keys key (λ j early. apart j (Contains-append_left indices (index ∷ []) j early));
          boxed = λ i among. elim (same_or_not i index) [
            | inl is ↦ one.updates.boxed i (last i is)
            | inr apart ↦ s.updates.boxed i (before i among apart)
          ];
        };
        held = λ i among. elim (same_or_not i index) [
          | inl is ↦ one.held i (last i is)
          | inr apart ↦
              let early = before i among apart in
              let has = s.updates.boxed i early in
              let had = s.held i early in
              let encoded : value_at new (layout.key i) ≡ value_at mid (layout.key i) = one.updates.keys (layout.key i) (λ j only same. apart (one_key layout lawful i j (index_list layout lawful i has) (index_list layout lawful j (one.updates.boxed j only)) same ∙ only_member index j only)) in (
                had.0,
                record {
                  count = had.1.count;
                  each = λ position holds.
                      one.updates.outside position (λ _ only. apart (sym (box_index layout.grid lawful.grid i position (box_is_there layout.grid i has) holds) ∙ only_member index _ only))
                      ∙ had.1.each position holds;
                },
                subst (IsValueOf layout keep (box_at layout.grid i) had.0) (sym encoded) had.2,
              )
        ];
      }

  -- one more chunk is gone
  pub erases_push : (indices : List (List ℕ)) (index : List ℕ) (old mid new : StoreState)
      → Erases layout indices old mid → Erases layout (index ∷ []) mid new → Erases layout (indices ++ index ∷ []) old new
  erases_push indices index old mid new s one =
      let last : (i : List ℕ) → i ≡ index → Contains (index ∷ []) i = λ i is. subst (Contains (index ∷ [])) (sym is) (member index) in
      let later : (i : List ℕ) → Contains (index ∷ []) i → Contains (indices ++ index ∷ []) i = λ i only. subst (Contains (indices ++ index ∷ [])) (sym (only_member index i only)) (Contains-push indices index) in
      let before : (i : List ℕ) → Contains (indices ++ index ∷ []) i → i ≢ index → Contains indices i =
      λ i among apart. elim (Contains-push_cases indices index i among) [ inl early ↦ early | inr is ↦ absurd (apart (sym is)) ] in
      record {
        inside = λ position covered among. elim (same_or_not (index_at layout.grid position) index) [
          | inl is ↦ one.inside position covered (last _ is)
          | inr apart ↦ one.outside position (λ _ only. apart (only_member index _ only)) ∙ s.inside position covered (before _ among apart)
        ];
        outside = λ position out.
            one.outside position (λ covered only. out covered (later _ only))
            ∙ s.outside position (λ covered early. out covered (Contains-append_left indices (index ∷ []) _ early));
        keys = λ key apart.
            one.keys key (λ j only. apart j (later j only))
            ∙ s.keys key (λ j early. apart j (Contains-append_left indices (index ∷ []) j early));
        long = λ i among. elim (same_or_not i index) [
          | inl is ↦ one.long i (last i is)
          | inr apart ↦ s.long i (before i among apart)
        ];
        absent = λ i among. elim (same_or_not i index) [
          | inl is ↦ one.absent i (last i is)
          | inr apart ↦
              let early = before i among apart in
              let encoded : value_at new (layout.key i) ≡ value_at mid (layout.key i) = one.keys (layout.key i) (λ j only same. apart (one_key layout lawful i j (s.long i early) (one.long j only) same ∙ only_member index j only)) in
              encoded ∙ s.absent i early
        ];
      }

  -- the cell of a chunk by what is present at its key
  pub value_cell : (keep : Bool) (index : List ℕ) (chunk : List Cell) (encoded : Option (List ℕ)) (position : List ℕ) → are_values layout.kind chunk ≡ true → length chunk ≡ position_count (box_at layout.grid index).shape → IsValueOf layout keep (box_at layout.grid index) chunk encoded → Holds (box_at layout.grid index) position → chunk_cell layout encoded (box_at layout.grid index) position ≡ cell_in (box_at layout.grid index) chunk position
  value_cell keep index chunk None position values count is holds =
      let below = place_in_below (box_at layout.grid index) position (box_long layout.grid index) holds in
      sym (fill_at layout.fill chunk (place_in (box_at layout.grid index) position) (left_out_fill keep _ is) (omega arith))
  value_cell keep index chunk (Some encoded) position values count is holds =
      ap (λ found. cell_at_place found (place_in (box_at layout.grid index) position)) (lawful.chain.round_trip keep layout.kind layout.fill (box_at layout.grid index).shape chunk encoded values count is.1)

  module _ (keep : Bool) (index : List ℕ) (has : has_box layout.grid index ≡ true) (region : Box) (held : ArrayData) (covered : (position : List ℕ) → Holds region position → is_covered layout.grid position ≡ true) where
    module _ (key : List ℕ) (chunk : List Cell) (encoded : Option (List ℕ)) (old new : StoreState) (fresh : AreUpdated layout region held (box_at layout.grid index) old chunk)
        (values : are_values layout.kind chunk ≡ true) (is_text : IsValueOf layout keep (box_at layout.grid index) chunk encoded) (key_is : key ≡ layout.key index) (put : IsPut key encoded old new) where
      text_is : value_at new (layout.key index) ≡ encoded
      text_is = ap (value_at new) (sym key_is) ∙ put.held

      reads_new : Reads (content layout (value_at new)) (box_at layout.grid index) chunk
      reads_new = record {
        count = fresh.count;
        each = λ position holds.
            content_in_box layout (value_at new) lawful index has position holds
            ∙ ap (λ t. chunk_cell layout t (box_at layout.grid index) position) text_is
            ∙ value_cell keep index chunk encoded position values fresh.count is_text holds;
      }

      inside_new : (position : List ℕ) → Holds region position → Contains (index ∷ []) (index_at layout.grid position) → content layout (value_at new) position ≡ cell_in region fresh.given position
      inside_new position holds only =
          let here = in_chunk layout lawful index position (covered position holds) (only_member index _ only) in
          reads_new.each position here ∙ fresh.each position here
          ∙ ap (λ b. cond b (cell_in region fresh.given position) (content layout (value_at old) position)) holds

      outside_new : (position : List ℕ) → (Holds region position → Contains (index ∷ []) (index_at layout.grid position) → ⊥) → content layout (value_at new) position ≡ content layout (value_at old) position
      outside_new position out =
          elim (cases_Bool (is_covered layout.grid position)) [
            | inr miss ↦ content_uncovered layout (value_at new) position miss ∙ sym (content_uncovered layout (value_at old) position miss)
            | inl hit ↦ elim (same_or_not (index_at layout.grid position) index) [
              | inl is ↦
                  let here = in_chunk layout lawful index position hit is in
                  elim (cases_Bool (in_box region position)) [
                    | inl holds ↦ absurd (out holds (subst (Contains (index ∷ [])) (sym is) (member index)))
                    | inr beside ↦ reads_new.each position here ∙ fresh.each position here ∙ ap (λ b. cond b (cell_in region fresh.given position) (content layout (value_at old) position)) beside
                  ]
              | inr apart ↦
                  let there = index_list layout lawful _ (covered_has_box layout lawful position hit) in
                  let same = put_keeps layout lawful index key encoded old new key_is put (index_list layout lawful index has) (index_at layout.grid position) there apart in
                  content_covered layout (value_at new) position hit
                  ∙ ap (λ t. chunk_cell layout t (box_at layout.grid (index_at layout.grid position)) position) same
                  ∙ sym (content_covered layout (value_at old) position hit)
            ]
          ]

      -- one chunk took its part
      pub stored_part : Stores layout keep region fresh.given (index ∷ []) old new
      stored_part = record {
        updates = record {
          inside = inside_new;
          outside = outside_new;
          keys = put_changes layout index key encoded old new key_is put;
          boxed = λ i only. ap (has_box layout.grid) (only_member index i only) ∙ has;
        };
        held = λ i only. subst (λ i. (chunk : List Cell) × Reads (content layout (value_at new)) (box_at layout.grid i) chunk × IsValueOf layout keep (box_at layout.grid i) chunk (value_at new (layout.key i))) (sym (only_member index i only))
            (chunk, reads_new, subst (IsValueOf layout keep (box_at layout.grid index) chunk) (sym text_is) is_text);
      }

-- the front that stands where the first `done` chunks took their part, and then nothing more changed
pub store_front : (layout : Layout) (keep : Bool) (region : Box) (held : ArrayData) (given : List Cell) (chunks : List (List ℕ)) (done failed : ℕ) (old mid new : StoreState)
    → cells layout.kind held ≡ Some given → length given ≡ position_count region.shape → done ≤ length chunks
    → Stores layout keep region given (take done chunks) old mid → Makes done 0 old mid → (done ≡ 0 → mid.values ≡ old.values)
    → new.values ≡ mid.values → Makes 0 failed mid new → Front Makes (λ indices. Takes layout keep region held indices old new) chunks done failed old new
store_front layout keep region held given chunks done failed old mid new are count within stores made none still more = record {
  within = within;
  untouched = λ zero. still ∙ none zero;
  changes = λ some. record { given = given; are_cells = are; count = count; stores = stores_same layout keep region given (take done chunks) old mid new still stores };
  makes = record {
    calls = let a = made.calls in let b = more.calls in omega arith;
    failures = let a = made.failures in let b = more.failures in omega arith;
    reach = reach_on old mid new made.reach more.reach;
  };
}

-- with all chunks done the content is the data over the region, where each of its positions lies in one of them
pub stores_all : (layout : Layout) (keep : Bool) (region : Box) (held : ArrayData) (chunks : List (List ℕ)) (old new : StoreState) (t : Takes layout keep region held chunks old new)
    → ((position : List ℕ) → Holds region position → Contains chunks (index_at layout.grid position))
    → Front Makes (λ indices. Takes layout keep region held indices old new) chunks (length chunks) 0 old new → StoresAll layout keep region held chunks old new
stores_all layout keep region held chunks old new t all front = record {
  takes = t;
  updates = λ position. elim (cases_Bool (in_box region position)) [
    | inl hit ↦ t.stores.updates.inside position hit (all position hit) ∙ sym (ap (λ b. cond b (cell_in region t.given position) (content layout (value_at old) position)) hit)
    | inr miss ↦
        t.stores.updates.outside position (λ holds among. false≢true (sym miss ∙ holds))
        ∙ sym (ap (λ b. cond b (cell_in region t.given position) (content layout (value_at old) position)) miss)
  ];
  front = front;
}

-- whether an index list is among others, as a Bool
pub any_among : (indices : List (List ℕ)) (i : List ℕ) → list_any (bytes_eq i) indices ≡ true → Contains indices i
any_among [] i h = absurd (cc)
any_among (j ∷ indices) i h =
    elim (cases_Bool (bytes_eq i j)) [
      | inl is ↦ (0, omega arith, sym ((bytes_eq-Decides i j).0 is))
      | inr apart ↦
          let rest : list_any (bytes_eq i) indices ≡ true = sym (ap (λ b. b || list_any (bytes_eq i) indices) apart) ∙ h in
          let among = any_among indices i rest in
          let below = among.1 in
          (suc among.0, omega arith, among.2)
    ]

or_tail : (a b : Bool) → a || b ≡ false → b ≡ false
or_tail true b h = absurd (cc)
or_tail false b h = h

among_none : (i : List ℕ) (indices : List (List ℕ)) (k : ℕ) → list_any (bytes_eq i) indices ≡ false → k < length indices → get_or indices k i ≡ i → ⊥
among_none i [] k none below at = absurd (omega arith)
among_none i (j ∷ indices) zero none below at =
    let same : bytes_eq i j ≡ true = (bytes_eq-Decides i j).1 (sym at) in
    let clash : true ≡ false = sym (ap (λ b. b || list_any (bytes_eq i) indices) same) ∙ none in
    cc
among_none i (j ∷ indices) (suc k) none below at = among_none i indices k (or_tail (bytes_eq i j) (list_any (bytes_eq i) indices) none) (omega arith) at

pub among_any : (indices : List (List ℕ)) (i : List ℕ) → list_any (bytes_eq i) indices ≡ false → Contains indices i → ⊥
among_any indices i none among = among_none i indices among.0 none among.1 among.2

-- with all chunks gone the content is fill in them
pub erases_all : (layout : Layout) (chunks : List (List ℕ)) (old new : StoreState) → Erases layout chunks old new
    → Front Makes (λ indices. Erases layout indices old new) chunks (length chunks) 0 old new → ErasesAll layout chunks old new
erases_all layout chunks old new e front = record {
  erases = e;
  updates = λ position.
      let here = is_in_chunks layout chunks position in
      elim (cases_Bool (is_covered layout.grid position)) [
        | inr miss ↦
            e.outside position (λ covered among. false≢true (sym miss ∙ covered))
            ∙ sym (ap (λ b. cond (b && list_any (bytes_eq (index_at layout.grid position)) chunks) (Some layout.fill) (content layout (value_at old) position)) miss)
        | inl hit ↦ elim (cases_Bool (list_any (bytes_eq (index_at layout.grid position)) chunks)) [
          | inl any ↦
              e.inside position hit (any_among chunks (index_at layout.grid position) any)
              ∙ sym (ap (λ b. cond (b && list_any (bytes_eq (index_at layout.grid position)) chunks) (Some layout.fill) (content layout (value_at old) position)) hit
              ∙ ap (λ b. cond b (Some layout.fill) (content layout (value_at old) position)) any)
          | inr none ↦
              e.outside position (λ covered among. among_any chunks (index_at layout.grid position) none among)
              ∙ sym (ap (λ b. cond (b && list_any (bytes_eq (index_at layout.grid position)) chunks) (Some layout.fill) (content layout (value_at old) position)) hit
              ∙ ap (λ b. cond b (Some layout.fill) (content layout (value_at old) position)) none)
        ]
      ];
  front = front;
}
