-- What the loop of a change of the shape over its chunks needs: one chunk, one more chunk, all chunks, a refused chunk.
use Rattle.std.proofs.Common.{◌≡◌, ◌≢◌, zero, suc, ℕ, Bool, true, false, not, ◌&&◌, cond, List, [], ◌∷◌, ◌++◌}
use Rattle.std.proofs.Common.{length, Option, Some, None, Contains, refl, sym, ◌∙◌, ap, subst, inl, inr, arith}
use Rattle.std.specs.List.{filter, list_any}
use Rattle.std.specs.Str.{bytes_eq}
use Rattle.std.proofs.lemmas.Bool.{cases_Bool, false≢true}
use Rattle.std.proofs.lemmas.List.{length-replicate, take_all}
use Rattle.std.proofs.lemmas.List.Elements.{Contains-push, Contains-push_cases, Contains-append_left}
use Rattle.std.proofs.lemmas.Option.{slice_get_within, get_or_from_slice_get}
use Rattle.zarrs_subset.specs.Boxes.{place, offset_from}
use Rattle.zarrs_subset.specs.Regions.{Holds, box_at_origin, cell_in, positions}
use Rattle.zarrs_subset.proofs.Positions.{positions_all}
use Rattle.zarrs_chunk_grid.specs.Grids.{Grid, IsGrid, box_at, has_box, index_at, is_covered}
use Rattle.zarrs_chunk_grid.proofs.Chunks.{box_is_there, box_index, chunk_has_box, covered_chunk, covered_holds, has_box_is}
use Rattle.zarrs_storage.specs.Store.{StoreState}
use Rattle.zarrs_data_type.specs.Cell.{Cell, are_values}
use Rattle.zarrs_engine_calls.specs.Layout.{Layout, IsLawful}
use Rattle.zarrs_engine_calls.specs.Content.{value_at, content, chunk_cell}
use Rattle.zarrs_engine_calls.specs.Changes.{HoldsValue, IsPut, IsValueOf, Makes}
use Rattle.zarrs_engine_calls.specs.Cuts.{Cuts, cut_chunks, is_below, is_cut, is_cut_away, keeps_some}
use Rattle.zarrs_engine_calls.specs.Fronts.{CutsAll, Front, is_in_chunks}
use Rattle.zarrs_engine_calls.specs.StateRefusals.{AreCut}
use Rattle.zarrs_engine_calls.proofs.Below.{first_below, past_cuts}
use Rattle.zarrs_engine_calls.proofs.Contents.{content_covered, content_in_box, content_uncovered, covered_has_box, in_chunk}
use Rattle.zarrs_engine_calls.proofs.Contents.{index_list, member, one_key, only_member, same_or_not}
use Rattle.zarrs_engine_calls.proofs.CutLaws.{and_both, and_left, and_right, cut_cells, cut_is_one, in_chunks}
use Rattle.zarrs_engine_calls.proofs.Loops.{any_among, put_changes, put_keeps, value_cell}

-- none is cut yet
pub cuts_none : (layout : Layout) (keep : Bool) (shape : List ℕ) (state : StoreState) → Cuts layout keep shape [] state state
cuts_none layout keep shape state = record {
  inside = λ position covered among past. let b = among.1 in absurd (omega arith);
  outside = λ position out. refl;
  keys = λ key apart. refl;
  boxed = λ i among. let b = among.1 in absurd (omega arith);
  gone = λ i among past. let b = among.1 in absurd (omega arith);
  held = λ i among kept. let b = among.1 in absurd (omega arith);
}

-- a refused call that leaves the values
pub cuts_same : (layout : Layout) (keep : Bool) (shape : List ℕ) (indices : List (List ℕ)) (old mid new : StoreState) → new.values ≡ mid.values → Cuts layout keep shape indices old mid → Cuts layout keep shape indices old new
cuts_same layout keep shape indices old mid new same c =
    let moved = subst (λ values. Cuts layout keep shape indices old (record mid { values = values })) (sym same)
    (record { inside = c.inside; outside = c.outside; keys = c.keys; boxed = c.boxed; gone = c.gone; held = c.held }) in
    record { inside = moved.inside; outside = moved.outside; keys = moved.keys; boxed = moved.boxed; gone = moved.gone; held = moved.held }

module _ (layout : Layout) (lawful : IsLawful layout) (keep : Bool) (shape : List ℕ) where
  -- one more chunk is cut
  pub cuts_push : (indices : List (List ℕ)) (index : List ℕ) (old mid new : StoreState)
      → Cuts layout keep shape indices old mid → Cuts layout keep shape (index ∷ []) mid new → Cuts layout keep shape (indices ++ index ∷ []) old new
  cuts_push indices index old mid new s one =
      let last : (i : List ℕ) → i ≡ index → Contains (index ∷ []) i = λ i is. subst (Contains (index ∷ [])) (sym is) (member index) in
      let later : (i : List ℕ) → Contains (index ∷ []) i → Contains (indices ++ index ∷ []) i = λ i only. subst (Contains (indices ++ index ∷ [])) (sym (only_member index i only)) (Contains-push indices index) in
      let before : (i : List ℕ) → Contains (indices ++ index ∷ []) i → i ≢ index → Contains indices i =
      λ i among apart. elim (Contains-push_cases indices index i among) [ inl early ↦ early | inr is ↦ absurd (apart (sym is)) ] in
      let stays : (i : List ℕ) → i ≢ index → Contains indices i → value_at new (layout.key i) ≡ value_at mid (layout.key i) =
      λ i apart early. one.keys (layout.key i) (λ j only same. apart (one_key layout lawful i j (index_list layout lawful i (s.boxed i early)) (index_list layout lawful j (one.boxed j only)) same ∙ only_member index j only)) in
      record {
        inside = λ position covered among past. elim (same_or_not (index_at layout.grid position) index) [
          | inl is ↦ one.inside position covered (last _ is) past
          | inr apart ↦ one.outside position (λ _ only _. apart (only_member index _ only)) ∙ s.inside position covered (before _ among apart) past
        ];
        outside = λ position out.
            one.outside position (λ covered only past. out covered (later _ only) past)
            ∙ s.outside position (λ covered early past. out covered (Contains-append_left indices (index ∷ []) _ early) past);
        keys = λ key apart.
            one.keys key (λ j only. apart j (later j only))
            ∙ s.keys key (λ j early. apart j (Contains-append_left indices (index ∷ []) j early));
        boxed = λ i among. elim (same_or_not i index) [
          | inl is ↦ one.boxed i (last i is)
          | inr apart ↦ s.boxed i (before i among apart)
        ];
        gone = λ i among past. elim (same_or_not i index) [
          | inl is ↦ one.gone i (last i is) past
          | inr apart ↦ stays i apart (before i among apart) ∙ s.gone i (before i among apart) past
        ];
        held = λ i among kept. elim (same_or_not i index) [
          | inl is ↦ one.held i (last i is) kept
          | inr apart ↦
              let early = before i among apart in
              let has = s.boxed i early in
              let had = s.held i early kept in (
                had.0,
                record {
                  count = had.1.count;
                  each = λ position holds.
                      one.outside position (λ _ only _. apart (sym (box_index layout.grid lawful.grid i position (box_is_there layout.grid i has) holds) ∙ only_member index _ only))
                      ∙ had.1.each position holds;
                },
                subst (IsValueOf layout keep (box_at layout.grid i) had.0) (sym (stays i apart early)) had.2,
              )
        ];
      }

  module _ (index key : List ℕ) (value : Option (List ℕ)) (old new : StoreState) (has : has_box layout.grid index ≡ true) (key_is : key ≡ layout.key index) (put : IsPut key value old new) where
    text_is : value_at new (layout.key index) ≡ value
    text_is = ap (value_at new) (sym key_is) ∙ put.held

    -- the cells of the chunk as it is now
    here_is : (position : List ℕ) → Holds (box_at layout.grid index) position → content layout (value_at new) position ≡ chunk_cell layout value (box_at layout.grid index) position
    here_is position holds = content_in_box layout (value_at new) lawful index has position holds ∙ ap (λ t. chunk_cell layout t (box_at layout.grid index) position) text_is

    -- a cell of another chunk stays
    there_is : (position : List ℕ) → (is_covered layout.grid position ≡ true → index_at layout.grid position ≡ index → ⊥) → content layout (value_at new) position ≡ content layout (value_at old) position
    there_is position out = elim (cases_Bool (is_covered layout.grid position)) [
      | inr miss ↦ content_uncovered layout (value_at new) position miss ∙ sym (content_uncovered layout (value_at old) position miss)
      | inl hit ↦
          let there = index_list layout lawful _ (covered_has_box layout lawful position hit) in
          let same = put_keeps layout lawful index key value old new key_is put (index_list layout lawful index has) (index_at layout.grid position) there (out hit) in
          content_covered layout (value_at new) position hit
          ∙ ap (λ t. chunk_cell layout t (box_at layout.grid (index_at layout.grid position)) position) same
          ∙ sym (content_covered layout (value_at old) position hit)
    ]

    -- the cells of the chunk are known, so one chunk is cut
    cut_one : ((position : List ℕ) → Holds (box_at layout.grid index) position → is_below shape position ≡ false → content layout (value_at new) position ≡ Some layout.fill)
        → ((position : List ℕ) → Holds (box_at layout.grid index) position → is_below shape position ≡ true → content layout (value_at new) position ≡ content layout (value_at old) position)
        → (keeps_some layout.grid shape index ≡ false → value ≡ None)
        → (keeps_some layout.grid shape index ≡ true → HoldsValue layout keep index new) → Cuts layout keep shape (index ∷ []) old new
    cut_one past below gone held = record {
      inside = λ position covered only out. past position (in_chunk layout lawful index position covered (only_member index _ only)) out;
      outside = λ position out. elim (same_or_not (index_at layout.grid position) index) [
        | inr apart ↦ there_is position (λ covered is. apart is)
        | inl is ↦ elim (cases_Bool (is_covered layout.grid position)) [
          | inr miss ↦ there_is position (λ covered _. false≢true (sym miss ∙ covered))
          | inl hit ↦ elim (cases_Bool (is_below shape position)) [
            | inl low ↦ below position (in_chunk layout lawful index position hit is) low
            | inr high ↦ absurd (out hit (subst (Contains (index ∷ [])) (sym is) (member index)) high)
          ]
        ]
      ];
      keys = put_changes layout index key value old new key_is put;
      boxed = λ i only. ap (has_box layout.grid) (only_member index i only) ∙ has;
      gone = λ i only none. subst (λ i. value_at new (layout.key i) ≡ None) (sym (only_member index i only)) (text_is ∙ gone (sym (ap (keeps_some layout.grid shape) (only_member index i only)) ∙ none));
      held = λ i only some. subst (λ i. HoldsValue layout keep i new) (sym (only_member index i only)) (held (sym (ap (keeps_some layout.grid shape) (only_member index i only)) ∙ some));
    }

    -- a chunk that has no cell below the shape is erased
    pub cut_gone : keeps_some layout.grid shape index ≡ false → value ≡ None → Cuts layout keep shape (index ∷ []) old new
    cut_gone none is = cut_one
        (λ position holds past. here_is position holds ∙ ap (λ t. chunk_cell layout t (box_at layout.grid index) position) is)
        (λ position holds low. absurd (false≢true (sym none ∙ first_below layout.grid lawful.grid shape index has position holds low)))
        (λ _. is)
        (λ some. absurd (false≢true (sym none ∙ some)))

    -- another one holds what its cells are encoded to
    pub cut_kept : (chunk : List Cell) → keeps_some layout.grid shape index ≡ true → AreCut layout shape (box_at layout.grid index) old chunk → are_values layout.kind chunk ≡ true
        → IsValueOf layout keep (box_at layout.grid index) chunk value → Cuts layout keep shape (index ∷ []) old new
    cut_kept chunk some cut values is_value =
        let cell : (position : List ℕ) → Holds (box_at layout.grid index) position → content layout (value_at new) position ≡ cell_in (box_at layout.grid index) chunk position =
        λ position holds. here_is position holds ∙ value_cell layout lawful keep index chunk value position values cut.count is_value holds in
        cut_one
        (λ position holds past. cell position holds ∙ cut.each position holds ∙ ap (λ b. cond b (content layout (value_at old) position) (Some layout.fill)) past)
        (λ position holds low. cell position holds ∙ cut.each position holds ∙ ap (λ b. cond b (content layout (value_at old) position) (Some layout.fill)) low)
        (λ none. absurd (false≢true (sym none ∙ some)))
        (λ _. (chunk, record { count = cut.count; each = cell }, subst (IsValueOf layout keep (box_at layout.grid index) chunk) (sym text_is) is_value))

-- ---- all chunks

later_among : (y x : List ℕ) (xs : List (List ℕ)) → y ≢ x → Contains (y ∷ xs) x → Contains xs x
later_among y x xs apart (zero, below, at) = absurd (apart at)
later_among y x xs apart (suc k, below, at) = (k, omega arith, at)

-- an element that passes is among those that pass
passes_among : (p : List ℕ → Bool) (xs : List (List ℕ)) (x : List ℕ) → Contains xs x → p x ≡ true → Contains (filter p xs) x
passes_among p [] x among holds_so = let b = among.1 in absurd (omega arith)
passes_among p (y ∷ xs) x among holds_so = elim (same_or_not y x) [
  | inl is ↦
      let first : p y ≡ true = ap p is ∙ holds_so in
      subst (λ b. Contains (cond b (y ∷ filter p xs) (filter p xs)) x) (sym first) (0, omega arith, is)
  | inr apart ↦
      let rest = passes_among p xs x (later_among y x xs apart among) holds_so in
      let below = rest.1 in
      elim (p y) as (λ b. Contains (cond b (y ∷ filter p xs) (filter p xs)) x) [
        | true ↦ (suc rest.0, omega arith, rest.2)
        | false ↦ rest
      ]
]

not_true : (b : Bool) → not b ≡ true → b ≡ false
not_true true e = absurd (cc)
not_true false e = refl

-- a position that is cut away lies in a chunk that is cut
away_among : (grid : Grid) → IsGrid grid → (old wanted position : List ℕ) → is_cut_away grid old wanted position ≡ true → Contains (cut_chunks grid old wanted) (index_at grid position)
away_among grid lawful old wanted position away =
    let counts = grid.counts old in
    let range = box_at_origin counts in
    let index = index_at grid position in
    let both = and_left (is_covered grid position && is_below counts index) (not (is_below wanted position)) away in
    let covered = and_left (is_covered grid position) (is_below counts index) both in
    let inside = and_right (is_covered grid position) (is_below counts index) both in
    let past : is_below wanted position ≡ false = not_true (is_below wanted position) (and_right (is_covered grid position && is_below counts index) (not (is_below wanted position)) away) in
    let has = has_box_is grid index (chunk_has_box grid lawful index position (covered_chunk grid lawful position covered)) in
    let cut = past_cuts grid lawful wanted index has position (covered_holds grid lawful position covered) past in
    let at = positions_all range.start range.shape index (length-replicate {A = ℕ} (length counts) 0) inside in
    let n = place range.shape (offset_from range.start index) in
    passes_among (is_cut grid wanted) (positions range) index (n, slice_get_within _ n _ at, get_or_from_slice_get _ n _ _ at) cut

same_bools : (a b : Bool) → (a ≡ true → b ≡ true) → (b ≡ true → a ≡ true) → a ≡ b
same_bools true b f g = sym (f refl)
same_bools false true f g = g refl
same_bools false false f g = refl

-- the positions that are cut away are those of the chunks that are cut which are past the shape
away_is : (layout : Layout) → IsLawful layout → (old wanted position : List ℕ) → is_in_chunks layout (cut_chunks layout.grid old wanted) position && not (is_below wanted position) ≡ is_cut_away layout.grid old wanted position
away_is layout lawful old wanted position =
    let grid = layout.grid in
    let chunks = cut_chunks grid old wanted in
    let index = index_at grid position in
    let any = list_any (bytes_eq index) chunks in
    let rest = not (is_below wanted position) in
    same_bools (is_in_chunks layout chunks position && rest) (is_cut_away grid old wanted position)
    (λ e.
    let here = and_left (is_covered grid position && any) rest e in
    let covered = and_left (is_covered grid position) any here in
    let among = any_among chunks index (and_right (is_covered grid position) any here) in
    let whole = take_all (length chunks) chunks (omega arith) in
    let inside = cut_is_one grid old wanted (length chunks) index (subst (λ (cs : List (List ℕ)). Contains cs index) (sym whole) among) in
    and_both (is_covered grid position && is_below (grid.counts old) index) rest (and_both (is_covered grid position) (is_below (grid.counts old) index) covered inside) (and_right (is_covered grid position && any) rest e))
    (λ e.
    let both = and_left (is_covered grid position && is_below (grid.counts old) index) rest e in
    let covered = and_left (is_covered grid position) (is_below (grid.counts old) index) both in
    and_both (is_in_chunks layout chunks position) rest (in_chunks layout chunks position covered (away_among grid lawful.grid old wanted position e))
    (and_right (is_covered grid position && is_below (grid.counts old) index) rest e))

-- with all chunks cut the content is what a change of the shape leaves
pub cuts_all : (layout : Layout) → IsLawful layout → (keep : Bool) (shape wanted : List ℕ) (old new : StoreState) → Cuts layout keep wanted (cut_chunks layout.grid shape wanted) old new
    → Front Makes (λ indices. Cuts layout keep wanted indices old new) (cut_chunks layout.grid shape wanted) (length (cut_chunks layout.grid shape wanted)) 0 old new → CutsAll layout keep shape wanted old new
cuts_all layout lawful keep shape wanted old new c front = record {
  cuts = c;
  updates = λ position.
      cut_cells layout keep wanted (cut_chunks layout.grid shape wanted) old new c position
      ∙ ap (λ b. cond b (Some layout.fill) (content layout (value_at old) position)) (away_is layout lawful shape wanted position);
  front = front;
}
