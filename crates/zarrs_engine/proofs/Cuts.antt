-- Changes of the array's shape, one chunk after another.
use Rattle.std.proofs.Common.{◌≡◌, ◌≢◌, ◌==◌, ◌<◌, ◌≤◌, ◌+◌, ◌-◌, zero, suc, ℕ, Bool, true, false, not, cond, List, [], ◌∷◌}
use Rattle.std.proofs.Common.{◌++◌, length, take, drop, get_or, replicate, is_some, Option, Some, None, slice_get, Contains}
use Rattle.std.proofs.Common.{◌⊎◌, refl, sym, ◌∙◌, ap, subst, inl, inr, arith, Result}
use Rattle.std.specs.List.{filter}
use Rattle.std.specs.Result.{IsErrAnd, IfErr}
use Rattle.std.proofs.lemmas.Result.{err_from_is_err_and}
use Rattle.std.specs.Option.{option_or}
use Rattle.std.proofs.lemmas.Bool.{cases_Bool, eq-eqb, eqb-true, false≢true}
use Rattle.std.proofs.lemmas.List.{append-nil, length-append, length-replicate, take_all, take-append-drop}
use Rattle.std.proofs.lemmas.List.Elements.{All-contains, All-contains_itself, All-filter, Contains-append_left, Contains-push, filter-append, filter_more}
use Rattle.std.proofs.lemmas.Option.{slice_get-get_or, slice_get_within, get_or_from_slice_get}
use Rattle.std.proofs.Math.Seq.{take-append_seam, drop-cons}
use Rattle.zarrs_engine_calls.specs.declared.call.Call.{Call}
use Rattle.zarrs_subset.specs.Boxes.{position_count}
use Rattle.zarrs_subset.specs.Regions.{Box, Holds, IsLong, box_at_origin, place_in, positions}
use Rattle.zarrs_subset.proofs.Bytes.{place_in_below}
use Rattle.zarrs_subset.proofs.Positions.{length-positions, positions_in, positions_once}
use Rattle.zarrs_chunk_grid.specs.Grids.{box_at, has_box}
use Rattle.zarrs_chunk_grid.proofs.Chunks.{box_long}
use Rattle.zarrs_storage.specs.Store.{StoreState}
use Rattle.zarrs_storage.proofs.ValuesLemmas.{rules_of}
use Rattle.zarrs_data_type.specs.Cell.{Cell}
use Rattle.zarrs_data_type.specs.ArrayData.{ArrayData}
use Rattle.zarrs_data_type.specs.Cells.{HasCells, cells}
use Rattle.zarrs_data_type_bytes.proofs.Cells.{HasCells-some, cells-values}
use Rattle.zarrs_keys.specs.Keys.{IsIndexList}
use Rattle.zarrs_engine_calls.specs.Layout.{ArrayState, Layout, IsLawful, layout_at}
use Rattle.zarrs_engine_calls.specs.Content.{value_at}
use Rattle.zarrs_engine_calls.specs.Refusals as refusal
use Rattle.zarrs_engine_calls.specs.Refusals.{Refusal, RefusesBy, box_refusal, data_refusal, encode_refusal, encoded_cells, fill_refusal}
use Rattle.zarrs_engine_calls.specs.Refusals.{is_left_out, is_too_large, length_refusal, refuse_if}
use Rattle.zarrs_engine_calls.specs.Step.{RefusesResize}
use Rattle.zarrs_engine_calls.specs.ArgumentRefusals.{resize_refusal}
use Rattle.zarrs_engine_calls.specs.Changes.{IsPut, IsValueOf, Makes}
use Rattle.zarrs_engine_calls.specs.Cuts.{Cuts, cut_chunks, is_below, is_cut, keeps_some}
use Rattle.zarrs_engine_calls.specs.Fronts.{CutsAll}
use Rattle.zarrs_engine_calls.specs.Reach.{MayAsk, MayAskChunk, MayAskKept}
use Rattle.zarrs_engine.proofs.PartWrites.{large_region}
use Rattle.zarrs_engine_calls.specs.StateRefusals.{AreCut, NeedsLargeFill, RefusesChunkRead, RefusesCut, RefusesErasure, RefusesKeptCut}
use Rattle.zarrs_engine_calls.specs.ChunkBoxes.{last_of}
use Rattle.zarrs_engine_calls.proofs.CutLaws.{and_left}
use Rattle.zarrs_engine_calls.proofs.Contents.{absent_fill, index_list, one_key, only_member}
use Rattle.zarrs_engine_calls.proofs.CutLoops.{cut_gone, cut_kept, cuts_all, cuts_none, cuts_push, cuts_same}
use Rattle.zarrs_engine_calls.proofs.RefusalLemmas.{fit_chunk, large_chunk, makes_none, memory_or_said}
use Rattle.zarrs_engine_layout.specs.CutWalks.{walk_box, walk_number, walk_whole}
use Rattle.zarrs_engine_layout.specs.Steps.{HasValue, RefusesPut}
use Rattle.zarrs_engine_layout.specs.WholeChunks.{PassesBelow}
use Rattle.zarrs_engine_layout.specs.declared.cut_walk.CutWalk.{CutWalk}
use Rattle.zarrs_engine_layout.proofs.Chunks.{unread_why}
use Rattle.zarrs_engine.specs.Resizes.{HasCut, HasCutCells, HasCutValue, IsCutValue, LeavesCut, LeavesFront, PassesChunk}
use Rattle.zarrs_chunk_grid.specs.declared.traits.ChunkGridTraits.{Ghosts as GridMeaning}
use Rattle.zarrs_keys.specs.declared.traits.ChunkKeyEncodingTraits.{Ghosts as KeyMeaning}
use Rattle.zarrs_codec_chain.specs.declared.traits.ChainTraits.{Ghosts as ChainMeanings}
use Rattle.zarrs_engine_layout.specs.declared.array_layout.ArrayLayout.{ArrayLayout}
use Rattle.zarrs_engine.specs.declared.engine.Engine.{Engine}
use Rattle.zarrs_engine.specs.Engine.{KeepsOthers, KeepsLayout, GivesGrid, grid_of, layout_of}
use Rattle.zarrs_data_type.specs.Kind.{kind}
use Rattle.zarrs_engine.proofs.Ranges.{makes_then, range_length}
use Rattle.zarrs_engine.proofs.RegionFronts.{may_ask_then, not_yet}
use Rattle.zarrs_engine.proofs.Writes.{left_kinds, refused_early}

-- ---- lists

-- an error that `?` hands on as it is
pub err_kept : {A E : Type 0} (r : Result A E) (x : E) (Q : E → Type 0) → IsErrAnd r (λ y. y ≡ x) → Q x → IfErr r Q
err_kept r x Q is here =
    let p = err_from_is_err_and r is in
    subst (λ s. IfErr s Q) (sym p.1) (subst Q (sym p.2) here)

append_assoc_one : (front : List (List ℕ)) (index : List ℕ) (rest : List (List ℕ)) → (front ++ index ∷ []) ++ rest ≡ front ++ (index ∷ rest)
append_assoc_one [] index rest = refl
append_assoc_one (x ∷ front) index rest = ap (λ (l : List (List ℕ)). x ∷ l) (append_assoc_one front index rest)

at_seam : (front : List (List ℕ)) (index : List ℕ) (rest : List (List ℕ)) → slice_get ((front ++ index ∷ []) ++ rest) (length front) ≡ Some index
at_seam [] index rest = refl
at_seam (x ∷ front) index rest = at_seam front index rest

-- what passes a test is among those that were tested
among_filtered : (p : List ℕ → Bool) (xs : List (List ℕ)) (x : List ℕ) → Contains (filter p xs) x → Contains xs x
among_filtered p xs x among = All-contains (Contains xs) (filter p xs) x (All-filter p (Contains xs) xs (All-contains_itself xs)) among

front_makes : (done failed : ℕ) (old mid new : StoreState) → Makes done 0 old mid → Makes 0 failed mid new → Makes done failed old new
front_makes done failed old mid new a b =
    let both = makes_then done 0 0 failed old mid new a b in
    let done_is : done + 0 ≡ done = omega arith in
    let failed_is : 0 + failed ≡ failed = omega arith in
    subst (λ n. Makes n failed old new) done_is (subst (λ n. Makes (done + 0) n old new) failed_is both)

pub cut_has_box : (layout : Layout) (shape index : List ℕ) → is_cut layout.grid shape index ≡ true → has_box layout.grid index ≡ true
cut_has_box layout shape index cut = and_left (has_box layout.grid index) (not (is_below shape (last_of (box_at layout.grid index)))) cut

-- ---- why a chunk is not cut

module _ (layout : Layout) (keep : Bool) (shape index : List ℕ) (state : StoreState) (has : has_box layout.grid index ≡ true) where
  -- the chunk is too large
  pub chunk_fails : (r : Refusal) → RefusesBy (box_refusal layout index) r → RefusesKeptCut layout keep shape index 0 state r
  chunk_fails r why = elim (memory_or_said _ r why) [
    | inl memory ↦ subst (RefusesKeptCut layout keep shape index 0 state) (sym memory) tt
    | inr said ↦ elim (cases_Bool (is_too_large layout (box_at layout.grid index).shape)) [
      | inl large ↦
          let is : Some refusal.size_overflow ≡ Some r = sym (large_chunk layout index has large) ∙ said in
          let same : refusal.size_overflow ≡ r = cc in
          subst (RefusesKeptCut layout keep shape index 0 state) same (refl, inl large)
      | inr fit ↦ absurd (let clash : None ≡ Some r = sym (fit_chunk layout index has fit) ∙ said in cc)
    ]
  ]

  module _ (fit : is_too_large layout (box_at layout.grid index).shape ≡ false) where
    -- the chunk cannot be read
    pub read_fails : IsLawful layout → (r : Refusal) → RefusesChunkRead layout (length_refusal layout index) true index state r → RefusesKeptCut layout keep shape index 0 state r
    read_fails lawful =
        unread_why layout index state has fit (RefusesKeptCut layout keep shape index 0 state) tt (λ broken. (refl, fit, inl broken)) fill_fails (λ refuses. inl (refl, fit, refuses))
      where
        fill_fails : fill_refusal layout (box_at layout.grid index).shape ≡ Some refusal.size_overflow → (value_at state (layout.key index) ≡ None) ⊎ NeedsLargeFill layout index state
            → RefusesKeptCut layout keep shape index 0 state refusal.size_overflow
        fill_fails said (inl absent) =
            let filled = large_region layout (box_at layout.grid index) state (box_long layout.grid index) fit (λ position holds. absent_fill layout (value_at state) lawful index has absent position holds) said in
            (refl, inr (inl (inl filled)))
        fill_fails said (inr needs) = (refl, inr (inl (inr (inl needs))))

    -- the chain takes no such chunk
    pub chain_fails : (made : ArrayData) (h : HasCutCells layout shape index state made) (r : Refusal) → RefusesBy (data_refusal layout keep (box_at layout.grid index).shape (cells layout.kind made)) r → RefusesKeptCut layout keep shape index 0 state r
    chain_fails made h r why =
        let box = box_at layout.grid index in
        let moved = subst (λ (o : Option (List Cell)). RefusesBy (data_refusal layout keep box.shape o) r) h.is_chunk why in
        elim (memory_or_said _ r moved) [
          | inl memory ↦ subst (RefusesKeptCut layout keep shape index 0 state) (sym memory) tt
          | inr said ↦
              let counted : data_refusal layout keep box.shape (Some h.chunk) ≡ cond (is_left_out layout keep h.chunk) None (encode_refusal layout keep box.shape h.chunk) =
              ap (λ b. cond (not b) (Some refusal.codec) (cond (is_left_out layout keep h.chunk) None (encode_refusal layout keep box.shape h.chunk))) (eq-eqb (length h.chunk) (position_count box.shape) h.cut.count) in
              elim (left_kinds (is_left_out layout keep h.chunk) (is_some (encoded_cells layout keep box.shape h.chunk)) (layout.chain.fits layout.kind box.shape) r (sym counted ∙ said)) [
                | inl is ↦ subst (RefusesKeptCut layout keep shape index 0 state) (sym is) (refl, fit, inr (h.chunk, h.cut, said ∙ ap Some is))
                | inr is ↦ subst (RefusesKeptCut layout keep shape index 0 state) (sym is) (refl, inr (inr (h.chunk, h.cut, said ∙ ap Some is)))
              ]
        ]

  -- what is to be present after the cut
  pub cut_value_is : is_too_large layout (box_at layout.grid index).shape ≡ false → (made : ArrayData) (value : Option (List ℕ)) → HasCutCells layout shape index state made
      → data_refusal layout keep (box_at layout.grid index).shape (cells layout.kind made) ≡ None → HasValue layout keep (box_at layout.grid index) made value → HasCutValue layout keep shape index state value
  cut_value_is fit made value h taken v =
      let one : Some v.chunk ≡ Some h.chunk = sym v.is_chunk ∙ h.is_chunk in
      let same : v.chunk ≡ h.chunk = cc in
      record {
        fit = fit;
        chunk = h.chunk;
        cut = h.cut;
        values = cells-values layout.kind made h.chunk h.is_chunk;
        taken = subst (λ (o : Option (List Cell)). data_refusal layout keep (box_at layout.grid index).shape o ≡ None) h.is_chunk taken;
        is_value = subst (λ (cs : List Cell). IsValueOf layout keep (box_at layout.grid index) cs value) same v.is_value;
      }

  pub value_kept : keeps_some layout.grid shape index ≡ true → (value : Option (List ℕ)) → HasCutValue layout keep shape index state value → IsCutValue layout keep shape index state value
  value_kept some value h = record { gone = λ none. absurd (false≢true (sym none ∙ some)); kept = λ _. h }

  pub value_gone : keeps_some layout.grid shape index ≡ false → IsCutValue layout keep shape index state None
  value_gone none = record { gone = λ _. refl; kept = λ some. absurd (false≢true (sym none ∙ some)) }

  pub refuses_kept : keeps_some layout.grid shape index ≡ true → (r : Refusal) → RefusesKeptCut layout keep shape index 0 state r → RefusesCut layout keep shape index 0 state r
  refuses_kept some r why = record { gone = λ none. absurd (false≢true (sym none ∙ some)); kept = λ _. why }

-- ---- one chunk

-- the cells of a chunk are decided by the values alone
cut_then : (layout : Layout) (shape : List ℕ) (box : Box) (old new : StoreState) (chunk : List Cell) → new.values ≡ old.values → AreCut layout shape box old chunk → AreCut layout shape box new chunk
cut_then layout shape box old new chunk same c =
    let moved = subst (λ values. AreCut layout shape box (record old { values = values }) chunk) (sym same) (record { count = c.count; each = c.each }) in
    record { count = moved.count; each = moved.each }

module _ (layout : Layout) (keep : Bool) (shape index : List ℕ) (cut : is_cut layout.grid shape index ≡ true) where
  -- no writing call was made
  pub leaves_cut : (r : Refusal) (state : StoreState) → RefusesCut layout keep shape index 0 state r → LeavesCut layout keep shape index r state state
  leaves_cut r state why = record {
    failed = 0;
    one = omega arith;
    counted = λ some. absurd (omega arith);
    values = refl;
    makes = makes_none state;
    cause = (cut, why);
  }

  pub leaves_cut_memory : (state : StoreState) → LeavesCut layout keep shape index refusal.out_of_memory state state
  leaves_cut_memory state = leaves_cut refusal.out_of_memory state (record { gone = λ _. tt; kept = λ _. tt })

  failed_cut : (value : Option (List ℕ)) (failed : ℕ) (old new : StoreState) (r : Refusal) → HasCutValue layout keep shape index old value → new.values ≡ old.values → RefusesErasure failed new r → RefusesKeptCut layout keep shape index failed new r
  failed_cut value failed old new (refusal.array_subset b s) h same why = absurd why
  failed_cut value failed old new (refusal.chunk_subset b i s) h same why = absurd why
  failed_cut value failed old new (refusal.indices i) h same why = absurd why
  failed_cut value failed old new refusal.codec h same why = absurd why
  failed_cut value failed old new refusal.element h same why = absurd why
  failed_cut value failed old new (refusal.data_shape got expected) h same why = absurd why
  failed_cut value failed old new refusal.storage h same why = inr (h.fit, (h.chunk, cut_then layout shape (box_at layout.grid index) old new h.chunk same h.cut, h.taken), why)
  failed_cut value failed old new refusal.size_overflow h same why = absurd why
  failed_cut value failed old new refusal.out_of_memory h same why = tt
  failed_cut value failed old new (refusal.dimensionality got expected) h same why = absurd why
  failed_cut value failed old new refusal.unsupported h same why = absurd why
  failed_cut value failed old new refusal.unused h same why = absurd why

  -- the store refuses the write
  pub put_fails : (value : Option (List ℕ)) (old new : StoreState) (r : Refusal) → IsCutValue layout keep shape index old value → RefusesPut r old new → LeavesCut layout keep shape index r old new
  put_fails value old new r v put = record {
    failed = put.failed;
    one = put.one;
    counted = put.counted;
    values = put.values;
    makes = put.makes;
    cause = (cut, record { gone = λ _. put.cause; kept = λ some. failed_cut value put.failed old new r (v.kept some) put.values put.cause });
  }

  -- the chunk is cut
  pub puts_cut : IsLawful layout → has_box layout.grid index ≡ true → (key : List ℕ) (value : Option (List ℕ)) (old new : StoreState) → key ≡ layout.key index → IsCutValue layout keep shape index old value → IsPut key value old new → PassesChunk layout keep shape index old new
  puts_cut lawful has key value old new key_is v put = record {
    cut = λ _. record {
      cuts = elim (cases_Bool (keeps_some layout.grid shape index)) [
        | inl some ↦ let h = v.kept some in cut_kept layout lawful keep shape index key value old new has key_is put h.chunk some h.cut h.values h.is_value
        | inr none ↦ cut_gone layout lawful keep shape index key value old new has key_is put none (v.gone none)
      ];
      untouched = λ none. absurd (omega arith);
      makes = put.makes;
    };
    stays = λ uncut. absurd (false≢true (sym uncut ∙ cut));
  }

pub passes_none : (layout : Layout) (keep : Bool) (shape index : List ℕ) (state : StoreState) → is_cut layout.grid shape index ≡ false → PassesChunk layout keep shape index state state
passes_none layout keep shape index state uncut = record { cut = λ cut. absurd (false≢true (sym uncut ∙ cut)); stays = λ _. refl }

-- ---- many chunks

pub has_cut_none : (layout : Layout) (keep : Bool) (shape : List ℕ) (state : StoreState) → HasCut layout keep shape [] state state
has_cut_none layout keep shape state = record { cuts = cuts_none layout keep shape state; untouched = λ _. refl; makes = makes_none state }

module _ (layout : Layout) (lawful : IsLawful layout) (keep : Bool) (shape : List ℕ) (range : Box) (long : IsLong range) where
  abbrev test : List ℕ → Bool
  test index = is_cut layout.grid shape index

  abbrev xs : List (List ℕ)
  xs = positions range

  -- before the first chunk
  pub cut_first : (state : StoreState) → HasCut layout keep shape (filter test (take 0 xs)) state state
  cut_first state = has_cut_none layout keep shape state

  next_is : (n : ℕ) (index : List ℕ) → slice_get xs n ≡ Some index → filter test (take (n + 1) xs) ≡ filter test (take n xs) ++ cond (test index) (index ∷ []) []
  next_is n index at =
      filter_more test xs n index (slice_get_within xs n index at)
      ∙ ap (λ x. filter test (take n xs) ++ cond (test x) (x ∷ []) []) (get_or_from_slice_get xs n index index at)

  -- one more chunk
  pub cut_more : (n : ℕ) (index : List ℕ) (old mid new : StoreState) → slice_get xs n ≡ Some index → HasCut layout keep shape (filter test (take n xs)) old mid → PassesChunk layout keep shape index mid new → HasCut layout keep shape (filter test (take (n + 1) xs)) old new
  cut_more n index old mid new at h p = subst (λ chunks. HasCut layout keep shape chunks old new) (sym (next_is n index at)) (elim (cases_Bool (test index)) [
    | inl holds_so ↦
        let one = p.cut holds_so in
        let front = filter test (take n xs) in
        let count : length (front ++ index ∷ []) ≡ length front + 1 = length-append front (index ∷ []) in
        let both : HasCut layout keep shape (front ++ index ∷ []) old new = record {
          cuts = cuts_push layout lawful keep shape front index old mid new h.cuts one.cuts;
          untouched = λ none. absurd (omega (arith, count));
          makes = subst (λ m. Makes m 0 old new) (sym count) (makes_then (length front) 0 1 0 old mid new h.makes one.makes);
        } in
        subst (λ b. HasCut layout keep shape (front ++ cond b (index ∷ []) []) old new) (sym holds_so) both
    | inr fails_so ↦
        let front = filter test (take n xs) in
        let same = subst (λ s. HasCut layout keep shape front old s) (sym (p.stays fails_so)) h in
        let padded = subst (λ chunks. HasCut layout keep shape chunks old new) (sym (append-nil front)) same in
        subst (λ b. HasCut layout keep shape (front ++ cond b (index ∷ []) []) old new) (sym fails_so) padded
  ])

  -- chunks that are not cut are passed over
  not_next : (n : ℕ) → n < length xs → ((index : List ℕ) → Holds range index → place_in range index ≡ n → test index ≡ false) → filter test (take (n + 1) xs) ≡ filter test (take n xs)
  not_next n below uncut =
      let index = get_or xs n [] in
      let at : slice_get xs n ≡ Some index = slice_get-get_or xs n [] below in
      let fails = uncut index (positions_in range.start range.shape n index long at) (sym (positions_once range.start range.shape n index long at)) in
      next_is n index at ∙ ap (λ b. filter test (take n xs) ++ cond b (index ∷ []) []) fails ∙ append-nil (filter test (take n xs))

  passed_same : (n d : ℕ) → n + d ≤ length xs → ((index : List ℕ) → Holds range index → n ≤ place_in range index → place_in range index < n + d → test index ≡ false) → filter test (take (n + d) xs) ≡ filter test (take n xs)
  passed_same n zero within uncut = let same : n + 0 ≡ n = omega arith in ap (λ m. filter test (take m xs)) same
  passed_same n (suc d) within uncut =
      let next : n + suc d ≡ (n + d) + 1 = omega arith in
      ap (λ m. filter test (take m xs)) next
      ∙ not_next (n + d) (omega arith) (λ index holds is. uncut index holds (omega arith) (omega arith))
      ∙ passed_same n d (omega arith) (λ index holds from upto. uncut index holds from (omega arith))

  pub cut_passed : (n m : ℕ) (old new : StoreState) → n ≤ m → m ≤ length xs → ((index : List ℕ) → Holds range index → n ≤ place_in range index → place_in range index < m → test index ≡ false)
      → HasCut layout keep shape (filter test (take n xs)) old new → HasCut layout keep shape (filter test (take m xs)) old new
  cut_passed n m old new less within uncut h =
      let m_is : n + (m - n) ≡ m = omega arith in
      let same = passed_same n (m - n) (omega arith) (λ index holds from upto. uncut index holds from (omega arith)) in
      subst (λ chunks. HasCut layout keep shape chunks old new) (sym same ∙ ap (λ m. filter test (take m xs)) m_is) h

  -- no chunk is cut
  pub cut_no_chunk : (state : StoreState) → ((index : List ℕ) → Holds range index → test index ≡ false) → HasCut layout keep shape (filter test xs) state state
  cut_no_chunk state uncut =
      let count = length xs in
      let all = cut_passed 0 count state state (omega arith) (omega arith) (λ index holds from upto. uncut index holds) (cut_first state) in
      subst (λ chunks. HasCut layout keep shape (filter test chunks) state state) (take_all count xs (omega arith)) all

  -- all chunks
  pub cut_last : (n : ℕ) (old new : StoreState) → n ≡ length xs → HasCut layout keep shape (filter test (take n xs)) old new → HasCut layout keep shape (filter test xs) old new
  cut_last n old new all h = subst (λ chunks. HasCut layout keep shape (filter test chunks) old new) (ap (λ n. take n xs) all ∙ take_all (length xs) xs (omega arith)) h

  -- the chunks that are cut before a chunk that is cut, and that chunk, begin those that are cut
  split_is : (n : ℕ) (index : List ℕ) → slice_get xs n ≡ Some index → test index ≡ true → filter test xs ≡ (filter test (take n xs) ++ index ∷ []) ++ filter test (drop (n + 1) xs)
  split_is n index at holds_so =
      ap (filter test) (sym (take-append-drop (n + 1) xs)) ∙ filter-append test (take (n + 1) xs) (drop (n + 1) xs)
      ∙ ap (λ front. front ++ filter test (drop (n + 1) xs)) (next_is n index at ∙ ap (λ b. filter test (take n xs) ++ cond b (index ∷ []) []) holds_so)

  passes_at : (n : ℕ) (index : List ℕ) → slice_get xs n ≡ Some index → test index ≡ true → Contains (filter test xs) index
  passes_at n index at holds_so = subst (λ (cs : List (List ℕ)). Contains cs index) (sym (split_is n index at holds_so)) (Contains-append_left (filter test (take n xs) ++ index ∷ []) (filter test (drop (n + 1) xs)) index (Contains-push (filter test (take n xs)) index))

  -- one chunk is refused
  pub cut_fails : (first : Option Refusal) (n : ℕ) (index : List ℕ) (r : Refusal) (old mid new : StoreState) → first ≡ None → slice_get xs n ≡ Some index → HasCut layout keep shape (filter test (take n xs)) old mid → LeavesCut layout keep shape index r mid new
      → LeavesFront layout keep shape (filter test xs) first r old new
  cut_fails first n index r old mid new none at h l =
      let front = filter test (take n xs) in
      let rest = filter test (drop (n + 1) xs) in
      let split = split_is n index at l.cause.0 in
      let done = length front in
      let within : done < length (filter test xs) = omega (arith, ap (λ (cs : List (List ℕ)). length cs) split, length-append (front ++ index ∷ []) rest, length-append front (index ∷ [])) in
      let here : slice_get (filter test xs) done ≡ Some index = ap (λ (cs : List (List ℕ)). slice_get cs done) split ∙ at_seam front index rest in
      let taken : take done (filter test xs) ≡ front = ap (take done) (split ∙ append_assoc_one front index rest) ∙ take-append_seam front (index ∷ rest) in
      let cuts = cuts_same layout keep shape front old mid new l.values h.cuts in
      record {
        done = done;
        failed = l.failed;
        front = record {
          within = omega arith;
          untouched = λ zero. l.values ∙ h.untouched zero;
          changes = λ some. subst (λ indices. Cuts layout keep shape indices old new) (sym taken) cuts;
          makes = front_makes done l.failed old mid new h.makes l.makes;
        };
        below = λ some. within;
        one = l.one;
        counted = l.counted;
        cause = inr (index, here, (none, l.cause.1));
      }

  -- out of memory before the first chunk
  pub cut_short : (first : Option Refusal) (state : StoreState) → LeavesFront layout keep shape (filter test xs) first refusal.out_of_memory state state
  cut_short first state = refused_early _ _ _ _ state tt

  -- a chunk that is cut may be asked what it might be asked at first
  pub cut_ask : (n : ℕ) (index : List ℕ) (old mid : StoreState) → slice_get xs n ≡ Some index → MayAskKept layout shape (filter test xs) old → HasCut layout keep shape (filter test (take n xs)) old mid → test index ≡ true → MayAskKept layout shape (index ∷ []) mid
  cut_ask n index old mid at ask h holds_so = λ other only some.
      let is = only_member index other only in
      let has = cut_has_box layout shape index holds_so in
      let mine = index_list layout lawful index has in
      let same : value_at mid (layout.key index) ≡ value_at old (layout.key index) =
      h.cuts.keys (layout.key index) (λ i early equal.
      let one = one_key layout lawful index i mine (index_list layout lawful i (h.cuts.boxed i early)) equal in
      not_yet range long n index at (subst (Contains (take n xs)) (sym one) (among_filtered test (take n xs) i early))) in
      let here = may_ask_then layout index old mid (rules_of old mid h.makes.reach) same (ask index (passes_at n index at holds_so) (subst (λ i. keeps_some layout.grid shape i ≡ true) is some)) in
      subst (λ i. MayAskChunk layout i mid) (sym is) here

-- ---- a walk through the chunks that are cut

-- the chunks before the one that the walk is at are cut, and those that it leaves out need not be
pub record HasCutTo (layout : Layout) (keep : Bool) (shape counts : List ℕ) (walk : CutWalk) (old new : StoreState) : Type 0 where
  pub same_box : walk_box walk ≡ box_at_origin counts
  pub dimensions : length (walk_box walk).shape ≡ layout.grid.dimensions
  pub left_out : (index : List ℕ) → is_below (walk_whole walk) index ≡ true → is_cut layout.grid shape index ≡ false
  pub cut : HasCut layout keep shape (filter (is_cut layout.grid shape) (take (walk_number walk) (positions (box_at_origin counts)))) old new

module _ (layout : Layout) (lawful : IsLawful layout) (keep : Bool) (shape counts : List ℕ) where
  abbrev array : Box
  array = box_at_origin counts

  long_array : IsLong array
  long_array = length-replicate {A = ℕ} (length counts) 0

  number_within : (walk : CutWalk) → walk_box walk ≡ array → walk_number walk ≤ length (positions array)
  number_within walk same =
      let box = walk_box walk in
      let long : IsLong box = length-replicate {A = ℕ} (length walk.shape.items) 0 in
      let below = place_in_below box walk.current.items long walk.inside in
      let count = length-positions box.start box.shape long in
      let moved : length (positions box) ≡ length (positions array) = ap (λ (b : Box). length (positions b)) same in
      omega arith

  pub walk_at : (walk : CutWalk) (index : List ℕ) → walk_box walk ≡ array → slice_get (positions (walk_box walk)) (walk_number walk) ≡ Some index → slice_get (positions array) (walk_number walk) ≡ Some index
  walk_at walk index same at = subst (λ (b : Box). slice_get (positions b) (walk_number walk) ≡ Some index) same at

  -- what a walk passes over is not cut
  passes_uncut : (walk : CutWalk) (n m : ℕ) → walk_box walk ≡ array → ((index : List ℕ) → is_below (walk_whole walk) index ≡ true → is_cut layout.grid shape index ≡ false) → PassesBelow (walk_box walk).shape (walk_whole walk) n m
      → (index : List ℕ) → Holds array index → n ≤ place_in array index → place_in array index < m → is_cut layout.grid shape index ≡ false
  passes_uncut walk n m same left passes index holds from upto =
      let moved = subst (λ (b : Box). PassesBelow b.shape (walk_whole walk) n m) same passes in
      left index (moved index holds from upto)

  pub walk_long : (walk : CutWalk) (index : List ℕ) (old new : StoreState) → HasCutTo layout keep shape counts walk old new → slice_get (positions (walk_box walk)) (walk_number walk) ≡ Some index → length index ≡ layout.grid.dimensions
  walk_long walk index old new h at =
      let long : IsLong (walk_box walk) = length-replicate {A = ℕ} (length walk.shape.items) 0 in
      range_length (walk_box walk) long (walk_number walk) index at ∙ long ∙ h.dimensions

  pub walk_first : (walk : CutWalk) (state : StoreState) → walk_box walk ≡ array → length (walk_box walk).shape ≡ layout.grid.dimensions → ((index : List ℕ) → is_below (walk_whole walk) index ≡ true → is_cut layout.grid shape index ≡ false)
      → PassesBelow counts (walk_whole walk) 0 (walk_number walk) → HasCutTo layout keep shape counts walk state state
  walk_first walk state same dimensions left passes = record {
    same_box = same;
    dimensions = dimensions;
    left_out = left;
    cut = cut_passed layout lawful keep shape array long_array 0 (walk_number walk) state state (omega arith) (number_within walk same)
        (λ index holds from upto. left index (passes index holds from upto)) (cut_first layout lawful keep shape array long_array state);
  }

  pub walk_more : (walk next : CutWalk) (index : List ℕ) (old mid new : StoreState) → slice_get (positions (walk_box walk)) (walk_number walk) ≡ Some index → HasCutTo layout keep shape counts walk old mid → PassesChunk layout keep shape index mid new
      → walk_box next ≡ walk_box walk → walk_whole next ≡ walk_whole walk → walk_number walk < walk_number next → PassesBelow (walk_box walk).shape (walk_whole walk) (walk_number walk + 1) (walk_number next) → HasCutTo layout keep shape counts next old new
  walk_more walk next index old mid new at h one box whole less passes =
      let same : walk_box next ≡ array = box ∙ h.same_box in
      let here = walk_at walk index h.same_box at in
      let more = cut_more layout lawful keep shape array long_array (walk_number walk) index old mid new here h.cut one in
      record {
        same_box = same;
        dimensions = ap (λ (b : Box). length b.shape) box ∙ h.dimensions;
        left_out = subst (λ (w : List ℕ). (i : List ℕ) → is_below w i ≡ true → is_cut layout.grid shape i ≡ false) (sym whole) h.left_out;
        cut = cut_passed layout lawful keep shape array long_array (walk_number walk + 1) (walk_number next) old new (omega arith) (number_within next same)
            (passes_uncut walk (walk_number walk + 1) (walk_number next) h.same_box h.left_out passes) more;
      }

  pub walk_last : (walk : CutWalk) (index : List ℕ) (old mid new : StoreState) → slice_get (positions (walk_box walk)) (walk_number walk) ≡ Some index → HasCutTo layout keep shape counts walk old mid → PassesChunk layout keep shape index mid new
      → walk_number walk + 1 ≡ length (positions (walk_box walk)) → HasCut layout keep shape (filter (is_cut layout.grid shape) (positions array)) old new
  walk_last walk index old mid new at h one last =
      let here = walk_at walk index h.same_box at in
      let more = cut_more layout lawful keep shape array long_array (walk_number walk) index old mid new here h.cut one in
      cut_last layout lawful keep shape array long_array (walk_number walk + 1) old new (last ∙ ap (λ (b : Box). length (positions b)) h.same_box) more

  pub walk_fails : (walk : CutWalk) (first : Option Refusal) (index : List ℕ) (r : Refusal) (old mid new : StoreState) → first ≡ None → slice_get (positions (walk_box walk)) (walk_number walk) ≡ Some index → HasCutTo layout keep shape counts walk old mid → LeavesCut layout keep shape index r mid new
      → LeavesFront layout keep shape (filter (is_cut layout.grid shape) (positions array)) first r old new
  walk_fails walk first index r old mid new none at h refused =
      cut_fails layout lawful keep shape array long_array first (walk_number walk) index r old mid new none (walk_at walk index h.same_box at) h.cut refused

  pub walk_ask : (walk : CutWalk) (index : List ℕ) (old mid : StoreState) → slice_get (positions (walk_box walk)) (walk_number walk) ≡ Some index → MayAskKept layout shape (filter (is_cut layout.grid shape) (positions array)) old → HasCutTo layout keep shape counts walk old mid
      → is_cut layout.grid shape index ≡ true → MayAskKept layout shape (index ∷ []) mid
  walk_ask walk index old mid at ask h holds_so =
      cut_ask layout lawful keep shape array long_array (walk_number walk) index old mid (walk_at walk index h.same_box at) ask h.cut holds_so

  pub walk_none : (state : StoreState) → ((index : List ℕ) → is_below counts index ≡ true → is_cut layout.grid shape index ≡ false) → HasCut layout keep shape (filter (is_cut layout.grid shape) (positions array)) state state
  walk_none state uncut = cut_no_chunk layout lawful keep shape array long_array state uncut

  pub walk_memory : (first : Option Refusal) (state : StoreState) → LeavesFront layout keep shape (filter (is_cut layout.grid shape) (positions array)) first refusal.out_of_memory state state
  walk_memory first state = cut_short layout lawful keep shape array long_array first state

  -- the number goes up, and stays below that of the array's chunks
  pub walk_falls : (walk next : CutWalk) → walk_box walk ≡ array → walk_box next ≡ walk_box walk → walk_number walk < walk_number next → length (positions array) - walk_number next < length (positions array) - walk_number walk
  walk_falls walk next same box less = let within = number_within next (box ∙ same) in omega arith

-- all that are cut, as an accepted change of the shape
pub resized_all : (layout : Layout) → IsLawful layout → (keep : Bool) (shape wanted : List ℕ) (old new : StoreState) → HasCut layout keep wanted (cut_chunks layout.grid shape wanted) old new → CutsAll layout keep shape wanted old new
resized_all layout lawful keep shape wanted old new h =
    let chunks = cut_chunks layout.grid shape wanted in
    let whole = take_all (length chunks) chunks (omega arith) in
    cuts_all layout lawful keep shape wanted old new h.cuts (record {
      within = omega arith;
      untouched = h.untouched;
      changes = λ some. subst (λ indices. Cuts layout keep wanted indices old new) (sym whole) h.cuts;
      makes = h.makes;
    })

-- ---- the cells of one chunk

-- a chunk of fill
pub filled_cells : (layout : Layout) (box : Box) (filled : ArrayData) → cells layout.kind filled ≡ Some (replicate (position_count box.shape) layout.fill) → HasCells layout.kind filled (position_count box.shape)
filled_cells layout box filled is =
    let n = position_count box.shape in
    let count : length (replicate n layout.fill) ≡ n = length-replicate n layout.fill in
    subst (HasCells layout.kind filled) count (HasCells-some layout.kind filled (replicate n layout.fill) is)

-- what is said of a chunk, whether it is cut and whether it keeps some
pub no_answer : (test some : Bool) → None ≡ cond test (Some some) None → test ≡ false
no_answer true some e = absurd (cc)
no_answer false some e = refl

pub cut_answer : (test some keeps : Bool) → Some keeps ≡ cond test (Some some) None → (test ≡ true) × (keeps ≡ some)
cut_answer true some keeps e = (refl, cc)
cut_answer false some keeps e = absurd (cc)

-- ---- what the arguments decide

module _ (layout : Layout) (wanted : List ℕ) where
  pub resize_none : length wanted ≡ layout.grid.dimensions → layout.grid.resizes ≡ true → resize_refusal layout wanted ≡ None
  resize_none long resizes =
      ap (λ b. option_or (refuse_if (not b) (refusal.dimensionality (length wanted) layout.grid.dimensions)) (refuse_if (not layout.grid.resizes) refusal.unsupported)) (eq-eqb (length wanted) layout.grid.dimensions long)
      ∙ ap (λ b. refuse_if (not b) refusal.unsupported) resizes

  pub resize_unsupported : length wanted ≡ layout.grid.dimensions → layout.grid.resizes ≡ false → resize_refusal layout wanted ≡ Some refusal.unsupported
  resize_unsupported long fixed =
      ap (λ b. option_or (refuse_if (not b) (refusal.dimensionality (length wanted) layout.grid.dimensions)) (refuse_if (not layout.grid.resizes) refusal.unsupported)) (eq-eqb (length wanted) layout.grid.dimensions long)
      ∙ ap (λ b. refuse_if (not b) refusal.unsupported) fixed

  pub resize_length : length wanted ≢ layout.grid.dimensions → resize_refusal layout wanted ≡ Some (refusal.dimensionality (length wanted) layout.grid.dimensions)
  resize_length apart = elim (cases_Bool (length wanted == layout.grid.dimensions)) [
    | inl is ↦ absurd (apart (eqb-true (length wanted) layout.grid.dimensions is))
    | inr is_not ↦ ap (λ b. option_or (refuse_if (not b) (refusal.dimensionality (length wanted) layout.grid.dimensions)) (refuse_if (not layout.grid.resizes) refusal.unsupported)) is_not
  ]

  pub resize_early : (keep : Bool) (shape : List ℕ) (r : Refusal) (state : StoreState) → RefusesBy (resize_refusal layout wanted) r → RefusesResize layout keep shape wanted r state state
  resize_early keep shape r state why = refused_early _ _ _ _ state why

  pub resize_memory : (keep : Bool) (shape : List ℕ) (state : StoreState) → RefusesResize layout keep shape wanted refusal.out_of_memory state state
  resize_memory keep shape state = refused_early _ _ _ _ state tt

-- ---- engines

module _ {G K C : Type 0} {g : GridMeaning G} {k : KeyMeaning K} {c : ChainMeanings C} {S : Type 0} where
  -- what changes the store alone
  pub keeps_others : (old new : Engine S G K C g k c) → KeepsLayout old new → KeepsOthers old new
  keeps_others old new parts = record {
    grid = ap (λ (p : ArrayLayout G K C g k c). g.grid p.grid) parts;
    extension = ap (λ (p : ArrayLayout G K C g k c). g.extension p.grid) parts;
    path = ap (λ (p : ArrayLayout G K C g k c). p.path) parts;
    keys = ap (λ (p : ArrayLayout G K C g k c). p.keys) parts;
    chain = ap (λ (p : ArrayLayout G K C g k c). p.chain) parts;
    data_type = ap (λ (p : ArrayLayout G K C g k c). p.cell_type.data_type) parts;
    fill_value = ap (λ (p : ArrayLayout G K C g k c). p.cell_type.fill_value) parts;
  }

  -- the parts that a change of the shape keeps lie as before
  pub layout_same : (old new : Engine S G K C g k c) → KeepsOthers old new → layout_of new ≡ layout_of old
  layout_same old new o = λ t. layout_at (o.grid t) (o.path t) (k.key (o.keys t)) (c.meaning (o.chain t)) (kind (o.data_type t)) (o.fill_value t)

  -- a grid of the same boxes was set
  pub others_given : (given : G) (old mid new : Engine S G K C g k c) → KeepsLayout old mid → GivesGrid given mid new → g.grid given ≡ g.grid (grid_of old) → g.extension given ≡ g.extension (grid_of old) → KeepsOthers old new
  others_given given old mid new parts gives same extension = record {
    grid = ap g.grid gives.grid ∙ same;
    extension = ap g.extension gives.grid ∙ extension;
    path = gives.path ∙ ap (λ (p : ArrayLayout G K C g k c). p.path) parts;
    keys = gives.keys ∙ ap (λ (p : ArrayLayout G K C g k c). p.keys) parts;
    chain = gives.chain ∙ ap (λ (p : ArrayLayout G K C g k c). p.chain) parts;
    data_type = gives.data_type ∙ ap (λ (p : ArrayLayout G K C g k c). p.cell_type.data_type) parts;
    fill_value = gives.fill_value ∙ ap (λ (p : ArrayLayout G K C g k c). p.cell_type.fill_value) parts;
  }

  pub others_then : (old mid new : Engine S G K C g k c) → KeepsOthers old mid → KeepsOthers mid new → KeepsOthers old new
  others_then old mid new a b = record {
    grid = b.grid ∙ a.grid;
    extension = b.extension ∙ a.extension;
    path = b.path ∙ a.path;
    keys = b.keys ∙ a.keys;
    chain = b.chain ∙ a.chain;
    data_type = b.data_type ∙ a.data_type;
    fill_value = b.fill_value ∙ a.fill_value;
  }

-- the calls from one on begin with it
pub drop_first : (calls : List Call) (n : ℕ) (call : Call) → n < length calls → call ≡ get_or calls n call → drop n calls ≡ call ∷ drop (n + 1) calls
drop_first calls n call below is =
    let next : n + 1 ≡ suc n = omega arith in
    drop-cons calls n call below ∙ ap (λ (c : Call). c ∷ drop (suc n) calls) (sym is) ∙ ap (λ m. call ∷ drop m calls) (sym next)

-- what a change of the shape may ask
pub may_ask_kept : (layout : Layout) (wanted : List ℕ) (chunks : List (List ℕ)) (state : ArrayState) → ((index : List ℕ) → Contains chunks index × (keeps_some layout.grid wanted index ≡ true) → IsIndexList layout.grid.dimensions index → MayAsk layout index state) → MayAskKept layout wanted chunks state.store
may_ask_kept layout wanted chunks state may index among some = record {
  key = λ long. (may index (among, some) long).key;
  places = λ long value place stands below. (may index (among, some) long).places place;
}
