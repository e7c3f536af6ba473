-- A chunk of fill, into which one subchunk after another is put.
use Rattle.std.proofs.Common.{◌≡◌, ℕ, ◌+◌, ◌<◌, ◌≤◌, inl, inr, Bool, true, false, List, [], ◌∷◌, ◌++◌, length, replicate, get_or, Some, refl, sym, ap, subst, ◌∙◌, arith}
use Rattle.std.proofs.lemmas.List.{length-append, length-replicate, get_or-replicate, get_or_append_left}
use Rattle.std.proofs.lemmas.Bool.{cases_lt}
use Rattle.std.proofs.Math.Seq.{get_or-append_seam}
use Rattle.zarrs_data_type.specs.Kind.{Kind}
use Rattle.zarrs_data_type.specs.Cell.{Cell, none}
use Rattle.zarrs_data_type.specs.ArrayData.{ArrayData}
use Rattle.zarrs_data_type.specs.Cells.{cells}
use Rattle.zarrs_subset.specs.Boxes.{position_count, place, unravel, offset_by}
use Rattle.zarrs_subset.specs.Rearranged.{made_of}
use Rattle.zarrs_subset.proofs.Kernel.{place_below}
use Rattle.zarrs_subset.proofs.Positions.{unravel_in}
use Rattle.zarrs_subset.proofs.RearrangedCells.{made_from}
use Rattle.zarrs_codec_shard.specs.SubchunkData.{PutsSubchunk, FillsChunk, HasSubchunks, StartsChunk}
use Rattle.zarrs_codec_shard.specs.Subchunks.{is_cut_by, quotients, corner, subchunk_count, subchunk_of, subchunk_at, assembled}
use Rattle.zarrs_codec_shard.proofs.Cuts.{assembled_again, position_inside}
use Rattle.zarrs_data_type_bytes.proofs.FixedSizes.{some_is}

-- the entries of a list with one more
more_at : {X : Type 0} (xs : List X) (x d : X) (P : ℕ → X) → ((j : ℕ) → j < length xs → P j ≡ get_or xs j d) → P (length xs) ≡ x → (j : ℕ) → j < length (xs ++ x ∷ []) → P j ≡ get_or (xs ++ x ∷ []) j d
more_at xs x d P each last j lt =
    elim (cases_lt j (length xs)) [
      | inl below ↦ each j below ∙ sym (get_or_append_left xs (x ∷ []) d j below)
      | inr past ↦
          let at : j ≡ length xs = omega (arith, length-append xs (x ∷ [])) in
          ap P at ∙ last ∙ sym (get_or-append_seam xs x [] d) ∙ ap (λ i. get_or (xs ++ x ∷ []) i d) (sym at)
    ]

module _ (k : Kind) (f : Cell) (s sub : List ℕ) where
  pub filled_start : (d : ArrayData) → is_cut_by s sub ≡ true → cells k d ≡ Some (replicate (position_count s) f) → HasSubchunks k f s sub [] d
  filled_start d cut is = record {
    held = replicate (position_count s) f;
    held_is = is;
    count = length-replicate (position_count s) f;
    first = λ j lt. absurd (omega arith);
    others = λ j le lt.
        let i = unravel (quotients s sub) j in
        let in_grid = unravel_in (quotients s sub) j lt in
        let F : List ℕ → Cell = λ q. get_or (replicate (position_count s) f) (place s (offset_by (corner sub i) q)) none in
        sym (made_from F sub (replicate (position_count sub) f) none (length-replicate (position_count sub) f)
        (λ n below.
        let q = unravel sub n in
        let p = offset_by (corner sub i) q in
        get_or-replicate (position_count sub) n f none below
        ∙ sym (get_or-replicate (position_count s) (place s p) f none (place_below s p (position_inside s sub i q cut in_grid (unravel_in sub n below))))));
  }

  pub put_next : (subchunks : List (List Cell)) (cs : List Cell) (part old new : ArrayData) → length subchunks < subchunk_count s sub → HasSubchunks k f s sub subchunks old
      → PutsSubchunk k s sub (length subchunks) part old new → cells k part ≡ Some cs → HasSubchunks k f s sub (subchunks ++ cs ∷ []) new
  put_next subchunks cs part old new room h x is =
      let same = some_is (sym x.old_is ∙ h.held_is) in
      record {
        held = x.made;
        held_is = x.new_is;
        count = x.count;
        first = more_at subchunks cs [] (subchunk_at s sub x.made)
            (λ j lt. x.others j (omega arith) (λ e. omega arith) ∙ ap (λ l. subchunk_at s sub l j) same ∙ h.first j lt)
            (some_is (sym x.put ∙ is));
        others = λ j le lt.
            let past : length subchunks + 1 ≤ j = omega (arith, length-append subchunks (cs ∷ [])) in
            x.others j lt (λ e. omega arith) ∙ ap (λ l. subchunk_at s sub l j) same ∙ h.others j (omega arith) lt;
      }

  pub leave_next : (subchunks : List (List Cell)) (d : ArrayData) → length subchunks < subchunk_count s sub → HasSubchunks k f s sub subchunks d
      → HasSubchunks k f s sub (subchunks ++ replicate (position_count sub) f ∷ []) d
  leave_next subchunks d room h =
      let fill = replicate (position_count sub) f in
      record {
        held = h.held;
        held_is = h.held_is;
        count = h.count;
        first = more_at subchunks fill [] (subchunk_at s sub h.held) h.first (h.others (length subchunks) (omega arith) room);
        others = λ j le lt. h.others j (let past : length subchunks ≤ j = omega (arith, length-append subchunks (fill ∷ [])) in past) lt;
      }

  pub filled_whole : (subchunks : List (List Cell)) (d : ArrayData) → is_cut_by s sub ≡ true → length subchunks ≡ subchunk_count s sub → HasSubchunks k f s sub subchunks d → cells k d ≡ Some (assembled s sub subchunks)
  filled_whole subchunks d cut all h =
      let g = quotients s sub in
      let same : subchunks ≡ made_of (subchunk_of s sub h.held) g =
      made_from (subchunk_of s sub h.held) g subchunks [] all (λ j lt. sym (h.first j (omega arith))) in
      h.held_is ∙ ap (λ l. Some l) (sym (ap (assembled s sub) same ∙ assembled_again s sub cut h.held h.count))

module _ (k : Kind) (f : Cell) (s sub : List ℕ) where
  -- the same of a chunk whose other cells are fill only if a subchunk may be left out
  pub chunk_started : (is_whole : Bool) (d : ArrayData) → is_cut_by s sub ≡ true → StartsChunk k f s is_whole d → FillsChunk k f s sub is_whole [] d
  chunk_started is_whole d cut x = record { filler = x.filler; fill_is = x.fill_is; has = filled_start k x.filler s sub d cut x.cells_are }

  pub chunk_put : (is_whole : Bool) (subchunks : List (List Cell)) (cs : List Cell) (part old new : ArrayData) → length subchunks < subchunk_count s sub → FillsChunk k f s sub is_whole subchunks old
      → PutsSubchunk k s sub (length subchunks) part old new → cells k part ≡ Some cs → FillsChunk k f s sub is_whole (subchunks ++ cs ∷ []) new
  chunk_put is_whole subchunks cs part old new room h x is =
      record { filler = h.filler; fill_is = h.fill_is; has = put_next k h.filler s sub subchunks cs part old new room h.has x is }

  pub chunk_left : (subchunks : List (List Cell)) (d : ArrayData) → length subchunks < subchunk_count s sub → FillsChunk k f s sub false subchunks d
      → FillsChunk k f s sub false (subchunks ++ replicate (position_count sub) f ∷ []) d
  chunk_left subchunks d room h =
      let is : h.filler ≡ f = h.fill_is refl in
      record { filler = f; fill_is = λ no. refl; has = leave_next k f s sub subchunks d room (subst (λ c. HasSubchunks k c s sub subchunks d) is h.has) }

  pub chunk_whole : (is_whole : Bool) (subchunks : List (List Cell)) (d : ArrayData) → is_cut_by s sub ≡ true → length subchunks ≡ subchunk_count s sub → FillsChunk k f s sub is_whole subchunks d
      → cells k d ≡ Some (assembled s sub subchunks)
  chunk_whole is_whole subchunks d cut all h = filled_whole k h.filler s sub subchunks d cut all h.has
