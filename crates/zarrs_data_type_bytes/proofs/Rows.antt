-- Byte strings that are put behind others a row at a time.
use Rattle.std.proofs.Common.{◌≡◌, ℕ, zero, suc, ◌+◌, ◌-◌, ◌<◌, ◌≤◌, List, [], ◌∷◌, ◌++◌, length, map, take, drop, get_or}
use Rattle.std.proofs.Common.{sym, ap, subst, ◌∙◌, arith, append-nil, append_assoc}
use Rattle.std.specs.Prelude.{slice_index, slice_range}
use Rattle.std.proofs.lemmas.List.{length_push, get_or_push, get_or_append_left, get_or_default, get_or-drop, drop-drop, length-append}
use Rattle.std.proofs.lemmas.List.{length-drop, length-take-le, take_more, map-append}
use Rattle.std.proofs.lemmas.List.Sorted.{IsNonDecreasingBy-push}
use Rattle.std.proofs.Math.Seq.{take-add}
use Rattle.zarrs_data_type_bytes.specs.Offsets.{AreCuts, byte_strings}
use Rattle.zarrs_data_type_bytes.proofs.ByteStrings.{offset_within, strings_at, strings_push_at, length_strings}

-- ---- slices

-- a slice with one more
slice_more : {X : Type 0} (xs : List X) (a n : ℕ) (d : X) → a + n < length xs → slice_range xs a (a + (n + 1)) ≡ slice_range xs a (a + n) ++ get_or xs (a + n) d ∷ []
slice_more xs a n d lt =
    let more : (a + (n + 1)) - a ≡ n + 1 = omega arith in
    let held : n ≡ (a + n) - a = omega arith in
    ap (λ k. take k (drop a xs)) more
    ∙ take_more (drop a xs) n d (omega (arith, length-drop a xs))
    ∙ ap (λ k. take k (drop a xs) ++ get_or (drop a xs) n d ∷ []) held
    ∙ ap (λ x. slice_range xs a (a + n) ++ x ∷ []) (get_or-drop a xs n d)

-- two slices that follow each other
slice_join : (xs : List ℕ) (a b c : ℕ) → a ≤ b → b ≤ c → slice_range xs a b ++ slice_range xs b c ≡ slice_range xs a c
slice_join xs a b c ab bc =
    let n = b - a in
    let m = c - b in
    let from : b ≡ a + n = omega arith in
    let whole : n + m ≡ c - a = omega arith in
    ap (λ l. take n (drop a xs) ++ take m l) (ap (λ k. drop k xs) from ∙ sym (drop-drop n a xs))
    ∙ sym (take-add n m (drop a xs))
    ∙ ap (λ k. take k (drop a xs)) whole

length_slice : (xs : List ℕ) (a b : ℕ) → a ≤ b → b ≤ length xs → length (slice_range xs a b) ≡ b - a
length_slice xs a b le within = length-take-le (b - a) (drop a xs) (omega (arith, length-drop a xs))

-- ---- rows of byte strings

-- one more byte string
cuts_push : (offsets bytes string : List ℕ) (end : ℕ) → AreCuts offsets bytes → end ≡ length (bytes ++ string) → AreCuts (offsets ++ end ∷ []) (bytes ++ string)
cuts_push offsets bytes string end cuts is =
    let some = cuts.are_offsets.not_empty in
    let long = length_push offsets end in
    let last : length (offsets ++ end ∷ []) - 1 ≡ length offsets = omega (arith, long) in
    record {
      are_offsets = record {
        not_empty = omega arith;
        from_zero = get_or_append_left offsets (end ∷ []) 0 0 some ∙ cuts.are_offsets.from_zero;
        rising = IsNonDecreasingBy-push (λ x. x) offsets end cuts.are_offsets.rising
            (λ d lt. omega (arith, get_or_default offsets (length offsets - 1) d 0 (omega arith), cuts.covered, is, length-append bytes string));
      };
      covered = get_or_push offsets end 0 (length (offsets ++ end ∷ []) - 1) (sym last) ∙ is;
    }

-- the byte strings of a run of others, behind those so far
module _ (offsets bytes cuts source : List ℕ) (held : AreCuts offsets bytes) (given : AreCuts cuts source) (from : ℕ) where
  abbrev pub first : ℕ
  first = slice_index cuts from

  abbrev pub moved : ℕ → ℕ
  moved cut = length bytes + (cut - first)

  abbrev pub ends : ℕ → List ℕ
  ends n = offsets ++ map moved (slice_range cuts (from + 1) (from + 1 + n))

  abbrev pub run : ℕ → List ℕ
  run n = bytes ++ slice_range source first (slice_index cuts (from + n))

  abbrev pub strings : List (List ℕ)
  strings = byte_strings cuts source

  none_ends : ends 0 ≡ offsets
  none_ends =
      let none : (from + 1 + 0) - (from + 1) ≡ 0 = omega arith in
      ap (λ k. offsets ++ map moved (take k (drop (from + 1) cuts))) none ∙ append-nil offsets

  none_run : run 0 ≡ bytes
  none_run =
      let here : from + 0 ≡ from = omega arith in
      let none : first - first ≡ 0 = omega arith in
      ap (λ j. bytes ++ slice_range source first (slice_index cuts j)) here
      ∙ ap (λ k. bytes ++ take k (drop first source)) none
      ∙ append-nil bytes

  none_strings : slice_range strings from (from + 0) ≡ []
  none_strings = let none : (from + 0) - from ≡ 0 = omega arith in ap (λ k. take k (drop from strings)) none

  rises : (n : ℕ) → from + n < length cuts → first ≤ slice_index cuts (from + n)
  rises n lt = given.are_offsets.rising from (from + n) 0 (omega arith) lt

  more_ends : (n : ℕ) → from + (n + 1) < length cuts → ends (n + 1) ≡ ends n ++ moved (slice_index cuts (from + (n + 1))) ∷ []
  more_ends n lt =
      let at : from + 1 + n ≡ from + (n + 1) = omega arith in
      let cut = slice_range cuts (from + 1) (from + 1 + n) in
      ap (λ l. offsets ++ map moved l) (slice_more cuts (from + 1) n 0 (omega arith))
      ∙ ap (λ l. offsets ++ l) (map-append moved cut (slice_index cuts (from + 1 + n) ∷ []))
      ∙ sym (append_assoc offsets (map moved cut) (moved (slice_index cuts (from + 1 + n)) ∷ []))
      ∙ ap (λ k. ends n ++ moved (slice_index cuts k) ∷ []) at

  abbrev pub string_at : ℕ → List ℕ
  string_at n = slice_range source (slice_index cuts (from + n)) (slice_index cuts (from + (n + 1)))

  more_run : (n : ℕ) → from + (n + 1) < length cuts → run (n + 1) ≡ run n ++ string_at n
  more_run n lt =
      let rise = given.are_offsets.rising (from + n) (from + (n + 1)) 0 (omega arith) lt in
      let low = rises n (omega arith) in
      ap (λ l. bytes ++ l) (sym (slice_join source first (slice_index cuts (from + n)) (slice_index cuts (from + (n + 1))) low rise))
      ∙ sym (append_assoc bytes (slice_range source first (slice_index cuts (from + n))) (string_at n))

  more_strings : (n : ℕ) → from + (n + 1) < length cuts → slice_range strings from (from + (n + 1)) ≡ slice_range strings from (from + n) ++ string_at n ∷ []
  more_strings n lt =
      let next : from + n + 1 ≡ from + (n + 1) = omega arith in
      let here : from + n < length strings = omega (arith, length_strings cuts source) in
      slice_more strings from n [] here
      ∙ ap (λ s. slice_range strings from (from + n) ++ s ∷ []) (strings_at cuts source (from + n) (omega arith)
      ∙ ap (λ k. slice_range source (slice_index cuts (from + n)) (slice_index cuts k)) next)

  end_is : (n : ℕ) → from + (n + 1) < length cuts → moved (slice_index cuts (from + (n + 1))) ≡ length (run n ++ string_at n)
  end_is n lt =
      let low = rises (n + 1) lt in
      let within = offset_within cuts source given (from + (n + 1)) lt in
      let size = length_slice source first (slice_index cuts (from + (n + 1))) low within in
      let whole : moved (slice_index cuts (from + (n + 1))) ≡ length (run (n + 1)) = omega (arith, size, length-append bytes (slice_range source first (slice_index cuts (from + (n + 1))))) in
      whole ∙ ap length (more_run n lt)

  pub range_cuts : (n : ℕ) → from + n < length cuts → AreCuts (ends n) (run n)
  range_cuts zero lt = subst (λ o. AreCuts o (run 0)) (sym none_ends) (subst (λ b. AreCuts offsets b) (sym none_run) held)
  range_cuts (suc n) lt =
      let one : n + 1 ≡ suc n = omega arith in
      let below : from + (n + 1) < length cuts = omega arith in
      let end = moved (slice_index cuts (from + (n + 1))) in
      let pushed = cuts_push (ends n) (run n) (string_at n) end (range_cuts n (omega arith)) (end_is n below) in
      subst (λ m. AreCuts (ends m) (run m)) one
      (subst (λ o. AreCuts o (run (n + 1))) (sym (more_ends n below)) (subst (λ b. AreCuts (ends n ++ end ∷ []) b) (sym (more_run n below)) pushed))

  pub range_pushed : (n : ℕ) → from + n < length cuts → byte_strings (ends n) (run n) ≡ byte_strings offsets bytes ++ slice_range strings from (from + n)
  range_pushed zero lt =
      ap (λ o. byte_strings o (run 0)) none_ends
      ∙ ap (byte_strings offsets) none_run
      ∙ sym (append-nil (byte_strings offsets bytes))
      ∙ ap (λ l. byte_strings offsets bytes ++ l) (sym none_strings)
  range_pushed (suc n) lt =
      let one : n + 1 ≡ suc n = omega arith in
      let below : from + (n + 1) < length cuts = omega arith in
      let end = moved (slice_index cuts (from + (n + 1))) in
      let made = byte_strings offsets bytes in
      let step : byte_strings (ends (n + 1)) (run (n + 1)) ≡ made ++ slice_range strings from (from + (n + 1)) =
      ap (λ o. byte_strings o (run (n + 1))) (more_ends n below)
      ∙ ap (byte_strings (ends n ++ end ∷ [])) (more_run n below)
      ∙ strings_push_at (ends n) (run n) (string_at n) end (range_cuts n (omega arith)) (end_is n below)
      ∙ ap (λ l. l ++ string_at n ∷ []) (range_pushed n (omega arith))
      ∙ append_assoc made (slice_range strings from (from + n)) (string_at n ∷ [])
      ∙ ap (λ l. made ++ l) (sym (more_strings n below)) in
      subst (λ m. byte_strings (ends m) (run m) ≡ made ++ slice_range strings from (from + m)) one step
