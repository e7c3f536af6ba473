-- Byte strings put together, and the offsets that cut them again.
use Rattle.std.proofs.Common.{◌≡◌, ℕ, ◌+◌, ◌-◌, ◌<◌, ◌≤◌, List, [], ◌∷◌, ◌++◌, length, map, take, drop, get_or}
use Rattle.std.proofs.Common.{sym, ap, ◌∙◌, subst, append_assoc, append-nil, arith}
use Rattle.std.specs.Prelude.{slice_index, slice_range, sum, sum_by}
use Rattle.std.proofs.Math.Seq.{take-add}
use Rattle.std.proofs.lemmas.Grind.{flat_map-append}
use Rattle.std.proofs.lemmas.List.{drop-drop, ext_get_or, get_or-map, length-drop, length-map, length-take-le, take-map, take-take, take_all, take_more}
use Rattle.std.proofs.lemmas.List.FromFn.{length-map-range_with_len, get_or-map-range_with_len}
use Rattle.std.proofs.lemmas.List.Sums.{sum-map, sum_by-take-le, sum_by_more}
use Rattle.zarrs_data_type_bytes.specs.Offsets.{AreOffsets, byte_strings, joined, last_offset}
use Rattle.zarrs_data_type_bytes.proofs.ByteStrings.{strings_at, length_strings}
use Rattle.zarrs_data_type_bytes.specs.Places.{ArePlaces, offsets_from, placed_strings, string_of}
use Rattle.zarrs_data_type_bytes.proofs.Placed.{joined_at, length-joined, length_placed, placed_at}

-- two slices that follow each other
slice_both : (xs : List ℕ) (a b c : ℕ) → a ≤ b → b ≤ c → slice_range xs a c ≡ slice_range xs a b ++ slice_range xs b c
slice_both xs a b c first second =
    let n : c - a ≡ (b - a) + (c - b) = omega arith in
    let m : a + (b - a) ≡ b = omega arith in
    ap (λ k. take k (drop a xs)) n
    ∙ take-add (b - a) (c - b) (drop a xs)
    ∙ ap (λ l. slice_range xs a b ++ take (c - b) l) (drop-drop (b - a) a xs ∙ ap (λ k. drop k xs) m)

-- one more byte string
joined_more : (strings : List (List ℕ)) (i : ℕ) → i < length strings → joined (take (i + 1) strings) ≡ joined (take i strings) ++ string_of strings i
joined_more strings i lt =
    ap joined (take_more strings i [] lt)
    ∙ flat_map-append (λ string. string) (take i strings) (string_of strings i ∷ [])
    ∙ ap (λ l. joined (take i strings) ++ l) (append-nil (string_of strings i))

module _ (bytes starts lens : List ℕ) (i from to start len : ℕ) (made : List ℕ) (below : i < length starts)
    (start_is : start ≡ slice_index starts i) (len_is : len ≡ slice_index lens i)
    (so_far : made ++ slice_range bytes from to ≡ joined (take i (placed_strings bytes starts lens))) where
  strings : List (List ℕ)
  strings = placed_strings bytes starts lens

  next : joined (take (i + 1) (placed_strings bytes starts lens)) ≡ (made ++ slice_range bytes from to) ++ slice_range bytes start (start + len)
  next =
      joined_more (placed_strings bytes starts lens) i (omega (arith, length_placed bytes starts lens))
      ∙ ap (λ l. l ++ string_of (placed_strings bytes starts lens) i) (sym so_far)
      ∙ ap (λ l. (made ++ slice_range bytes from to) ++ l) (placed_at bytes starts lens i below
      ∙ ap (λ s. slice_range bytes s (s + slice_index lens i)) (sym start_is)
      ∙ ap (λ n. slice_range bytes start (start + n)) (sym len_is))

  -- the next byte string follows those that are not copied yet
  pub run_longer : from ≤ to → start ≡ to → made ++ slice_range bytes from (start + len) ≡ joined (take (i + 1) (placed_strings bytes starts lens))
  run_longer ordered is =
      ap (λ l. made ++ l) (slice_both bytes from to (start + len) ordered (omega arith) ∙ ap (λ s. slice_range bytes from to ++ slice_range bytes s (start + len)) (sym is))
      ∙ sym (append_assoc made (slice_range bytes from to) (slice_range bytes start (start + len)))
      ∙ sym next

  -- it lies elsewhere
  pub run_new : (new : List ℕ) → new ≡ made ++ slice_range bytes from to → new ++ slice_range bytes start (start + len) ≡ joined (take (i + 1) (placed_strings bytes starts lens))
  run_new new is = ap (λ l. l ++ slice_range bytes start (start + len)) is ∙ sym next

-- ---- offsets

pub offset_at : (lens : List ℕ) (k : ℕ) → k < length lens + 1 → slice_index (offsets_from lens) k ≡ sum (take k lens)
offset_at lens k lt = get_or-map-range_with_len (λ j. sum (take j lens)) 0 (length lens + 1) k k 0 lt (omega arith)

pub length_offsets : (lens : List ℕ) → length (offsets_from lens) ≡ length lens + 1
length_offsets lens = length-map-range_with_len (λ j. sum (take j lens)) 0 (length lens + 1)

sum_rises : (lens : List ℕ) (i j : ℕ) → i ≤ j → sum (take i lens) ≤ sum (take j lens)
sum_rises lens i j le = subst (λ (l : List ℕ). sum l ≤ sum (take j lens)) (take-take i j lens le) (sum_by-take-le (λ n. n) (take j lens) i)

pub are_offsets : (lens : List ℕ) → AreOffsets (offsets_from lens)
are_offsets lens = record {
  not_empty = omega (arith, length_offsets lens);
  from_zero = offset_at lens 0 (omega arith);
  rising = λ i j d le lt.
      let long = length_offsets lens in
      let low = get_or-map-range_with_len (λ k. sum (take k lens)) 0 (length lens + 1) i i d (omega arith) (omega arith) in
      let high = get_or-map-range_with_len (λ k. sum (take k lens)) 0 (length lens + 1) j j d (omega arith) (omega arith) in
      omega (arith, low, high, sum_rises lens i j le);
}

module _ (bytes starts lens : List ℕ) (places : ArePlaces bytes starts lens) where
  -- the lengths are those of the byte strings
  pub placed_lens : map length (placed_strings bytes starts lens) ≡ lens
  placed_lens =
      let strings = placed_strings bytes starts lens in
      let count = length_placed bytes starts lens in
      let same = length-map {A = List ℕ} {B = ℕ} strings length in
      ext_get_or 0 (map length strings) lens (omega (arith, places.same_length))
      (λ k lt.
      let here : k < length starts = omega arith in
      let inside = places.within k here in
      let start = slice_index starts k in
      let len = slice_index lens k in
      let width : start + len - start ≡ len = omega arith in
      len_of strings k (omega arith)
      ∙ ap length (placed_at bytes starts lens k here)
      ∙ length-take-le (start + len - start) (drop start bytes) (omega (arith, length-drop start bytes))
      ∙ width)
    where
      len_of : (strings : List (List ℕ)) (k : ℕ) → k < length strings → get_or (map length strings) k 0 ≡ length (string_of strings k)
      len_of strings k lt = get_or-map length strings k [] 0 lt

  sum_of : (k : ℕ) → sum (take k lens) ≡ sum_by length (take k (placed_strings bytes starts lens))
  sum_of k =
      ap (λ l. sum (take k l)) (sym placed_lens)
      ∙ ap sum (take-map length k (placed_strings bytes starts lens))
      ∙ sum-map length (take k (placed_strings bytes starts lens))

  -- the last offset is the length of the byte strings put together
  pub covers_all : last_offset (offsets_from lens) ≡ length (joined (placed_strings bytes starts lens))
  covers_all =
      let strings = placed_strings bytes starts lens in
      let last : length (offsets_from lens) - 1 ≡ length lens = omega (arith, length_offsets lens) in
      let whole : length lens ≡ length strings = places.same_length ∙ sym (length_placed bytes starts lens) in
      ap (slice_index (offsets_from lens)) last
      ∙ offset_at lens (length lens) (omega arith)
      ∙ sum_of (length lens)
      ∙ ap (λ k. sum_by length (take k strings)) whole
      ∙ ap (sum_by length) (take_all (length strings) strings (omega arith))
      ∙ sym (length-joined strings)

  -- the offsets cut them again
  pub cut_again : byte_strings (offsets_from lens) (joined (placed_strings bytes starts lens)) ≡ placed_strings bytes starts lens
  cut_again =
      let strings = placed_strings bytes starts lens in
      let offsets = offsets_from lens in
      let all = joined strings in
      let count : length (byte_strings offsets all) ≡ length strings =
      omega (arith, length_strings offsets all, length_offsets lens, places.same_length, length_placed bytes starts lens) in
      ext_get_or [] (byte_strings offsets all) strings count
      (λ k lt.
      let here : k < length strings = omega arith in
      let more = sum_by_more length strings k [] here in
      let from : slice_index offsets k ≡ sum_by length (take k strings) =
      offset_at lens k (omega (arith, places.same_length, length_placed bytes starts lens)) ∙ sum_of k in
      let to : slice_index offsets (k + 1) ≡ sum_by length (take k strings) + length (string_of strings k) =
      offset_at lens (k + 1) (omega (arith, places.same_length, length_placed bytes starts lens)) ∙ sum_of (k + 1) ∙ more in
      strings_at offsets all k (omega (arith, length_offsets lens, places.same_length, length_placed bytes starts lens))
      ∙ ap (λ a. slice_range all a (slice_index offsets (k + 1))) from
      ∙ ap (λ b. slice_range all (sum_by length (take k strings)) b) to
      ∙ joined_at strings k here)
