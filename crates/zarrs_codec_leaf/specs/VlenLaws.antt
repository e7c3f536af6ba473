-- The law of `zarrs.vlen`.
use Rattle.std.proofs.Common.{◌≡◌, ℕ, zero, suc, ◌+◌, ◌-◌, ◌*◌, ◌<◌, ◌≤◌, ◌^◌, Bool, true, cond, eqb, ◌&&◌, List, []}
use Rattle.std.proofs.Common.{◌∷◌, ◌++◌, length, map, take, drop, get_or, None, Some, refl, sym, ap, ◌∙◌, arith}
use Rattle.std.specs.Prelude.{nat_lt, nat_le, option_and_then, slice_index, slice_range, sum_by}
use Rattle.std.specs.List.{flat_map, list_all, range_with_len}
use Rattle.std.specs.Int.{w64, to_le_bytes, from_le_bytes}
use Rattle.std.specs.Simd.{first_chunks}
use Rattle.std.proofs.lemmas.Bool.{eqb-true, eq-eqb, le-leb, leb-true, ltb-true, and_parts, and_from}
use Rattle.std.proofs.lemmas.Grind.{flat_map-append}
use Rattle.std.proofs.lemmas.Nat.{from_le_bytes-to_le_bytes_8}
use Rattle.std.proofs.lemmas.List.{ext_get_or, get_or_default, length-append, take_at, drop_at, drop_more, take_all, take-append-drop, length-map}
use Rattle.std.proofs.lemmas.List.Concat.{length-flat_map}
use Rattle.std.proofs.lemmas.List.FromFn.{length-map-range_with_len, get_or-map-range_with_len, length-range_with_len, get_or-range_with_len}
use Rattle.std.proofs.lemmas.List.Sorted.{IsNonDecreasingBy-from_all_adjacent}
use Rattle.std.proofs.lemmas.List.Sums.{AllPass-from_list_all, list_all-from_AllPass, sum_by_more}
use Rattle.zarrs_data_type.specs.Offsets.{AreOffsets, AreCuts, byte_strings, joined, last_offset, offsets_of}
use Rattle.zarrs_data_type_bytes.proofs.ByteStrings.{length_strings, strings_at, offset_within, offset_rises}
use Rattle.zarrs_data_type.specs.Kind.{is_variable}
use Rattle.zarrs_codec_leaf.specs.Chosen.{some_is, only_parts, bind_parts}
use Rattle.zarrs_codec_leaf.specs.Leaf.{IsLawfulLeaf}
use Rattle.zarrs_codec_leaf.specs.StringsLaws.{strings-lawful}
use Rattle.zarrs_codec_leaf.specs.Vlen.{index_len, indexed, split_index, offsets_in, are_cuts, cut, unindexed, vlen_meaning}

length-le8 : (n : ℕ) → length (to_le_bytes w64 n) ≡ 8
length-le8 n = refl

-- ---- the offsets of byte strings

module _ (strings : List (List ℕ)) where
  abbrev before : ℕ → ℕ
  before k = sum_by length (take k strings)

  pub length-offsets_of : length (offsets_of strings) ≡ length strings + 1
  length-offsets_of = length-map-range_with_len before 0 (length strings + 1)

  offset_at : (k : ℕ) → k < length strings + 1 → slice_index (offsets_of strings) k ≡ before k
  offset_at k lt = get_or-map-range_with_len before 0 (length strings + 1) k k 0 lt (omega arith)

  length-joined : length (joined strings) ≡ before (length strings)
  length-joined = length-flat_map (λ string. string) strings ∙ ap (sum_by length) (sym (take_all (length strings) strings (omega arith)))

  pub last_is : last_offset (offsets_of strings) ≡ length (joined strings)
  last_is =
      let last : length (offsets_of strings) - 1 ≡ length strings = omega (arith, length-offsets_of) in
      ap (slice_index (offsets_of strings)) last ∙ offset_at (length strings) (omega arith) ∙ sym length-joined

  rises : (k : ℕ) → k < length strings → before (k + 1) ≡ before k + length (get_or strings k [])
  rises k lt = sum_by_more length strings k [] lt

  pub offsets-are : AreOffsets (offsets_of strings)
  offsets-are = record {
    not_empty = omega (arith, length-offsets_of);
    from_zero = offset_at 0 (omega arith);
    rising = IsNonDecreasingBy-from_all_adjacent (λ x. x) (offsets_of strings)
        (λ k d lt. let n = length-offsets_of in
        let here = get_or-map-range_with_len before 0 (length strings + 1) k k d (omega arith) (omega arith) in
        let next = get_or-map-range_with_len before 0 (length strings + 1) (k + 1) (k + 1) d (omega arith) (omega arith) in
        let one = rises k (omega arith) in omega arith);
  }

  pub cuts-are : AreCuts (offsets_of strings) (joined strings)
  cuts-are = record { are_offsets = offsets-are; covered = last_is }

  -- the data, cut before and behind a byte string
  joined-at : (k : ℕ) → k < length strings → joined strings ≡ joined (take k strings) ++ (get_or strings k [] ++ joined (drop (k + 1) strings))
  joined-at k lt =
      ap joined (sym (take-append-drop k strings))
      ∙ flat_map-append (λ string. string) (take k strings) (drop k strings)
      ∙ ap (λ l. joined (take k strings) ++ joined l) (drop_more strings k [] lt)

  cut-at : (k : ℕ) → k < length strings → slice_range (joined strings) (before k) (before (k + 1)) ≡ get_or strings k []
  cut-at k lt =
      let string = get_or strings k [] in
      let behind = joined (drop (k + 1) strings) in
      let len : before (k + 1) - before k ≡ length string = omega (arith, rises k lt) in
      ap (λ m. take m (drop (before k) (joined strings))) len
      ∙ ap (λ l. take (length string) (drop (before k) l)) (joined-at k lt)
      ∙ ap (take (length string)) (drop_at (joined (take k strings)) (string ++ behind) (before k) (length-flat_map (λ s. s) (take k strings)))
      ∙ take_at string behind (length string) refl

  -- the offsets cut the data into the byte strings
  pub strings-again : byte_strings (offsets_of strings) (joined strings) ≡ strings
  strings-again =
      let offsets = offsets_of strings in
      let n = length_strings offsets (joined strings) in
      let m = length-offsets_of in
      ext_get_or [] (byte_strings offsets (joined strings)) strings (omega arith)
      (λ i lt.
      let below : i < length strings = omega arith in
      strings_at offsets (joined strings) i (omega arith)
      ∙ ap (λ a. slice_range (joined strings) a (slice_index offsets (i + 1))) (offset_at i (omega arith))
      ∙ ap (slice_range (joined strings) (before i)) (offset_at (i + 1) (omega arith))
      ∙ cut-at i below)

-- ---- the test of the offsets

module _ (offsets bytes : List ℕ) (some : 0 < length offsets) where
  abbrev rises_at : ℕ → Bool
  rises_at k = nat_le (slice_index offsets k) (slice_index offsets (k + 1))

  abbrev neighbours : List ℕ
  neighbours = range_with_len 0 (length offsets - 1)

  neighbour : (k d : ℕ) → k + 1 < length offsets → get_or neighbours k d ≡ k
  neighbour k d lt = let zero_on : 0 + k ≡ k = omega arith in get_or-range_with_len 0 (length offsets - 1) k d (omega arith) ∙ zero_on

  pub cuts-from_test : are_cuts offsets bytes ≡ true → AreCuts offsets bytes
  cuts-from_test is =
      let p = and_parts (eqb (slice_index offsets 0) 0) (list_all rises_at neighbours && eqb (last_offset offsets) (length bytes)) is in
      let q = and_parts (list_all rises_at neighbours) (eqb (last_offset offsets) (length bytes)) p.1 in
      let each = AllPass-from_list_all rises_at neighbours q.0 in
      record {
        are_offsets = record {
          not_empty = some;
          from_zero = eqb-true (slice_index offsets 0) 0 p.0;
          rising = IsNonDecreasingBy-from_all_adjacent (λ x. x) offsets (λ k d lt.
              let rise : slice_index offsets k ≤ slice_index offsets (k + 1) =
              leb-true (slice_index offsets k) (slice_index offsets (k + 1)) (ap rises_at (sym (neighbour k 0 lt))
              ∙ each k 0 (omega (arith, length-range_with_len 0 (length offsets - 1)))) in
              rw (get_or_default offsets k d 0 (omega arith), get_or_default offsets (k + 1) d 0 lt) rise);
        };
        covered = eqb-true (last_offset offsets) (length bytes) q.1;
      }

  pub test-from_cuts : AreCuts offsets bytes → are_cuts offsets bytes ≡ true
  test-from_cuts cuts =
      and_from (eqb (slice_index offsets 0) 0) (list_all rises_at neighbours && eqb (last_offset offsets) (length bytes))
      (eq-eqb (slice_index offsets 0) 0 cuts.are_offsets.from_zero)
      (and_from (list_all rises_at neighbours) (eqb (last_offset offsets) (length bytes))
      (list_all-from_AllPass rises_at neighbours (λ k d lt.
      let below : k + 1 < length offsets = omega (arith, length-range_with_len 0 (length offsets - 1)) in
      ap rises_at (neighbour k d below) ∙ le-leb (slice_index offsets k) (slice_index offsets (k + 1)) (offset_rises offsets bytes cuts k below)))
      (eq-eqb (last_offset offsets) (length bytes) cuts.covered))

-- ---- the index

length-index : (ns : List ℕ) → length (flat_map (to_le_bytes w64) ns) ≡ 8 * length ns
length-index [] = refl
length-index (n ∷ ns) = length-append (to_le_bytes w64 n) (flat_map (to_le_bytes w64) ns) ∙ omega (arith, length-le8 n, length-index ns)

-- the numbers of an index are read again
numbers-again : (ns : List ℕ) → ((k : ℕ) → k < length ns → get_or ns k 0 < 2 ^ 64)
    → map (from_le_bytes w64) (first_chunks 8 (length ns) (flat_map (to_le_bytes w64) ns)) ≡ ns
numbers-again [] small = refl
numbers-again (n ∷ ns) small =
    let rest = flat_map (to_le_bytes w64) ns in
    ap (λ x. from_le_bytes w64 x ∷ map (from_le_bytes w64) (first_chunks 8 (length ns) (drop 8 (to_le_bytes w64 n ++ rest))))
    (take_at (to_le_bytes w64 n) rest 8 (length-le8 n))
    ∙ ap (λ x. x ∷ map (from_le_bytes w64) (first_chunks 8 (length ns) (drop 8 (to_le_bytes w64 n ++ rest))))
    (from_le_bytes-to_le_bytes_8 n (small 0 (omega arith)))
    ∙ ap (λ l. n ∷ map (from_le_bytes w64) (first_chunks 8 (length ns) l)) (drop_at (to_le_bytes w64 n) rest 8 (length-le8 n))
    ∙ ap (λ l. n ∷ l) (numbers-again ns (λ k lt. small (suc k) (omega arith)))

length-first_chunks : (size n : ℕ) (b : List ℕ) → length (first_chunks size n b) ≡ n
length-first_chunks size zero b = refl
length-first_chunks size (suc n) b = ap suc (length-first_chunks size n (drop size b))

pub length-offsets_in : (n : ℕ) (index : List ℕ) → length (offsets_in n index) ≡ n + 1
length-offsets_in n index = length-map (first_chunks 8 (n + 1) index) (from_le_bytes w64) ∙ length-first_chunks 8 (n + 1) index

-- ---- the law

module _ (strings : List (List ℕ)) (few : index_len (length strings) < 2 ^ 64) (short : length (joined strings) < 2 ^ 64) where
  abbrev n : ℕ
  n = length strings

  abbrev head : List ℕ
  head = to_le_bytes w64 (index_len n)

  abbrev index : List ℕ
  index = flat_map (to_le_bytes w64) (offsets_of strings)

  index_size : length index ≡ index_len n
  index_size = length-index (offsets_of strings) ∙ ap (λ m. 8 * m) (length-offsets_of strings)

  split_again : split_index n (head ++ (index ++ joined strings)) ≡ Some (index, joined strings)
  split_again =
      let rest = index ++ joined strings in
      let b = head ++ rest in
      let len = index_len n in
      let first = length-le8 len in
      let total = length-append head rest in
      let parts = length-append index (joined strings) in
      let number : from_le_bytes w64 (take 8 b) ≡ len =
      ap (from_le_bytes w64) (take_at head rest 8 first) ∙ from_le_bytes-to_le_bytes_8 len few in
      ap (λ x. cond x (Some (take len (drop 8 b), drop len (drop 8 b))) None)
      (and_from (nat_le (8 + len) (length b)) (eqb (from_le_bytes w64 (take 8 b)) len)
      (le-leb (8 + len) (length b) (omega (arith, index_size))) (eq-eqb (from_le_bytes w64 (take 8 b)) len number))
      ∙ ap (λ l. Some (take len l, drop len l)) (drop_at head rest 8 first)
      ∙ ap (λ l. Some (l, drop len rest)) (take_at index (joined strings) len index_size)
      ∙ ap (λ l. Some (index, l)) (drop_at index (joined strings) len index_size)

  offsets_again : offsets_in n index ≡ offsets_of strings
  offsets_again =
      ap (λ m. map (from_le_bytes w64) (first_chunks 8 m index)) (sym (length-offsets_of strings))
      ∙ numbers-again (offsets_of strings)
      (λ k lt. let within = offset_within (offsets_of strings) (joined strings) (cuts-are strings) k lt in omega arith)

  cut_again : cut (offsets_of strings) (joined strings) ≡ Some strings
  cut_again =
      ap (λ x. cond x (Some (byte_strings (offsets_of strings) (joined strings))) None)
      (test-from_cuts (offsets_of strings) (joined strings) (offsets-are strings).not_empty (cuts-are strings))
      ∙ ap Some (strings-again strings)

  unindexed_again : unindexed n (head ++ (index ++ joined strings)) ≡ Some strings
  unindexed_again =
      ap (option_and_then (λ parts. cut (offsets_in n parts.0) parts.1)) split_again
      ∙ ap (λ os. cut os (joined strings)) offsets_again
      ∙ cut_again

again : (strings : List (List ℕ)) (b : List ℕ) → indexed strings ≡ Some b → unindexed (length strings) b ≡ Some strings
again strings b made =
    let len = index_len (length strings) in
    let all = to_le_bytes w64 len ++ (flat_map (to_le_bytes w64) (offsets_of strings) ++ joined strings) in
    let p = only_parts (nat_lt len (2 ^ 64) && nat_lt (length (joined strings)) (2 ^ 64)) (Some all) b made in
    let q = and_parts (nat_lt len (2 ^ 64)) (nat_lt (length (joined strings)) (2 ^ 64)) p.0 in
    ap (unindexed (length strings)) (sym (some_is p.1))
    ∙ unindexed_again strings (ltb-true len (2 ^ 64) q.0) (ltb-true (length (joined strings)) (2 ^ 64) q.1)

count : (n : ℕ) (b : List ℕ) (strings : List (List ℕ)) → unindexed n b ≡ Some strings → length strings ≡ n
count n b strings made =
    let p = bind_parts (split_index n b) (λ parts. cut (offsets_in n parts.0) parts.1) strings made in
    let offsets = offsets_in n p.0.0 in
    let q = only_parts (are_cuts offsets p.0.1) (Some (byte_strings offsets p.0.1)) strings p.2 in
    ap length (sym (some_is q.1)) ∙ length_strings offsets p.0.1 ∙ omega (arith, length-offsets_in n p.0.0)

pub vlen-lawful : IsLawfulLeaf vlen_meaning
vlen-lawful = strings-lawful is_variable indexed unindexed (λ k is. is) again count
