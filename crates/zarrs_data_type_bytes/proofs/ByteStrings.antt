-- Byte strings that offsets cut from bytes.
use Rattle.std.proofs.Common.{◌≡◌, ℕ, zero, suc, ◌+◌, ◌-◌, ◌<◌, ◌≤◌, Bool, true, false, List, [], ◌∷◌, ◌++◌}
use Rattle.std.proofs.Common.{length, map, take, drop, get_or, refl, sym, ap, ◌∙◌, arith, IsTrue, ◌↔◌, append-nil}
use Rattle.std.specs.Prelude.{slice_index, slice_index_or, slice_range, MatchBool, sum_by}
use Rattle.std.specs.List.{range_with_len, flat_map}
use Rattle.std.specs.List.Sorted.{IsNonDecreasing}
use Rattle.std.proofs.lemmas.Bool.{false≢true}
use Rattle.std.proofs.lemmas.Grind.{flat_map-append}
use Rattle.std.proofs.lemmas.List.{ext_get_or, length_push, get_or_push, get_or_append_left, length-append, take_all}
use Rattle.std.proofs.lemmas.List.{take-append-le, drop-append-le, length-drop, length-take-le}
use Rattle.std.proofs.lemmas.List.FromFn.{length-map-range_with_len, get_or-map-range_with_len, map-range_with_len_more}
use Rattle.std.proofs.lemmas.List.Sums.{sum_by_more, sum_by-append}
use Rattle.std.proofs.Math.Seq.{take-add, drop-append_seam}
use borrow.Author.Count.{below_more}
use Rattle.zarrs_data_type_bytes.specs.Offsets.{AreOffsets, AreCuts, byte_strings, joined, offsets_of}

-- a slice of the front
pub slice_range-front : (xs ys : List ℕ) (a b : ℕ) → a ≤ b → b ≤ length xs → slice_range (xs ++ ys) a b ≡ slice_range xs a b
slice_range-front xs ys a b le within =
    ap (take (b - a)) (drop-append-le a xs ys (omega arith))
    ∙ take-append-le (b - a) (drop a xs) ys (omega (arith, length-drop a xs))

-- the slice that was put behind
pub slice_range-seam : (xs ys : List ℕ) (a b : ℕ) → a ≡ length xs → b ≡ length xs + length ys → slice_range (xs ++ ys) a b ≡ ys
slice_range-seam xs ys a b from to =
    let n : b - a ≡ length ys = omega arith in
    ap (λ k. take k (drop a (xs ++ ys))) n
    ∙ ap (λ k. take (length ys) (drop k (xs ++ ys))) from
    ∙ ap (take (length ys)) (drop-append_seam xs ys)
    ∙ take_all (length ys) ys (omega arith)

pub length_strings : (offsets bytes : List ℕ) → length (byte_strings offsets bytes) ≡ length offsets - 1
length_strings offsets bytes =
    length-map-range_with_len (λ k. slice_range bytes (slice_index offsets k) (slice_index offsets (k + 1))) 0 (length offsets - 1)

pub strings_at : (offsets bytes : List ℕ) (k : ℕ) → k + 1 < length offsets → slice_index_or (byte_strings offsets bytes) k [] ≡ slice_range bytes (slice_index offsets k) (slice_index offsets (k + 1))
strings_at offsets bytes k lt =
    get_or-map-range_with_len (λ j. slice_range bytes (slice_index offsets j) (slice_index offsets (j + 1))) 0 (length offsets - 1) k k [] (omega arith) (omega arith)

-- an offset is at most the length of the bytes
pub offset_within : (offsets bytes : List ℕ) → AreCuts offsets bytes → (k : ℕ) → k < length offsets → slice_index offsets k ≤ length bytes
offset_within offsets bytes cuts k lt =
    let below = cuts.are_offsets.rising k (length offsets - 1) 0 (omega arith) (omega (arith, cuts.are_offsets.not_empty)) in
    let end = cuts.covered in
    omega arith

-- and at most the next one
pub offset_rises : (offsets bytes : List ℕ) → AreCuts offsets bytes → (k : ℕ) → k + 1 < length offsets → slice_index offsets k ≤ slice_index offsets (k + 1)
offset_rises offsets bytes cuts k lt = cuts.are_offsets.rising k (k + 1) 0 (omega arith) lt

-- one more byte string, behind the others
pub strings_push : (offsets bytes string : List ℕ) → AreCuts offsets bytes → byte_strings (offsets ++ length (bytes ++ string) ∷ []) (bytes ++ string) ≡ byte_strings offsets bytes ++ string ∷ []
strings_push offsets bytes string cuts =
    let n = length offsets - 1 in
    let o : List ℕ = offsets ++ length (bytes ++ string) ∷ [] in
    let b : List ℕ = bytes ++ string in
    let positive = cuts.are_offsets.not_empty in
    let last = cuts.covered in
    let sum = length-append bytes string in
    let len_o = length_push offsets (length (bytes ++ string)) in
    ext_get_or [] (byte_strings o b) (byte_strings offsets bytes ++ string ∷ [])
    (omega (arith, length_strings o b, length_strings offsets bytes, length_push (byte_strings offsets bytes) string))
    (λ i lt.
    let within : i < n + 1 = omega (arith, length_strings o b) in
    strings_at o b i (omega arith) ∙ below_more (λ k. slice_range b (slice_index o k) (slice_index o (k + 1)) ≡ get_or (byte_strings offsets bytes ++ string ∷ []) k []) n
    (λ k below.
    let here = get_or_append_left offsets (length b ∷ []) 0 k (omega arith) in
    let next = get_or_append_left offsets (length b ∷ []) 0 (k + 1) (omega arith) in
    let rise = offset_rises offsets bytes cuts k (omega arith) in
    let cut = offset_within offsets bytes cuts (k + 1) (omega arith) in
    rw (here, next) (slice_range-front bytes string (slice_index offsets k) (slice_index offsets (k + 1)) rise cut)
    ∙ sym (strings_at offsets bytes k (omega arith))
    ∙ sym (get_or_append_left (byte_strings offsets bytes) (string ∷ []) [] k (omega (arith, length_strings offsets bytes))))
    (let here = get_or_append_left offsets (length b ∷ []) 0 n (omega arith) in
    let next = get_or_push offsets (length b) 0 (n + 1) (omega arith) in
    slice_range-seam bytes string (slice_index o n) (slice_index o (n + 1)) (here ∙ last) (next ∙ sum)
    ∙ sym (get_or_push (byte_strings offsets bytes) string [] n (length_strings offsets bytes)))
    i within)

-- the same, if the new offset is that length
pub strings_push_at : (offsets bytes string : List ℕ) (end : ℕ) → AreCuts offsets bytes → end ≡ length (bytes ++ string) → byte_strings (offsets ++ end ∷ []) (bytes ++ string) ≡ byte_strings offsets bytes ++ string ∷ []
strings_push_at offsets bytes string end cuts is = ap (λ e. byte_strings (offsets ++ e ∷ []) (bytes ++ string)) is ∙ strings_push offsets bytes string cuts

-- the first n byte strings put together are the bytes up to the offset of number n
joined_front : (offsets bytes : List ℕ) → AreCuts offsets bytes → (n : ℕ) → n + 1 ≤ length offsets
    → flat_map (λ string. string) (map (λ k. slice_range bytes (slice_index offsets k) (slice_index offsets (k + 1))) (range_with_len 0 n)) ≡ take (slice_index offsets n) bytes
joined_front offsets bytes cuts zero le = sym (ap (λ k. take k bytes) cuts.are_offsets.from_zero)
joined_front offsets bytes cuts (suc n) le =
    let cut : ℕ → List ℕ = λ k. slice_range bytes (slice_index offsets k) (slice_index offsets (k + 1)) in
    let one : suc n ≡ n + 1 = omega arith in
    let from = slice_index offsets n in
    let to = slice_index offsets (n + 1) in
    let rise : from ≤ to = offset_rises offsets bytes cuts n (omega arith) in
    let sum : from + (to - from) ≡ to = omega arith in
    ap (λ m. flat_map (λ string. string) (map cut (range_with_len 0 m))) one
    ∙ ap (flat_map (λ string. string)) (map-range_with_len_more cut 0 n n (omega arith))
    ∙ flat_map-append (λ string. string) (map cut (range_with_len 0 n)) (cut n ∷ [])
    ∙ ap (λ l. flat_map (λ string. string) (map cut (range_with_len 0 n)) ++ l) (append-nil (cut n))
    ∙ ap (λ l. l ++ cut n) (joined_front offsets bytes cuts n (omega arith))
    ∙ sym (take-add from (to - from) bytes)
    ∙ ap (λ k. take k bytes) sum
    ∙ ap (λ m. take (slice_index offsets m) bytes) (sym one)

pub joined-strings : (offsets bytes : List ℕ) → AreCuts offsets bytes → joined (byte_strings offsets bytes) ≡ bytes
joined-strings offsets bytes cuts =
    joined_front offsets bytes cuts (length offsets - 1) (omega (arith, cuts.are_offsets.not_empty))
    ∙ ap (λ k. take k bytes) cuts.covered
    ∙ take_all (length bytes) bytes (omega arith)

-- the number of bytes of the first n byte strings
pub sum_front : (offsets bytes : List ℕ) → AreCuts offsets bytes → (n : ℕ) → n + 1 ≤ length offsets → sum_by length (take n (byte_strings offsets bytes)) ≡ slice_index offsets n
sum_front offsets bytes cuts zero le = sym cuts.are_offsets.from_zero
sum_front offsets bytes cuts (suc n) le =
    let strings = byte_strings offsets bytes in
    let one : suc n ≡ n + 1 = omega arith in
    let from = slice_index offsets n in
    let to = slice_index offsets (n + 1) in
    let rise : from ≤ to = offset_rises offsets bytes cuts n (omega arith) in
    let within : to ≤ length bytes = offset_within offsets bytes cuts (n + 1) (omega arith) in
    let size : length (slice_range bytes from to) ≡ to - from = length-take-le (to - from) (drop from bytes) (omega (arith, length-drop from bytes)) in
    let sum : from + (to - from) ≡ to = omega arith in
    ap (λ m. sum_by length (take m strings)) one
    ∙ sum_by_more length strings n [] (omega (arith, length_strings offsets bytes))
    ∙ ap (λ m. m + length (get_or strings n [])) (sum_front offsets bytes cuts n (omega arith))
    ∙ ap (λ m. from + m) (ap length (strings_at offsets bytes n (omega arith)) ∙ size)
    ∙ sum
    ∙ ap (slice_index offsets) (sym one)

pub offsets_of-strings : (offsets bytes : List ℕ) → AreCuts offsets bytes → offsets_of (byte_strings offsets bytes) ≡ offsets
offsets_of-strings offsets bytes cuts =
    let strings = byte_strings offsets bytes in
    let at : ℕ → ℕ = λ k. sum_by length (take k strings) in
    let len = length-map-range_with_len at 0 (length strings + 1) in
    let count = length_strings offsets bytes in
    ext_get_or 0 (offsets_of strings) offsets (omega (arith, len, count, cuts.are_offsets.not_empty))
    (λ i lt.
    let here : i < length strings + 1 = omega (arith, len) in
    get_or-map-range_with_len at 0 (length strings + 1) i i 0 here (omega arith)
    ∙ sum_front offsets bytes cuts i (omega (arith, count)))

-- the first number is 0, and a test tells whether they do not fall
pub offsets_test : (numbers : List ℕ) (test : Bool) → 0 < length numbers → slice_index numbers 0 ≡ 0
    → MatchBool test (IsNonDecreasing numbers) ((k : ℕ) × (k + 1 < length numbers) × ((d : ℕ) → get_or numbers (k + 1) d < get_or numbers k d))
    → IsTrue test ↔ AreOffsets numbers
offsets_test numbers true some zero_first rising = (λ _. record { not_empty = some; from_zero = zero_first; rising = rising }, λ _. refl)
offsets_test numbers false some zero_first falls = (
  λ is. absurd (false≢true is),
  λ are.
      let here = falls.2 0 in
      let rise = are.rising falls.0 (falls.0 + 1) 0 (omega arith) falls.1 in
      absurd (omega arith),
)

-- the number of bytes of a run of byte strings
pub sum_run : (offsets bytes : List ℕ) → AreCuts offsets bytes → (from count : ℕ) → from + count + 1 ≤ length offsets
    → slice_index offsets (from + count) - slice_index offsets from ≡ sum_by length (slice_range (byte_strings offsets bytes) from (from + count))
sum_run offsets bytes cuts from count le =
    let strings = byte_strings offsets bytes in
    let n : count ≡ from + count - from = omega arith in
    let whole = sum_front offsets bytes cuts (from + count) le in
    let front = sum_front offsets bytes cuts from (omega arith) in
    let parts : sum_by length (take (from + count) strings) ≡ sum_by length (take from strings) + sum_by length (take count (drop from strings)) =
    ap (sum_by length) (take-add from count strings) ∙ sum_by-append length (take from strings) (take count (drop from strings)) in
    let run : slice_index offsets (from + count) - slice_index offsets from ≡ sum_by length (take count (drop from strings)) = omega (arith, whole, front, parts) in
    run ∙ ap (λ k. sum_by length (take k (drop from strings))) n
