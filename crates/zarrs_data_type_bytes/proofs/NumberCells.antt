-- Numbers as cells of 8 bytes.
use Rattle.std.proofs.Common.{◌≡◌, ℕ, zero, suc, ◌∷◌, ◌*◌, ◌/◌, ◌%◌, ◌<◌, ◌≤◌, ◌^◌, ◌+◌, Bool, true, false, cond, List, [], length, map, take}
use Rattle.std.proofs.Common.{drop, get_or, refl, sym, ap, ◌∙◌, arith, replicate, ◌++◌}
use Rattle.std.specs.Prelude.{slice_index, slice_range}
use Rattle.std.specs.Int.{w64, from_le_bytes, to_le_bytes}
use Rattle.std.specs.List.{flat_map, range_with_len, repeat}
use Rattle.std.specs.Simd.{first_chunks}
use Rattle.std.proofs.Math.Nat.{mul-div_cancel, suc-mul}
use Rattle.std.proofs.lemmas.List.{ext_get_or, get_or-map, get_or-replicate, length-append, length-drop, length-replicate, length-take-le, take-append-drop}
use Rattle.std.proofs.lemmas.List.FromFn.{length-map-range_with_len, get_or-map-range_with_len, map-range_with_len_more}
use Rattle.std.proofs.lemmas.Nat.{from_le_bytes-to_le_bytes_8}
use Rattle.zarrs_subset.specs.Boxes.{position_count}
use Rattle.zarrs_subset.specs.Pieces.{piece_at, pieces}
use Rattle.zarrs_subset.specs.Regions.{Box, IsLong, in_box, place_in}
use Rattle.zarrs_subset.proofs.Bytes.{place_in_below}
use Rattle.zarrs_data_type_bytes.specs.Parts.{TakesAt}
use Rattle.zarrs_data_type_bytes.proofs.Pieces.{length-flat_map_same, pieces-cons, pieces-flat_map, repeat_same}
use Rattle.zarrs_data_type_bytes.proofs.ByteStrings.{slice_range-front}
use Rattle.zarrs_data_type_bytes.specs.Places.{numbers_in}
use Rattle.zarrs_data_type_bytes.proofs.Placed.{slice_range-past}

pub length_numbers : (bytes : List ℕ) → length (numbers_in bytes) ≡ length bytes / 8
length_numbers bytes = length-map-range_with_len (λ k. from_le_bytes w64 (piece_at 8 bytes k)) 0 (length bytes / 8)

pub number_at : (bytes : List ℕ) (k : ℕ) → k < length bytes / 8 → slice_index (numbers_in bytes) k ≡ from_le_bytes w64 (piece_at 8 bytes k)
number_at bytes k lt = get_or-map-range_with_len (λ j. from_le_bytes w64 (piece_at 8 bytes j)) 0 (length bytes / 8) k k 0 lt (omega arith)

length-all_written : (ns : List ℕ) → length (flat_map (to_le_bytes w64) ns) ≡ length ns * 8
length-all_written ns = length-flat_map_same (to_le_bytes w64) 8 ns (λ k d lt. refl)

-- chunks that the bytes have are their pieces
chunks-pieces : (size n : ℕ) (b : List ℕ) → n * size ≤ length b → first_chunks size n b ≡ pieces size n b
chunks-pieces size zero b le = refl
chunks-pieces size (suc n) b le =
    let more = suc-mul n size in
    let front : length (take size b) ≡ size = length-take-le size b (omega arith) in
    let left : n * size ≤ length (drop size b) = omega (arith, length-drop size b) in
    ap (λ l. take size b ∷ l) (chunks-pieces size n (drop size b) left)
    ∙ sym (pieces-cons size n (take size b) (drop size b) front)
    ∙ ap (pieces size (suc n)) (take-append-drop size b)

-- a chunk of 8 bytes is the number of that place
pub chunk-number : (bytes : List ℕ) (chunks : List (List ℕ)) (d : List ℕ) (k n : ℕ) → k < length bytes / 8 → chunks ≡ first_chunks 8 (length bytes / 8) bytes
    → n ≡ from_le_bytes w64 (get_or chunks k d) → n ≡ slice_index (numbers_in bytes) k
chunk-number bytes chunks d k n lt front is =
    let count = length bytes / 8 in
    let fits : count * 8 ≤ length bytes = omega arith in
    is
    ∙ ap (λ l. from_le_bytes w64 (get_or l k d)) (front ∙ chunks-pieces 8 count bytes fits)
    ∙ ap (from_le_bytes w64) (get_or-map-range_with_len (piece_at 8 bytes) 0 count k k d lt (omega arith))
    ∙ sym (number_at bytes k lt)

-- bytes of so many numbers
pub numbers_len : (bytes : List ℕ) (n : ℕ) → length bytes ≡ n * 8 → length (numbers_in bytes) ≡ n
numbers_len bytes n len = omega (arith, length_numbers bytes)

pub bytes_len : (bytes : List ℕ) (n : ℕ) → length bytes % 8 ≡ 0 → length (numbers_in bytes) ≡ n → length bytes ≡ n * 8
bytes_len bytes n whole len = omega (arith, length_numbers bytes)

-- numbers that were written
pub numbers-written : (ns : List ℕ) → ((k : ℕ) → k < length ns → get_or ns k 0 < 2 ^ 64) → numbers_in (flat_map (to_le_bytes w64) ns) ≡ ns
numbers-written ns small =
    let bytes = flat_map (to_le_bytes w64) ns in
    let len = length-all_written ns in
    let count : length bytes / 8 ≡ length ns = ap (λ m. m / 8) len ∙ mul-div_cancel (length ns) (omega arith) in
    ext_get_or 0 (numbers_in bytes) ns (length_numbers bytes ∙ count)
    (λ k lt.
    let here : k < length ns = omega (arith, length_numbers bytes) in
    let at : piece_at 8 bytes k ≡ to_le_bytes w64 (get_or ns k 0) =
    sym (get_or-map-range_with_len (piece_at 8 bytes) 0 (length ns) k k [] here (omega arith))
    ∙ ap (λ l. get_or l k []) (pieces-flat_map (to_le_bytes w64) 8 ns (λ j d lt. refl))
    ∙ get_or-map (to_le_bytes w64) ns k 0 [] here in
    number_at bytes k (omega (arith, count)) ∙ ap (from_le_bytes w64) at ∙ from_le_bytes-to_le_bytes_8 (get_or ns k 0) (small k here))

-- one number more
pub numbers-push : (bytes : List ℕ) (n : ℕ) → length bytes % 8 ≡ 0 → n < 2 ^ 64 → numbers_in (bytes ++ to_le_bytes w64 n) ≡ numbers_in bytes ++ n ∷ []
numbers-push bytes n whole small =
    let cell = to_le_bytes w64 n in
    let all = bytes ++ cell in
    let count = length bytes / 8 in
    let read : ℕ → ℕ = λ k. from_le_bytes w64 (piece_at 8 all k) in
    let long : length all ≡ length bytes + 8 = length-append bytes cell in
    let more : length all / 8 ≡ count + 1 = omega arith in
    let held : count * 8 ≡ length bytes = omega arith in
    let front : map read (range_with_len 0 count) ≡ numbers_in bytes =
    ext_get_or 0 (map read (range_with_len 0 count)) (numbers_in bytes) (length-map-range_with_len read 0 count ∙ sym (length_numbers bytes))
    (λ k lt.
    let here : k < count = omega (arith, length-map-range_with_len read 0 count) in
    get_or-map-range_with_len read 0 count k k 0 here (omega arith)
    ∙ ap (from_le_bytes w64) (slice_range-front bytes cell (k * 8) (k * 8 + 8) (omega arith) (omega arith))
    ∙ sym (number_at bytes k here)) in
    let last : piece_at 8 all count ≡ cell =
    ap (λ m. slice_range all m (m + 8)) (held ∙ sym (add_none (length bytes)))
    ∙ ap (λ m. slice_range all (length bytes + 0) m) (ends (length bytes))
    ∙ slice_range-past bytes cell 0 8 in
    ap (λ m. map read (range_with_len 0 m)) more
    ∙ map-range_with_len_more read 0 count count (omega arith)
    ∙ ap (λ l. l ++ read count ∷ []) front
    ∙ ap (λ m. numbers_in bytes ++ m ∷ []) (ap (from_le_bytes w64) last ∙ from_le_bytes-to_le_bytes_8 n small)
  where
    add_none : (m : ℕ) → m + 0 ≡ m
    add_none m = omega arith

    ends : (m : ℕ) → m + 0 + 8 ≡ m + 8
    ends m = omega arith

pub whole-written : (ns : List ℕ) → length (flat_map (to_le_bytes w64) ns) % 8 ≡ 0
whole-written ns = omega (arith, length-all_written ns)

-- zeros
flat_map-replicate : (f : ℕ → List ℕ) (a n : ℕ) → flat_map f (replicate n a) ≡ repeat n (f a)
flat_map-replicate f a zero = refl
flat_map-replicate f a (suc n) = ap (λ l. f a ++ l) (flat_map-replicate f a n)

zeros-written : (n : ℕ) → replicate (n * 8) 0 ≡ flat_map (to_le_bytes w64) (replicate n 0)
zeros-written n = repeat_same 0 (to_le_bytes w64 0) n refl ∙ sym (flat_map-replicate (to_le_bytes w64) 0 n)

pub numbers-zeros : (n : ℕ) → numbers_in (replicate (n * 8) 0) ≡ replicate n 0
numbers-zeros n =
    ap numbers_in (zeros-written n)
    ∙ numbers-written (replicate n 0) (λ k lt. omega (arith, get_or-replicate {A = ℕ} n k 0 0 (omega (arith, length-replicate {A = ℕ} n 0))))

pub whole-zeros : (n : ℕ) → length (replicate {A = ℕ} (n * 8) 0) % 8 ≡ 0
whole-zeros n = omega (arith, length-replicate {A = ℕ} (n * 8) 0)

count_of_bytes : (bytes : List ℕ) (n : ℕ) → length bytes ≡ n * 8 → length bytes / 8 ≡ n
count_of_bytes bytes n len = ap (λ m. m / 8) len ∙ mul-div_cancel n (omega arith)

-- what the copy of the cells says of the numbers
pub numbers-taken : (box other : Box) (part old new : List ℕ) → IsLong box → IsLong other → length part ≡ position_count other.shape * 8
    → length old ≡ position_count box.shape * 8 → length new ≡ position_count box.shape * 8
    → TakesAt box other (piece_at 8 part) (piece_at 8 old) (piece_at 8 new) → TakesAt box other (slice_index (numbers_in part)) (slice_index (numbers_in old)) (slice_index (numbers_in new))
numbers-taken box other part old new long other_long part_len old_len new_len takes position holds =
    go (in_box other position) refl (takes position holds)
  where
    i : ℕ
    i = place_in box position

    j : ℕ
    j = place_in other position

    old_count : length old / 8 ≡ position_count box.shape
    old_count = count_of_bytes old (position_count box.shape) old_len

    new_count : length new / 8 ≡ position_count box.shape
    new_count = count_of_bytes new (position_count box.shape) new_len

    part_count : length part / 8 ≡ position_count other.shape
    part_count = count_of_bytes part (position_count other.shape) part_len

    below : i < position_count box.shape
    below = place_in_below box position long holds

    go : (b : Bool) → in_box other position ≡ b → piece_at 8 new i ≡ cond b (piece_at 8 part j) (piece_at 8 old i)
        → slice_index (numbers_in new) i ≡ cond b (slice_index (numbers_in part) j) (slice_index (numbers_in old) i)
    go true is same =
        number_at new i (omega (arith, new_count, below)) ∙ ap (from_le_bytes w64) same ∙ sym (number_at part j (omega (arith, part_count, place_in_below other position other_long is)))
    go false is same =
        number_at new i (omega (arith, new_count, below)) ∙ ap (from_le_bytes w64) same ∙ sym (number_at old i (omega (arith, old_count, below)))
