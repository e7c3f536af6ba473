-- Byte strings that lie among bytes, each where it starts and as long as is said.
use Rattle.std.specs.Prelude.{ℕ, ◌≡◌, ◌+◌, ◌/◌, ◌<◌, ◌≤◌, List, [], length, map, slice_index, slice_index_or, slice_range, sum, take}
use Rattle.std.specs.Int.{w64, from_le_bytes}
use Rattle.std.specs.List.{range_with_len}
use Rattle.zarrs_subset.specs.Pieces.{piece_at}

-- the numbers of 8 bytes each, little endian, that stand one after another
abbrev pub numbers_in : List ℕ → List ℕ
numbers_in bytes = map (λ k. from_le_bytes w64 (piece_at 8 bytes k)) (range_with_len 0 (length bytes / 8))

-- the byte string of number k
abbrev pub string_of : List (List ℕ) → ℕ → List ℕ
string_of strings k = slice_index_or strings k []

-- the byte strings that start there and are so long
abbrev pub placed_strings : List ℕ → List ℕ → List ℕ → List (List ℕ)
placed_strings bytes starts lens =
    map (λ k. slice_range bytes (slice_index starts k) (slice_index starts k + slice_index lens k)) (range_with_len 0 (length starts))

-- there is a length for each start, and each byte string lies among the bytes
pub record ArePlaces (bytes starts lens : List ℕ) : Type 0 where
  pub same_length : length lens ≡ length starts
  pub within : (k : ℕ) → k < length starts → slice_index starts k + slice_index lens k ≤ length bytes

-- where byte strings of these lengths start if they stand one after another, and where the last one ends
abbrev pub offsets_from : List ℕ → List ℕ
offsets_from lens = map (λ k. sum (take k lens)) (range_with_len 0 (length lens + 1))
