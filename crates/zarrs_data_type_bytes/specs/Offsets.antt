-- Byte strings: one run of bytes, and the offsets that cut it.
use Rattle.std.specs.Prelude.{ℕ, ◌≡◌, ◌+◌, ◌-◌, ◌<◌, List, length, map, take, slice_index, slice_range, sum_by}
use Rattle.std.specs.List.{flat_map, range_with_len}
use Rattle.std.specs.List.Sorted.{IsNonDecreasing}

-- the offsets start at 0 and do not fall
pub record AreOffsets (offsets : List ℕ) : Type 0 where
  pub not_empty : 0 < length offsets
  pub from_zero : slice_index offsets 0 ≡ 0
  pub rising : IsNonDecreasing offsets

-- the last offset
abbrev pub last_offset : List ℕ → ℕ
last_offset offsets = slice_index offsets (length offsets - 1)

-- the offsets cut these bytes: the last one is the length of the bytes
pub record AreCuts (offsets bytes : List ℕ) : Type 0 where
  pub are_offsets : AreOffsets offsets
  pub covered : last_offset offsets ≡ length bytes

-- the byte strings between neighbouring offsets
abbrev pub byte_strings : List ℕ → List ℕ → List (List ℕ)
byte_strings offsets bytes =
    map (λ k. slice_range bytes (slice_index offsets k) (slice_index offsets (k + 1))) (range_with_len 0 (length offsets - 1))

-- the byte strings put together
abbrev pub joined : List (List ℕ) → List ℕ
joined strings = flat_map (λ string. string) strings

-- the number of bytes before each byte string, and behind the last one
abbrev pub offsets_of : List (List ℕ) → List ℕ
offsets_of strings = map (λ k. sum_by length (take k strings)) (range_with_len 0 (length strings + 1))
