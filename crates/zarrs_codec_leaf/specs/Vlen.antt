-- The codec `zarrs.vlen`: the index, which is the offsets of the byte strings, and behind it their data.
use Rattle.std.specs.Prelude.{ℕ, ◌+◌, ◌-◌, ◌*◌, ◌^◌, Bool, Option, None, Some, List, ◌++◌, length, map, take, drop}
use Rattle.std.specs.Prelude.{slice_index, option_and_then, nat_lt, nat_le, ◌==◌, ◌&&◌, if◌then◌else◌}
use Rattle.std.specs.List.{flat_map, list_all, range_with_len}
use Rattle.std.specs.Int.{w64, to_le_bytes, from_le_bytes}
use Rattle.std.specs.Simd.{first_chunks}
use Rattle.zarrs_data_type.specs.Kind.{is_variable}
use Rattle.zarrs_data_type.specs.Offsets.{byte_strings, joined, last_offset, offsets_of}
use Rattle.zarrs_codec_leaf.specs.Leaf.{LeafMeaning}
use Rattle.zarrs_codec_leaf.specs.Strings.{strings_meaning}

-- the length of the index of n byte strings: 8 bytes for each offset, of which there is one more
abbrev pub index_len : ℕ → ℕ
index_len n = 8 * (n + 1)

-- the bytes of byte strings: the length of the index, the index and the data, if the lengths fit 8 bytes
abbrev pub indexed : List (List ℕ) → Option (List ℕ)
indexed strings =
    let len = index_len (length strings) in
    if nat_lt len (2 ^ 64) && nat_lt (length (joined strings)) (2 ^ 64)
    then Some (to_le_bytes w64 len ++ (flat_map (to_le_bytes w64) (offsets_of strings) ++ joined strings)) else None

-- the index of n byte strings and what follows it, if the bytes begin with its length
abbrev pub split_index : ℕ → List ℕ → Option (List ℕ × List ℕ)
split_index n b =
    let len = index_len n in
    let rest = drop 8 b in
    if nat_le (8 + len) (length b) && (from_le_bytes w64 (take 8 b) == len) then Some (take len rest, drop len rest) else None

-- the offsets of an index of n byte strings
abbrev pub offsets_in : ℕ → List ℕ → List ℕ
offsets_in n index = map (from_le_bytes w64) (first_chunks 8 (n + 1) index)

-- whether the offsets cut the data: the first is 0, none falls below the one before it, and the last is the length of
-- the data
abbrev pub are_cuts : List ℕ → List ℕ → Bool
are_cuts offsets bytes =
    (slice_index offsets 0 == 0)
    && (list_all (λ k. nat_le (slice_index offsets k) (slice_index offsets (k + 1))) (range_with_len 0 (length offsets - 1))
    && (last_offset offsets == length bytes))

-- the byte strings that the offsets cut from the data
abbrev pub cut : List ℕ → List ℕ → Option (List (List ℕ))
cut offsets bytes = if are_cuts offsets bytes then Some (byte_strings offsets bytes) else None

-- n byte strings behind their index
abbrev pub unindexed : ℕ → List ℕ → Option (List (List ℕ))
unindexed n b = option_and_then (λ parts. cut (offsets_in n parts.0) parts.1) (split_index n b)

-- it takes texts and byte strings
abbrev pub vlen_meaning : LeafMeaning
vlen_meaning = strings_meaning is_variable indexed unindexed
