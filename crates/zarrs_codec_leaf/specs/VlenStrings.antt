-- The codecs `vlen-utf8` and `vlen-bytes`: the number of byte strings, and each of them behind its length.
use Rattle.std.specs.Prelude.{ℕ, zero, suc, ◌+◌, ◌^◌, Bool, true, false, Option, None, Some, List, [], ◌∷◌, ◌++◌}
use Rattle.std.specs.Prelude.{length, take, drop, option_map, option_and_then, nat_lt, nat_le, ◌==◌, ◌&&◌}
use Rattle.std.specs.Prelude.{if◌then◌else◌}
use Rattle.std.specs.List.{flat_map, list_all}
use Rattle.std.specs.Int.{w32, to_le_bytes, from_le_bytes}
use Rattle.zarrs_data_type.specs.Kind.{Kind}
use Rattle.zarrs_data_type.specs.Kind as type
use Rattle.zarrs_codec_leaf.specs.Leaf.{LeafMeaning}
use Rattle.zarrs_codec_leaf.specs.Strings.{strings_meaning}

abbrev pub is_string : Kind → Bool
is_string type.string = true
is_string _ = false

abbrev pub is_bytes : Kind → Bool
is_bytes type.bytes = true
is_bytes _ = false

-- a byte string behind its length
abbrev pub behind_length : List ℕ → List ℕ
behind_length string = to_le_bytes w32 (length string) ++ string

-- whether a length fits its field
abbrev pub is_short : List ℕ → Bool
is_short string = nat_lt (length string) (2 ^ 32)

-- the bytes of byte strings, if their number and their lengths fit the fields
abbrev pub counted_strings : List (List ℕ) → Option (List ℕ)
counted_strings strings =
    if nat_lt (length strings) (2 ^ 32) && list_all is_short strings
    then Some (to_le_bytes w32 (length strings) ++ flat_map behind_length strings) else None

-- the byte string at the front, and what follows it
abbrev pub first_string : List ℕ → Option (List ℕ × List ℕ)
first_string b =
    let len = from_le_bytes w32 (take 4 b) in
    if nat_le (4 + len) (length b) then Some (take len (drop 4 b), drop (4 + len) b) else None

-- n byte strings, behind which nothing follows
abbrev pub strings_of : ℕ → List ℕ → Option (List (List ℕ))
strings_of zero b = if length b == 0 then Some [] else None
strings_of (suc n) b = option_and_then (λ p. option_map (λ strings. p.0 ∷ strings) (strings_of n p.1)) (first_string b)

-- n byte strings behind their number
abbrev pub uncounted : ℕ → List ℕ → Option (List (List ℕ))
uncounted n b = if nat_le 4 (length b) && (from_le_bytes w32 (take 4 b) == n) then strings_of n (drop 4 b) else None

abbrev pub vlen_utf8_meaning : LeafMeaning
vlen_utf8_meaning = strings_meaning is_string counted_strings uncounted

abbrev pub vlen_bytes_meaning : LeafMeaning
vlen_bytes_meaning = strings_meaning is_bytes counted_strings uncounted
