-- JSON texts in ASCII.
use Rattle.std.specs.Prelude.{ℕ, List, [], ◌∷◌, nat_lt, if◌then◌else◌}
use Rattle.std.specs.List.{flat_map}
use Rattle.std.specs.Int.{w16, to_be_bytes}
use Rattle.std.specs.Str.{chars}
use Rattle.std.specs.Char.Escape.{encode_utf16}
use Rattle.hex.specs.Hex.{encode_lower}

-- a unit of UTF-16 as `\u` and four digits
abbrev pub unit_text : ℕ → List ℕ
unit_text unit = 92 ∷ 117 ∷ encode_lower (to_be_bytes w16 unit)

-- a character of a JSON text: outside of ASCII its units of UTF-16
abbrev pub escaped : ℕ → List ℕ
escaped c = if nat_lt c 128 then c ∷ [] else flat_map unit_text (encode_utf16 c)

-- the JSON text of the same value in ASCII
abbrev pub ascii_text : List ℕ → List ℕ
ascii_text text = flat_map escaped (chars text)
