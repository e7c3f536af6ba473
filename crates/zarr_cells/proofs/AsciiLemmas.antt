-- JSON texts in ASCII.
use Rattle.std.proofs.Common.{◌≡◌, ℕ, suc, Bool, true, false, ltb, ◌&&◌, List, [], ◌∷◌, ◌++◌, refl, sym, ap, ◌∙◌, subst, arith}
use Rattle.std.specs.List.{flat_map}
use Rattle.std.specs.Int.{w16, to_be_bytes}
use Rattle.std.specs.Str.{IsAscii, chars}
use Rattle.std.specs.Char.Escape.{encode_utf16}
use Rattle.std.proofs.lemmas.Bool.{and_parts, lt-ltb, ltb-true}
use Rattle.std.proofs.lemmas.Str.{IsAscii-append, chars-IsAscii}
use Rattle.std.proofs.lemmas.Str.Ascii.{IsAscii-nil, IsAscii-cons}
use Rattle.hex.specs.Hex.{lower_digits, encode_lower}
use Rattle.hex.proofs.HexLemmas.{IsAscii-encode_with}
use Rattle.zarr_cells.specs.Ascii.{unit_text, escaped, ascii_text}

-- ---- each byte is below 128

are_small : List ℕ → Bool
are_small [] = true
are_small (c ∷ cs) = ltb c 128 && are_small cs

ascii_by_test : (cs : List ℕ) → are_small cs ≡ true → IsAscii cs
unfolding are_small
ascii_by_test [] is = IsAscii-nil
ascii_by_test (c ∷ cs) is = let both = and_parts (ltb c 128) (are_small cs) is in IsAscii-cons c cs (ltb-true c 128 both.0) (ascii_by_test cs both.1)

digits_ascii : IsAscii lower_digits
unfolding are_small
digits_ascii = ascii_by_test lower_digits refl

unit_ascii : (unit : ℕ) → IsAscii (unit_text unit)
unit_ascii unit =
    let digits = encode_lower (to_be_bytes w16 unit) in
    IsAscii-cons 92 (117 ∷ digits) (omega arith) (IsAscii-cons 117 digits (omega arith) (IsAscii-encode_with lower_digits (to_be_bytes w16 unit) digits_ascii))

units_ascii : (units : List ℕ) → IsAscii (flat_map unit_text units)
units_ascii [] = IsAscii-nil
units_ascii (unit ∷ units) = IsAscii-append (unit_text unit) (flat_map unit_text units) (unit_ascii unit) (units_ascii units)

escaped_small : (c : ℕ) → ltb c 128 ≡ true → escaped c ≡ c ∷ []
escaped_small c small = rw small refl

escaped_wide : (c : ℕ) → ltb c 128 ≡ false → escaped c ≡ flat_map unit_text (encode_utf16 c)
escaped_wide c wide = rw wide refl

escaped_ascii : (c : ℕ) (small : Bool) → ltb c 128 ≡ small → IsAscii (escaped c)
escaped_ascii c true is = subst IsAscii (sym (escaped_small c is)) (IsAscii-cons c [] (ltb-true c 128 is) IsAscii-nil)
escaped_ascii c false is = subst IsAscii (sym (escaped_wide c is)) (units_ascii (encode_utf16 c))

all_ascii : (cs : List ℕ) → IsAscii (flat_map escaped cs)
all_ascii [] = IsAscii-nil
all_ascii (c ∷ cs) = IsAscii-append (escaped c) (flat_map escaped cs) (escaped_ascii c (ltb c 128) refl) (all_ascii cs)

pub text_ascii : (text made : List ℕ) → made ≡ ascii_text text → IsAscii made
text_ascii text made is = subst IsAscii (sym is) (all_ascii (chars text))

-- ---- a text in ASCII stays

small_same : (cs : List ℕ) → IsAscii cs → flat_map escaped cs ≡ cs
small_same [] ascii = refl
small_same (c ∷ cs) ascii =
    let others : IsAscii cs = λ i. ascii (suc i) in
    ap (λ l. l ++ flat_map escaped cs) (escaped_small c (lt-ltb c 128 (ascii 0))) ∙ ap (λ l. c ∷ l) (small_same cs others)

pub text_same : (text made : List ℕ) → made ≡ ascii_text text → IsAscii text → made ≡ text
text_same text made is ascii = is ∙ ap (flat_map escaped) (chars-IsAscii text ascii) ∙ small_same text ascii
