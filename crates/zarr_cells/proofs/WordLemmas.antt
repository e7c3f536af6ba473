-- What words say, and what is written for bits.
use Rattle.std.proofs.Common.{◌≡◌, ◌≢◌, ℕ, zero, suc, ◌+◌, ◌-◌, ◌*◌, ◌/◌, ◌%◌, ◌^◌, ◌<◌, ◌≤◌, Bool, true, false, cond, eqb, ltb, leb, ◌&&◌, List, [], ◌∷◌, ◌++◌, length, get_or, take, replicate, Option, Some, None, Result, Ok, Err, IsOk, OnOk, decimal, refl, sym, ap, ◌∙◌, subst, inl, inr, arith, length-append, append_assoc}
use Rattle.std.specs.Prelude.{⊤, slice_index, bytes_eq}
use Rattle.std.specs.Result.{result_ok, OkIff}
use Rattle.std.specs.Int.{IsInRange}
use Rattle.std.specs.Str.{all_ascii_digits}
use Rattle.std.specs.Str.Parse.{AllDigits, ParsesUnsigned, digits_value}
use Rattle.std.specs.Io.KnownBytes.{Appends}
use Rattle.std.proofs.lemmas.Bool.{true≢false, lt-ltb, ltb-true, le-leb, ne_eqb, eqb-false, and_parts, cases_lt}
use Rattle.std.proofs.lemmas.Str.Parse.{tells_digits, tells_all_ascii_digits, numerals_by_value, parse_plain, digit_at}
use Rattle.std.proofs.lemmas.Slice.Eq.{bytes_eq-Decides}
use Rattle.std.proofs.lemmas.Nat.{le_bytes_8, from_be_bytes-to_be_bytes_4, from_be_bytes-to_be_bytes_8}
use Rattle.std.proofs.lemmas.List.{get_or_append_left, length-replicate}
use Rattle.std.proofs.Math.Seq.{take-append_seam, get_or-append_seam, get_or-append_right}
use Rattle.std.specs.Int.{w32, w64, to_le_bytes, to_be_bytes, from_le_bytes, from_be_bytes}
use Rattle.std.specs.Float.{float_is_finite, NotNan}
use Rattle.std.specs.Float.Ieee.{of_bits, top}
use Rattle.std.specs.Float.Numeral.{Parts, exponent_text, text_of, IsWellFormed}
use Rattle.std.specs.Fmt.{sign_text}
use Rattle.fast_float.specs.Parse.{parse_float}
use Rattle.ryu.specs.Plain.{IsPlainNumber}
use Rattle.hex.specs.Hex.{IsBytes, encode_lower, encode_with, lower_digits, decode_sized}
use Rattle.hex.proofs.HexLemmas.{decode_sized-encode_lower}
use lib.Ieee.Bits.{to_bits-of_bits}
use Rattle.std.proofs.lemmas.Fmt.{decimal_is_IsNumeral, digits_decimal}
use Rattle.zarr_cells.specs.declared.form.Form.{Form}
use Rattle.zarr_cells.specs.declared.form.Form.TheVariants.{Unsigned, Signed, Float}
use Rattle.zarr_cells.specs.declared.form.Width.{Width}
use Rattle.zarr_cells.specs.declared.form.Width.TheVariants.{Four, Eight}
use Rattle.zarr_cells.specs.Numbers.{number_in, bits_in, float_in, name_in, unquoted, format_of, widened, sign_byte, is_below_zero, cell_in, AreSolid, WritesBits}

-- ---- numbers

abbrev AreDigits : List ℕ → Type 0
AreDigits digits = all_ascii_digits digits ≡ true

either_none : (some : Bool) (value : Option ℕ) → cond (some && false) value None ≡ None
either_none true value = refl
either_none false value = refl

number_parsed : {E : Type 0} (word : List ℕ) (parsed : Result ℕ E) (all some small : Bool) → all_ascii_digits word ≡ all → ltb 0 (length word) ≡ some
    → ltb (digits_value 10 word) (2 ^ 64) ≡ small → OkIff parsed (AreDigits word × (0 < length word) × (digits_value 10 word < 2 ^ 64)) (digits_value 10 word)
    → result_ok parsed ≡ cond (some && (all && small)) (Some (digits_value 10 word)) None
number_parsed word (Ok n) all some small a s l h =
    let one : all ≡ true = sym a ∙ h.0.0 in
    let two : some ≡ true = sym s ∙ lt-ltb 0 (length word) h.0.1 in
    let three : small ≡ true = sym l ∙ lt-ltb (digits_value 10 word) (2 ^ 64) h.0.2 in
    rw (one, two, three) (ap Some h.1)
number_parsed word (Err e) true true true a s l h = absurd (h (a, ltb-true 0 (length word) s, ltb-true (digits_value 10 word) (2 ^ 64) l))
number_parsed word (Err e) true true false a s l h = refl
number_parsed word (Err e) true false small a s l h = refl
number_parsed word (Err e) false some small a s l h = sym (either_none some (Some (digits_value 10 word)))

-- what a parser of digits answers, if no plus stands first
pub number_is : {E : Type 0} (word : List ℕ) (parsed : Result ℕ E) (first : Bool) → ParsesUnsigned 64 10 word parsed → first ≡ eqb (get_or word 0 0) 43 → first ≡ false
    → result_ok parsed ≡ number_in word
number_is word parsed first parses is plain =
    number_parsed word parsed (all_ascii_digits word) (ltb 0 (length word)) (ltb (digits_value 10 word) (2 ^ 64)) refl refl refl
    (parse_plain (numerals_by_value AreDigits tells_all_ascii_digits) 64 word parsed parses (eqb-false (get_or word 0 0) 43 (sym is ∙ plain)))

-- what holds where the call went well, and it did
pub at_ok : {T E P : Type 0} (result : Result T E) → IsOk result → OnOk result P → P
at_ok (Ok value) went holds = holds
at_ok (Err error) went holds = absurd (true≢false (sym went))

-- ---- digits

pub digits_solid : (digits : List ℕ) → AllDigits 10 digits → AreSolid digits
digits_solid [] all = tt
digits_solid (c ∷ digits) all =
    let parts = tells_digits.parts c digits all in
    (omega (arith, parts.0.0), (λ is. omega (arith, parts.0.0, is)), digits_solid digits parts.1)

pub number_decimal : (n : ℕ) → n < 2 ^ 64 → number_in (decimal n) ≡ Some n
number_decimal n small =
    let is = decimal_is_IsNumeral n small in
    let digits : all_ascii_digits (decimal n) ≡ true = digits_decimal (numerals_by_value AreDigits tells_all_ascii_digits) n small in
    let some : ltb 0 (length (decimal n)) ≡ true = lt-ltb 0 (length (decimal n)) is.0.0 in
    rw (some, digits, is.1, lt-ltb n (2 ^ 64) small) refl

pub decimal_says : (n : ℕ) (text : List ℕ) (old new : Option (List ℕ)) → n < 2 ^ 64 → text ≡ decimal n → Appends old new text → WritesBits Unsigned n old new
decimal_says n text old new small is written =
    let numeral = decimal_is_IsNumeral n small in
    record {
      word = decimal n;
      some = numeral.0.0;
      solid = digits_solid (decimal n) numeral.0.1;
      says = number_decimal n small;
      written = subst (λ (t : List ℕ). Appends old new t) is written;
    }

not_minus : (digits : List ℕ) → 0 < length digits → AllDigits 10 digits → eqb (get_or digits 0 0) 45 ≡ false
not_minus digits some all = let first : IsInRange 48 57 (get_or digits 0 0) = digit_at digits 0 all some in ne_eqb (get_or digits 0 0) 45 (λ is. omega (arith, first.0, is))

pub positive_says : (n : ℕ) (text : List ℕ) (old new : Option (List ℕ)) → n < 2 ^ 63 → text ≡ decimal n → Appends old new text → WritesBits Signed n old new
positive_says n text old new small is written =
    let fits : n < 2 ^ 64 = omega arith in
    let numeral = decimal_is_IsNumeral n fits in
    record {
      word = decimal n;
      some = numeral.0.0;
      solid = digits_solid (decimal n) numeral.0.1;
      says = rw (not_minus (decimal n) numeral.0.0 numeral.0.1, number_decimal n fits, lt-ltb n (2 ^ 63) small) refl;
      written = subst (λ (t : List ℕ). Appends old new t) is written;
    }

-- two pieces that are written, one behind the other
pub appends_both : (old between new : Option (List ℕ)) (one other : List ℕ) → Appends old between one → Appends between new other → Appends old new (one ++ other)
appends_both None between new one other first second = tt
appends_both (Some xs) None new one other first second = absurd first
appends_both (Some xs) (Some ys) None one other first second = absurd second
appends_both (Some xs) (Some ys) (Some zs) one other first second = second ∙ ap (λ l. l ++ other) first ∙ append_assoc xs one other

pub negative_says : (n size : ℕ) (text : List ℕ) (old between new : Option (List ℕ)) → 2 ^ 63 ≤ n → n < 2 ^ 64 → size ≡ 2 ^ 64 - 1 - n + 1 → text ≡ decimal size → Appends old between (45 ∷ []) → Appends between new text
    → WritesBits Signed n old new
negative_says n size text old between new large small opposite is first second =
    let fits : size < 2 ^ 64 = omega arith in
    let numeral = decimal_is_IsNumeral size fits in
    let low : leb size (2 ^ 63) ≡ true = le-leb size (2 ^ 63) (omega arith) in
    let back : (2 ^ 64 - size) % 2 ^ 64 ≡ n = omega arith in
    record {
      word = 45 ∷ decimal size;
      some = omega arith;
      solid = (omega arith, (λ is. omega (arith, is)), digits_solid (decimal size) numeral.0.1);
      says = rw (number_decimal size fits, low, back) refl;
      written = appends_both old between new (45 ∷ []) (decimal size) first (subst (λ (t : List ℕ). Appends between new t) is second);
    }

-- ---- floats

-- no blank, no comma, no quote
abbrev AreNumeric : List ℕ → Type 0
AreNumeric [] = ⊤
AreNumeric (byte ∷ bytes) = (42 < byte) × (byte ≢ 44) × AreNumeric bytes

numeric_append : (one other : List ℕ) → AreNumeric one → AreNumeric other → AreNumeric (one ++ other)
numeric_append [] other first second = second
numeric_append (byte ∷ one) other first second = (first.0, first.1, numeric_append one other first.2 second)

numeric_solid : (bytes : List ℕ) → AreNumeric bytes → AreSolid bytes
numeric_solid [] all = tt
numeric_solid (byte ∷ bytes) all = (omega (arith, all.0), all.1, numeric_solid bytes all.2)

numeric_digits : (digits : List ℕ) → AllDigits 10 digits → AreNumeric digits
numeric_digits [] all = tt
numeric_digits (c ∷ digits) all =
    let parts = tells_digits.parts c digits all in
    (omega (arith, parts.0.0), (λ is. omega (arith, parts.0.0, is)), numeric_digits digits parts.1)

numeric_point : (point : Bool) (fraction : List ℕ) → AllDigits 10 fraction → AreNumeric (cond point (46 ∷ fraction) [])
numeric_point true fraction all = (omega arith, (λ is. omega (arith, is)), numeric_digits fraction all)
numeric_point false fraction all = tt

numeric_sign : (negative : Bool) (digits : List ℕ) → AreNumeric digits → AreNumeric (sign_text negative ++ digits)
numeric_sign true digits all = (omega arith, (λ is. omega (arith, is)), all)
numeric_sign false digits all = all

numeric_exponent : (negative : Bool) (digits : List ℕ) → AllDigits 10 digits → AreNumeric (exponent_text negative digits)
numeric_exponent negative [] all = tt
numeric_exponent negative (d ∷ digits) all = (omega arith, (λ is. omega (arith, is)), numeric_sign negative (d ∷ digits) (numeric_digits (d ∷ digits) all))

numeric_text : (p : Parts) → IsWellFormed p → AreNumeric (text_of p)
numeric_text p formed =
    numeric_append p.whole _ (numeric_digits p.whole formed.whole_digits)
    (numeric_append (cond p.point (46 ∷ p.fraction) []) (exponent_text p.exponent_negative p.exponent) (numeric_point p.point p.fraction formed.fraction_digits)
    (numeric_exponent p.exponent_negative p.exponent formed.exponent_digits))

plain_numeric : (text : List ℕ) → IsPlainNumber text → AreNumeric text
plain_numeric text plain = subst AreNumeric (sym plain.2) (numeric_sign plain.0 (text_of plain.1) (numeric_text plain.1 plain.3.well_formed))

front_some : (one other : List ℕ) → 0 < length one → 0 < length (one ++ other)
front_some one other some = omega (arith, length-append one other)

behind_some : (one other : List ℕ) → 0 < length other → 0 < length (one ++ other)
behind_some one other some = omega (arith, length-append one other)

plain_some : (text : List ℕ) → IsPlainNumber text → 0 < length text
plain_some text plain =
    subst (λ l. 0 < length l) (sym plain.2) (behind_some (sign_text plain.0) (text_of plain.1) (front_some plain.1.whole _ plain.3.whole))

no_quote : (text : List ℕ) → AreNumeric text → eqb (get_or text 0 0) 34 ≡ false
no_quote [] all = refl
no_quote (c ∷ text) all = ne_eqb c 34 (λ is. omega (arith, all.0, is))

option_none : {A : Type 0} (some : Bool) (value : Option A) → cond (some && false) value None ≡ None
option_none true value = refl
option_none false value = refl

unquoted_none : (text : List ℕ) → AreNumeric text → unquoted text ≡ None
unquoted_none text all = rw (no_quote text all) (option_none (ltb 1 (length text)) _)

-- a finite float's text
pub finite_says : (width : Width) (bits : ℕ) (text : List ℕ) (old new : Option (List ℕ)) → bits < 2 * top (format_of width)
    → NotNan (of_bits (format_of width) bits) → float_is_finite (of_bits (format_of width) bits) ≡ true
    → parse_float (format_of width) text ≡ Some (of_bits (format_of width) bits) → IsPlainNumber text → Appends old new text
    → WritesBits (Float width) bits old new
finite_says width bits text old new small number finite parses plain written =
    record {
      word = text;
      some = plain_some text plain;
      solid = numeric_solid text (plain_numeric text plain);
      says = rw (unquoted_none text (plain_numeric text plain), parses, finite) (ap Some (to_bits-of_bits (format_of width) bits small number));
      written = written;
    }

-- ---- the bits of a float that has no other text

abbrev all_high : ℕ → Bool
all_high zero = true
all_high (suc n) = ltb 44 (slice_index lower_digits n) && all_high n

high_at : (n k : ℕ) → all_high n ≡ true → k < n → 44 < slice_index lower_digits k
high_at zero k all lt = absurd (omega arith)
high_at (suc n) k all lt =
    let parts = and_parts (ltb 44 (slice_index lower_digits n)) (all_high n) all in
    elim (cases_lt k n) [
      | inl below ↦ high_at n k parts.1 below
      | inr top ↦
          let same : k ≡ n = omega arith in
          rw same (ltb-true 44 (slice_index lower_digits n) parts.0)
    ]

hex_solid : (bytes : List ℕ) → IsBytes bytes → AreSolid (encode_lower bytes)
unfolding encode_with
hex_solid [] all = tt
hex_solid (byte ∷ bytes) all =
    let small : byte < 256 = all 0 in
    let high = high_at 16 (byte / 16) refl (omega arith) in
    let low = high_at 16 (byte % 16) refl (omega arith) in
    (omega (arith, high), (λ is. omega (arith, high, is)), (omega (arith, low), (λ is. omega (arith, low, is)), hex_solid bytes (λ i. all (suc i))))

solid_append : (one other : List ℕ) → AreSolid one → AreSolid other → AreSolid (one ++ other)
solid_append [] other first second = second
solid_append (byte ∷ one) other first second = (first.0, first.1, solid_append one other first.2 second)

-- a word between quotes
unquoted_name : (name : List ℕ) → unquoted (34 ∷ (name ++ 34 ∷ [])) ≡ Some name
unquoted_name name =
    let size : length (name ++ 34 ∷ []) ≡ length name + 1 = length-append name (34 ∷ []) in
    let long : ltb 1 (suc (length (name ++ 34 ∷ []))) ≡ true = lt-ltb 1 (suc (length (name ++ 34 ∷ []))) (omega (arith, size)) in
    let last : suc (length (name ++ 34 ∷ [])) - 1 ≡ suc (length name) = omega (arith, size) in
    let count : suc (length name) - 1 ≡ length name = omega arith in
    rw (long, last, get_or-append_seam name 34 [] 0, count, take-append_seam name (34 ∷ [])) refl

named : (width : Width) (name : List ℕ) (bits : ℕ) → name_in width name ≡ Some bits → float_in width (34 ∷ (name ++ 34 ∷ [])) ≡ Some bits
named width name bits says = rw (unquoted_name name) says

name_solid : (name : List ℕ) → AreSolid name → AreSolid (34 ∷ (name ++ 34 ∷ []))
name_solid name solid = (omega arith, (λ is. omega (arith, is)), solid_append name (34 ∷ []) solid (omega arith, (λ is. omega (arith, is)), tt))

abbrev AreBytes : List ℕ → Type 0
AreBytes [] = ⊤
AreBytes (byte ∷ bytes) = (byte < 256) × AreBytes bytes

bytes_at : (bytes : List ℕ) → AreBytes bytes → IsBytes bytes
bytes_at [] all i = omega arith
bytes_at (byte ∷ bytes) all zero = all.0
bytes_at (byte ∷ bytes) all (suc i) = bytes_at bytes all.1 i

four_bytes : (bits : ℕ) → IsBytes (to_be_bytes w32 bits)
four_bytes bits = bytes_at (to_be_bytes w32 bits) (omega arith, (omega arith, (omega arith, (omega arith, tt))))

eight_bytes : (bits : ℕ) → IsBytes (to_be_bytes w64 bits)
eight_bytes bits = bytes_at (to_be_bytes w64 bits) (omega arith, (omega arith, (omega arith, (omega arith, (omega arith, (omega arith, (omega arith, (omega arith, tt))))))))

hex_name_solid : (digits : List ℕ) → AreSolid digits → AreSolid (34 ∷ ((48 ∷ 120 ∷ digits) ++ 34 ∷ []))
hex_name_solid digits solid = name_solid (48 ∷ 120 ∷ digits) (omega arith, (λ is. omega (arith, is)), (omega arith, (λ is. omega (arith, is)), solid))

pub four_says : (bits : ℕ) (digits bytes : List ℕ) (old new : Option (List ℕ)) → bits < 2 ^ 32 → bytes ≡ to_be_bytes w32 bits → digits ≡ encode_lower bytes
    → Appends old new (34 ∷ 48 ∷ 120 ∷ (digits ++ 34 ∷ [])) → WritesBits (Float Four) bits old new
four_says bits digits bytes old new small are is written =
    let all : IsBytes bytes = subst IsBytes (sym are) (four_bytes bits) in
    let four : length bytes ≡ 4 = ap length are in
    let decoded : decode_sized digits 4 ≡ Ok bytes = ap (λ l. decode_sized l 4) is ∙ decode_sized-encode_lower bytes 4 four all in
    record {
      word = 34 ∷ 48 ∷ 120 ∷ (digits ++ 34 ∷ []);
      some = omega arith;
      solid = hex_name_solid digits (subst AreSolid (sym is) (hex_solid bytes all));
      says = named Four (48 ∷ 120 ∷ digits) bits (rw decoded (ap Some (ap (from_be_bytes w32) are ∙ from_be_bytes-to_be_bytes_4 bits small)));
      written = written;
    }

pub eight_says : (bits : ℕ) (digits bytes : List ℕ) (old new : Option (List ℕ)) → bits < 2 ^ 64 → bytes ≡ to_be_bytes w64 bits → digits ≡ encode_lower bytes
    → Appends old new (34 ∷ 48 ∷ 120 ∷ (digits ++ 34 ∷ [])) → WritesBits (Float Eight) bits old new
eight_says bits digits bytes old new small are is written =
    let all : IsBytes bytes = subst IsBytes (sym are) (eight_bytes bits) in
    let eight : length bytes ≡ 8 = ap length are in
    let decoded : decode_sized digits 8 ≡ Ok bytes = ap (λ l. decode_sized l 8) is ∙ decode_sized-encode_lower bytes 8 eight all in
    record {
      word = 34 ∷ 48 ∷ 120 ∷ (digits ++ 34 ∷ []);
      some = omega arith;
      solid = hex_name_solid digits (subst AreSolid (sym is) (hex_solid bytes all));
      says = named Eight (48 ∷ 120 ∷ digits) bits (rw decoded (ap Some (ap (from_be_bytes w64) are ∙ from_be_bytes-to_be_bytes_8 bits small)));
      written = written;
    }

-- ---- cells

bound : (count byte i : ℕ) → byte < 256 → get_or (replicate count byte) i 0 < 256
bound zero byte i small = omega arith
bound (suc count) byte zero small = small
bound (suc count) byte (suc i) small = bound count byte i small

sign_small : (below : Bool) → sign_byte below < 256
sign_small true = omega arith
sign_small false = omega arith

widened_small : (form : Form) (cell : List ℕ) → IsBytes cell → IsBytes (widened form cell)
widened_small form cell small i =
    let sign = replicate (8 - length cell) (sign_byte (is_below_zero form cell)) in
    elim (cases_lt i (length cell)) [
      | inl below ↦ rw (get_or_append_left cell sign 0 i below) (small i)
      | inr above ↦ rw (get_or-append_right cell sign i 0 (omega arith)) (bound (8 - length cell) (sign_byte (is_below_zero form cell)) (i - length cell) (sign_small (is_below_zero form cell)))
    ]

-- the word of a cell's bits says the cell
pub cell_says : (form : Form) (word cell : List ℕ) (bits : ℕ) → length cell ≤ 8 → IsBytes cell → bits ≡ from_le_bytes w64 (widened form cell) → bits_in form word ≡ Some bits
    → cell_in form (length cell) word ≡ Some cell
cell_says form word cell bits short small are says =
    let sign = replicate (8 - length cell) (sign_byte (is_below_zero form cell)) in
    let size : length (widened form cell) ≡ 8 = omega (arith, length-append cell sign, length-replicate (8 - length cell) (sign_byte (is_below_zero form cell))) in
    let back : to_le_bytes w64 bits ≡ widened form cell = le_bytes_8 (widened form cell) bits size (widened_small form cell small) are in
    let first : take (length cell) (to_le_bytes w64 bits) ≡ cell = ap (take (length cell)) back ∙ take-append_seam cell sign in
    let fits : leb (length cell) 8 ≡ true = le-leb (length cell) 8 short in
    let same : bytes_eq (widened form cell) (to_le_bytes w64 bits) ≡ true = (bytes_eq-Decides (widened form cell) (to_le_bytes w64 bits)).1 (sym back) in
    rw (says, fits, first, same) refl
