-- The names of data types.
use Rattle.std.proofs.Common.{◌≡◌, ℕ, ◌*◌, ◌/◌, ◌%◌, ◌^◌, ◌<◌, ◌≤◌, Bool, true, false, cond, ltb, leb, eqb, List}
use Rattle.std.proofs.Common.{Option, None, Some, Result, Ok, Err, refl, sym, ap, ◌∙◌, subst, arith}
use Rattle.std.specs.Prelude.{◌&&◌}
use Rattle.std.specs.Fmt.{decimal}
use Rattle.std.specs.Str.{bytes_eq, IsUtf8}
use Rattle.std.specs.Str.Parse.{digits_value, ParsesUnsigned}
use Rattle.std.proofs.lemmas.Bool.{and_parts, ltb-true, lt-ltb, eq-eqb, le-leb}
use Rattle.std.proofs.lemmas.Fmt.{decimal_is_IsNumeral, parse-decimal, IsAscii-decimal}
use Rattle.std.proofs.lemmas.Slice.Eq.{bytes_eq-Decides}
use Rattle.std.proofs.lemmas.Str.{IsUtf8-from_ascii}
use Rattle.zarrs_data_type_kinds.specs.TypeMetadata.{number_said, size_of_bits}

abbrev is_number : ℕ → List ℕ → Bool
is_number n text = ltb n (2 ^ 32) && bytes_eq (decimal n) text

abbrev number_with : ℕ → List ℕ → Option ℕ
number_with n text = cond (is_number n text) (Some n) None

-- a text that is the decimal of a number parses as it
parses : {E : Type 0} (n : ℕ) (text : List ℕ) (r : Result ℕ E) → ParsesUnsigned 32 10 text r → is_number n text ≡ true → r ≡ Ok n
parses n text r h is =
    let both = and_parts (ltb n (2 ^ 32)) (bytes_eq (decimal n) text) is in
    let small : n < 2 ^ 32 = ltb-true n (2 ^ 32) both.0 in
    let same : decimal n ≡ text = (bytes_eq-Decides (decimal n) text).0 both.1 in
    parse-decimal 32 n text r small (omega arith) (sym same) h

-- a text that does not parse is the decimal of no number
pub number_said-none : {E : Type 0} (text : List ℕ) (r : Result ℕ E) (e : E) → ParsesUnsigned 32 10 text r → r ≡ Err e → None ≡ number_said text
number_said-none text r e h refused = sym (go (is_number (digits_value 10 text) text) refl)
  where
    go : (b : Bool) → is_number (digits_value 10 text) text ≡ b → cond b (Some (digits_value 10 text)) None ≡ None
    go true is = let same : r ≡ Ok (digits_value 10 text) = parses (digits_value 10 text) text r h is in cc
    go false is = refl

-- what parses is a number of 32 bits
small_number : {E : Type 0} (n : ℕ) (text : List ℕ) (r : Result ℕ E) → ParsesUnsigned 32 10 text r → r ≡ Ok n → n < 2 ^ 32
small_number n text (Ok m) h is = let same : m ≡ n = cc in omega (arith, h.0.1, h.1)
small_number n text (Err e) h is = cc

-- the decimal of a number
pub number_said-decimal : (n : ℕ) → n < 2 ^ 32 → number_said (decimal n) ≡ Some n
number_said-decimal n small =
    let value : digits_value 10 (decimal n) ≡ n = (decimal_is_IsNumeral n (omega arith)).1 in
    let test : is_number n (decimal n) ≡ true = ap (λ b. b && bytes_eq (decimal n) (decimal n)) (lt-ltb n (2 ^ 32) small) ∙ (bytes_eq-Decides (decimal n) (decimal n)).1 refl in
    ap (λ v. number_with v (decimal n)) value ∙ ap (λ b. cond b (Some n) None) test

-- a text that parses, and is the decimal of what it parses as
pub number_said-same : {E : Type 0} (n : ℕ) (text : List ℕ) (r : Result ℕ E) → ParsesUnsigned 32 10 text r → r ≡ Ok n → bytes_eq (decimal n) text ≡ true → Some n ≡ number_said text
number_said-same n text r h parsed is =
    sym (ap number_said (sym ((bytes_eq-Decides (decimal n) text).0 is)) ∙ number_said-decimal n (small_number n text r h parsed))

-- a text that parses, and is not
pub number_said-other : {E : Type 0} (n : ℕ) (text : List ℕ) (r : Result ℕ E) → ParsesUnsigned 32 10 text r → r ≡ Ok n → bytes_eq (decimal n) text ≡ false → None ≡ number_said text
number_said-other n text r h parsed other = sym (go (is_number (digits_value 10 text) text) refl)
  where
    go : (b : Bool) → is_number (digits_value 10 text) text ≡ b → cond b (Some (digits_value 10 text)) None ≡ None
    go true is =
        let same : r ≡ Ok (digits_value 10 text) = parses (digits_value 10 text) text r h is in
        let value : digits_value 10 text ≡ n = cc in
        let test : bytes_eq (decimal (digits_value 10 text)) text ≡ true = (and_parts (ltb (digits_value 10 text) (2 ^ 32)) (bytes_eq (decimal (digits_value 10 text)) text) is).1 in
        let there : bytes_eq (decimal n) text ≡ true = ap (λ v. bytes_eq (decimal v) text) (sym value) ∙ test in
        cc
    go false is = refl

-- a text that is not UTF-8 is the decimal of no number
pub number_said-not_utf8 : (text : List ℕ) → ¬ (IsUtf8 text) → None ≡ number_said text
number_said-not_utf8 text other = sym (go (is_number (digits_value 10 text) text) refl)
  where
    go : (b : Bool) → is_number (digits_value 10 text) text ≡ b → cond b (Some (digits_value 10 text)) None ≡ None
    go true is =
        let both = and_parts (ltb (digits_value 10 text) (2 ^ 32)) (bytes_eq (decimal (digits_value 10 text)) text) is in
        let small : digits_value 10 text < 2 ^ 32 = ltb-true (digits_value 10 text) (2 ^ 32) both.0 in
        let same = (bytes_eq-Decides (decimal (digits_value 10 text)) text).0 both.1 in
        absurd (other (subst IsUtf8 same (IsUtf8-from_ascii (decimal (digits_value 10 text)) (IsAscii-decimal (digits_value 10 text) (omega arith)))))
    go false is = refl

-- a raw type of this size reads back by its bits
pub size_of_bits-times : (size : ℕ) → 0 < size → size ≤ 65536 → size_of_bits (size * 8) ≡ Some size
size_of_bits-times size some small =
    let whole : (size * 8) % 8 ≡ 0 = omega arith in
    let back : (size * 8) / 8 ≡ size = omega arith in
    let first : eqb ((size * 8) % 8) 0 ≡ true = eq-eqb ((size * 8) % 8) 0 whole in
    let second : ltb 0 (size * 8) ≡ true = lt-ltb 0 (size * 8) (omega arith) in
    let third : leb (size * 8) 524288 ≡ true = le-leb (size * 8) 524288 (omega arith) in
    ap (λ b. cond (b && (ltb 0 (size * 8) && leb (size * 8) 524288)) (Some ((size * 8) / 8)) None) first
    ∙ ap (λ b. cond (b && leb (size * 8) 524288) (Some ((size * 8) / 8)) None) second
    ∙ ap (λ b. cond b (Some ((size * 8) / 8)) None) third
    ∙ ap Some back
