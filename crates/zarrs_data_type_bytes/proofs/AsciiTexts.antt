-- Byte strings that are texts.
use Rattle.std.proofs.Common.{◌≡◌, ℕ, Bool, true, List, [], ◌∷◌, Result, Ok, Err, MatchResult, is_ok, refl, sym, ◌∙◌}
use Rattle.std.specs.Prelude.{nat_lt}
use Rattle.std.specs.List.{list_all}
use Rattle.std.specs.Str.{is_utf8, IsUtf8}
use Rattle.std.proofs.lemmas.Bool.{and_parts, and_from, false_from_ne_true, ltb-true}
use Rattle.std.proofs.lemmas.List.Folds.{list_all-append}
use Rattle.std.proofs.lemmas.List.Sums.{AllPass-from_list_all}
use Rattle.std.proofs.lemmas.Str.{IsUtf8-from_ascii, IsUtf8-from_is_utf8, is_utf8-from_IsUtf8}
use Rattle.std.proofs.lemmas.Str.Ascii.{IsAscii-from_all}
use Rattle.zarrs_data_type_bytes.specs.Offsets.{joined}

-- whether each byte is below 128
abbrev pub ascii_test : List ℕ → Bool
ascii_test bytes = list_all (λ byte. nat_lt byte 128) bytes

-- bytes below 128 are UTF-8
ascii_text : (bytes : List ℕ) → ascii_test bytes ≡ true → is_utf8 bytes ≡ true
ascii_text bytes are =
    is_utf8-from_IsUtf8 bytes (IsUtf8-from_ascii bytes (IsAscii-from_all bytes
    (λ i d lt. ltb-true _ 128 (AllPass-from_list_all (λ byte. nat_lt byte 128) bytes are i d lt))))

-- byte strings whose bytes are all below 128 are UTF-8, each of them
pub ascii_texts : (strings : List (List ℕ)) → ascii_test (joined strings) ≡ true → list_all is_utf8 strings ≡ true
ascii_texts [] are = refl
ascii_texts (string ∷ strings) are =
    let parts = and_parts (ascii_test string) (ascii_test (joined strings)) (sym (list_all-append (λ byte. nat_lt byte 128) string (joined strings)) ∙ are) in
    and_from (is_utf8 string) (list_all is_utf8 strings) (ascii_text string parts.0) (ascii_texts strings parts.1)

-- what `from_utf8` ensures, as a test
pub is_ok-utf8 : {A B : Type 0} (P : A → Type 0) (Q : B → Type 0) (r : Result A B) (b : List ℕ) → MatchResult r (λ s. P s × IsUtf8 b) (λ e. ¬ (IsUtf8 b) × Q e) → is_ok r ≡ is_utf8 b
is_ok-utf8 P Q (Ok s) b h = sym (is_utf8-from_IsUtf8 b h.1)
is_ok-utf8 P Q (Err e) b h = sym (false_from_ne_true (is_utf8 b) (λ is. h.0 (IsUtf8-from_is_utf8 b is)))
