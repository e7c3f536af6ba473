-- Reading a number digit by digit.
use Rattle.std.proofs.Common.{◌≡◌, ℕ, ◌+◌, ◌-◌, ◌*◌, ◌^◌, ◌<◌, ◌≤◌, ◌&&◌, Bool, true, false, cond, nat_lt, List, []}
use Rattle.std.proofs.Common.{◌∷◌, length, drop, Option, Some, None, refl, ap, ◌∙◌, arith, le-ltb, lt-ltb, get_or}
use Rattle.std.proofs.lemmas.List.{at_drop_more, at_drop_all}
use Rattle.std.proofs.lemmas.Str.{digit_value_digit}
use Rattle.std.proofs.lemmas.Bool.Decides.{nat_tests}
use Rattle.std.specs.Char.{digit_value, is_ascii_digit}
use Rattle.std.specs.Str.{all_ascii_digits}
use Rattle.std.specs.Str.Parse.{digits_value_after}
use Rattle.zarrs_script.specs.Words.{number_of}

-- the number that the digits write behind those of n
abbrev pub goes_on : ℕ → List ℕ → Option ℕ
goes_on n bytes = cond (all_ascii_digits bytes && nat_lt (digits_value_after 10 n bytes) (2 ^ 64)) (Some (digits_value_after 10 n bytes)) None

after_ge : (n : ℕ) (bytes : List ℕ) → n ≤ digits_value_after 10 n bytes
after_ge n [] = omega arith
after_ge n (b ∷ bytes) = omega (arith, after_ge (n * 10 + digit_value b) bytes)

none_at : (p q : Bool) (x : ℕ) → q ≡ false → cond (p && q) (Some x) None ≡ None
none_at true q x h = rw h refl
none_at false q x h = refl

too_large : (n : ℕ) (bytes : List ℕ) → 2 ^ 64 ≤ n → goes_on n bytes ≡ None
too_large n bytes h =
    let le = after_ge n bytes in
    let past : 2 ^ 64 ≤ digits_value_after 10 n bytes = omega arith in
    none_at (all_ascii_digits bytes) _ (digits_value_after 10 n bytes) (le-ltb _ _ past)

digit_is : (b : ℕ) → is_ascii_digit b ≡ true → digit_value b + 48 ≡ b
digit_is b h = digit_value_digit b (grind (arith, nat_tests), grind (arith, nat_tests))

step : (n b : ℕ) (bytes : List ℕ) → is_ascii_digit b ≡ true → goes_on n (b ∷ bytes) ≡ goes_on (n * 10 + (b - 48)) bytes
step n b bytes h =
    let e : digit_value b ≡ b - 48 = omega (arith, digit_is b h) in
    rw (h, e) refl

-- at a byte that is no digit there is no number
pub no_digit : (n k : ℕ) (word : List ℕ) → k < length word → is_ascii_digit (get_or word k 0) ≡ false → goes_on n (drop k word) ≡ None
no_digit n k word lt h = at_drop_more (goes_on n) word k 0 lt ∙ (rw h refl)

pub one_digit : (n k : ℕ) (word : List ℕ) → k < length word → is_ascii_digit (get_or word k 0) ≡ true → goes_on n (drop k word) ≡ goes_on (n * 10 + (get_or word k 0 - 48)) (drop (k + 1) word)
one_digit n k word lt h = at_drop_more (goes_on n) word k 0 lt ∙ step n (get_or word k 0) (drop (k + 1) word) h

pub overflows : (n k : ℕ) (word : List ℕ) → k < length word → is_ascii_digit (get_or word k 0) ≡ true → 2 ^ 64 ≤ n * 10 + (get_or word k 0 - 48) → goes_on n (drop k word) ≡ None
overflows n k word lt h large = one_digit n k word lt h ∙ too_large _ (drop (k + 1) word) large

some_at : (n : ℕ) → n < 2 ^ 64 → goes_on n [] ≡ Some n
some_at n fits = ap (λ (b : Bool). cond b (Some n) None) (lt-ltb _ _ fits)

pub at_end : (n k : ℕ) (word : List ℕ) → length word ≤ k → n < 2 ^ 64 → goes_on n (drop k word) ≡ Some n
at_end n k word le fits = at_drop_all (goes_on n) word k le ∙ some_at n fits

pub from_start : (word : List ℕ) → 0 < length word → goes_on 0 word ≡ number_of word
unfolding number_of
from_start [] h = absurd (omega arith)
from_start (b ∷ word) h = refl

pub empty_is : (word : List ℕ) → length word ≡ 0 → number_of word ≡ None
unfolding number_of
empty_is [] h = refl
empty_is (b ∷ word) h = absurd (omega arith)
