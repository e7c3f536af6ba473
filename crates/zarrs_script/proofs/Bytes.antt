-- The bytes of numbers.
use Rattle.std.proofs.Common.{◌≡◌, ℕ, suc, ◌+◌, ◌-◌, ◌*◌, ◌/◌, ◌%◌, ◌^◌, ◌<◌, ◌≤◌, List, [], ◌∷◌, ◌++◌, length, drop}
use Rattle.std.proofs.Common.{get_or, sym, ap, ◌∙◌, append_assoc, arith}
use Rattle.std.proofs.Math.Nat.{pow-le-pow_right, pow-suc}
use Rattle.std.proofs.lemmas.List.{at_drop_more}
use Rattle.zarrs_script.specs.CellTexts.{low_bytes, value_of}

-- one more byte: from what is there, with the rest after it
pub one_byte : (front : List ℕ) (count k n : ℕ) → k < count → front ++ low_bytes (count - k) n ≡ (front ++ n % 256 ∷ []) ++ low_bytes (count - (k + 1)) (n / 256)
one_byte front count k n lt =
    let e : count - k ≡ suc (count - (k + 1)) = omega arith in
    rw e (sym (append_assoc front (n % 256 ∷ []) (low_bytes (count - (k + 1)) (n / 256))))

pub one_power : (k : ℕ) → 256 ^ (k + 1) ≡ 256 ^ k * 256
one_power k = let e : k + 1 ≡ suc k = omega arith in ap (λ (n : ℕ). 256 ^ n) e ∙ pow-suc 256 k

-- one more byte fits eight
pub byte_room : (value count : ℕ) → value < 256 ^ count → count < 8 → value * 256 + 255 < 2 ^ 64
byte_room value count small few =
    let low : 256 ^ count ≤ 256 ^ 7 = pow-le-pow_right (omega arith) {i = count} {j = 7} (omega arith) in
    omega arith

-- the number of the last count + 1 bytes
pub one_value : (held : List ℕ) (count value : ℕ) → count < length held → value ≡ value_of (drop (length held - count) held)
    → value * 256 + get_or held (length held - 1 - count) 0 ≡ value_of (drop (length held - (count + 1)) held)
one_value held count value lt is =
    let here : length held - (count + 1) ≡ length held - 1 - count = omega arith in
    let next : length held - 1 - count + 1 ≡ length held - count = omega arith in
    let below : length held - 1 - count < length held = omega arith in
    let e : value_of (drop (length held - (count + 1)) held) ≡ get_or held (length held - 1 - count) 0 + value_of (drop (length held - count) held) * 256 = (ap (λ (k : ℕ). value_of (drop k held)) here ∙ at_drop_more value_of held (length held - 1 - count) 0 below ∙ ap (λ (k : ℕ). get_or held (length held - 1 - count) 0 + value_of (drop k held) * 256) next) in
    omega arith

-- bytes make a number below a power of 256
pub value_below : (held : List ℕ) → ((i : ℕ) → get_or held i 0 < 256) → value_of held < 256 ^ length held
value_below [] h = omega arith
value_below (b ∷ held) h =
    let first : b < 256 = h 0 in
    let others = value_below held (λ i. h (suc i)) in
    let more : 256 ^ length (b ∷ held) ≡ 256 ^ length held * 256 = pow-suc 256 (length held) in
    omega arith
