-- The laws of `vlen-utf8` and `vlen-bytes`.
use Rattle.std.proofs.Common.{◌≡◌, ℕ, zero, suc, ◌+◌, ◌<◌, ◌^◌, true, false, cond, eqb, ◌&&◌, List, [], ◌∷◌, ◌++◌}
use Rattle.std.proofs.Common.{length, take, drop, None, Some, refl, sym, ap, ◌∙◌, arith}
use Rattle.std.specs.Prelude.{nat_lt, nat_le, option_map, option_and_then}
use Rattle.std.specs.List.{list_all, flat_map}
use Rattle.std.specs.Int.{w32, to_le_bytes, from_le_bytes}
use Rattle.std.proofs.lemmas.Bool.{eq-eqb, le-leb, ltb-true, and_parts, and_from, false≢true}
use Rattle.std.proofs.lemmas.Nat.{from_le_bytes-to_le_bytes_4}
use Rattle.std.proofs.lemmas.List.{length-append, append_assoc, take_at, drop_at, drop-drop}
use Rattle.zarrs_data_type.specs.Kind.{Kind, is_variable}
use Rattle.zarrs_data_type.specs.Kind as type
use Rattle.zarrs_codec_leaf.specs.VlenStrings.{is_string, is_bytes, is_short, behind_length, counted_strings, first_string}
use Rattle.zarrs_codec_leaf.specs.VlenStrings.{strings_of, uncounted, vlen_utf8_meaning, vlen_bytes_meaning}
use Rattle.zarrs_codec_leaf.specs.Chosen.{some_is, only_parts, bind_parts, map_parts}
use Rattle.zarrs_codec_leaf.specs.Leaf.{IsLawfulLeaf}
use Rattle.zarrs_codec_leaf.specs.StringsLaws.{strings-lawful}

length-le4 : (n : ℕ) → length (to_le_bytes w32 n) ≡ 4
length-le4 n = refl

-- a byte string behind its length, read again
first_again : (string rest : List ℕ) → length string < 2 ^ 32 → first_string (behind_length string ++ rest) ≡ Some (string, rest)
first_again string rest lt =
    let l = length string in
    let a = to_le_bytes w32 l in
    let b : List ℕ = (a ++ string) ++ rest in
    let same : b ≡ a ++ (string ++ rest) = append_assoc a string rest in
    let number : from_le_bytes w32 (take 4 b) ≡ l =
    ap (λ x. from_le_bytes w32 (take 4 x)) same ∙ ap (from_le_bytes w32) (take_at a (string ++ rest) 4 (length-le4 l)) ∙ from_le_bytes-to_le_bytes_4 l lt in
    let behind : drop 4 b ≡ string ++ rest = ap (drop 4) same ∙ drop_at a (string ++ rest) 4 (length-le4 l) in
    let past : drop (4 + l) b ≡ rest = sym (drop-drop l 4 b) ∙ ap (drop l) behind ∙ drop_at string rest l refl in
    let total : length b ≡ 4 + l + length rest = ap length same ∙ length-append a (string ++ rest) ∙ omega (arith, length-le4 l, length-append string rest) in
    ap (λ n. cond (nat_le (4 + n) (length b)) (Some (take n (drop 4 b), drop (4 + n) b)) None) number
    ∙ ap (λ x. cond x (Some (take l (drop 4 b), drop (4 + l) b)) None) (le-leb (4 + l) (length b) (omega arith))
    ∙ ap (λ x. Some (x, drop (4 + l) b)) (ap (take l) behind ∙ take_at string rest l refl)
    ∙ ap (λ y. Some (string, y)) past

strings_again : (strings : List (List ℕ)) → list_all is_short strings ≡ true → strings_of (length strings) (flat_map behind_length strings) ≡ Some strings
strings_again [] small = refl
strings_again (s ∷ strings) small =
    let p = and_parts (is_short s) (list_all is_short strings) small in
    ap (option_and_then (λ q. option_map (λ ss. q.0 ∷ ss) (strings_of (length strings) q.1)))
    (first_again s (flat_map behind_length strings) (ltb-true (length s) (2 ^ 32) p.0))
    ∙ ap (option_map (λ ss. s ∷ ss)) (strings_again strings p.1)

again : (strings : List (List ℕ)) (b : List ℕ) → counted_strings strings ≡ Some b → uncounted (length strings) b ≡ Some strings
again strings b made =
    let n = length strings in
    let head = to_le_bytes w32 n in
    let body = flat_map behind_length strings in
    let p = only_parts (nat_lt n (2 ^ 32) && list_all is_short strings) (Some (head ++ body)) b made in
    let q = and_parts (nat_lt n (2 ^ 32)) (list_all is_short strings) p.0 in
    let number : from_le_bytes w32 (take 4 (head ++ body)) ≡ n =
    ap (from_le_bytes w32) (take_at head body 4 (length-le4 n)) ∙ from_le_bytes-to_le_bytes_4 n (ltb-true n (2 ^ 32) q.0) in
    let total = length-append head body in
    let first = length-le4 n in
    ap (uncounted n) (sym (some_is p.1))
    ∙ ap (λ x. cond x (strings_of n (drop 4 (head ++ body))) None)
    (and_from (nat_le 4 (length (head ++ body))) (eqb (from_le_bytes w32 (take 4 (head ++ body))) n)
    (le-leb 4 (length (head ++ body)) (omega arith)) (eq-eqb (from_le_bytes w32 (take 4 (head ++ body))) n number))
    ∙ ap (strings_of n) (drop_at head body 4 (length-le4 n))
    ∙ strings_again strings q.1

length-strings_of : (n : ℕ) (b : List ℕ) (strings : List (List ℕ)) → strings_of n b ≡ Some strings → length strings ≡ n
length-strings_of zero b strings made = ap length (sym (some_is (only_parts (eqb (length b) 0) (Some []) strings made).1))
length-strings_of (suc n) b strings made =
    let p = bind_parts (first_string b) (λ q. option_map (λ ss. q.0 ∷ ss) (strings_of n q.1)) strings made in
    let q = map_parts (λ ss. p.0.0 ∷ ss) (strings_of n p.0.1) strings p.2 in
    ap length (sym q.2) ∙ ap suc (length-strings_of n p.0.1 q.0 q.1)

count : (n : ℕ) (b : List ℕ) (strings : List (List ℕ)) → uncounted n b ≡ Some strings → length strings ≡ n
count n b strings made =
    length-strings_of n (drop 4 b) strings (only_parts (nat_le 4 (length b) && eqb (from_le_bytes w32 (take 4 b)) n) (strings_of n (drop 4 b)) strings made).1

pub string-variable : (k : Kind) → is_string k ≡ true → is_variable k ≡ true
string-variable type.string is = refl
string-variable k is = absurd (false≢true is)

pub bytes-variable : (k : Kind) → is_bytes k ≡ true → is_variable k ≡ true
bytes-variable type.bytes is = refl
bytes-variable k is = absurd (false≢true is)

pub vlen_utf8-lawful : IsLawfulLeaf vlen_utf8_meaning
vlen_utf8-lawful = strings-lawful is_string counted_strings uncounted string-variable again count

pub vlen_bytes-lawful : IsLawfulLeaf vlen_bytes_meaning
vlen_bytes-lawful = strings-lawful is_bytes counted_strings uncounted bytes-variable again count
