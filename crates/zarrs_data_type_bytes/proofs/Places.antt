-- The places of the flags that are set are one list.
use Rattle.std.proofs.Common.{◌≡◌, ℕ, zero, suc, ◌+◌, ◌<◌, ◌≤◌, Bool, true, false, cond, List, [], ◌∷◌, length, map, get_or, refl, sym, ap, ◌∙◌, subst, arith}
use Rattle.std.specs.Prelude.{filter, slice_index}
use Rattle.std.specs.List.{Contains, range_with_len}
use Rattle.std.specs.List.Sorted.{IsStrictlySortedBy}
use Rattle.std.specs.Ordering.{nat_cmp}
use Rattle.std.proofs.lemmas.Bool.{false≢true}
use Rattle.std.proofs.lemmas.List.{get_or_default}
use Rattle.std.proofs.lemmas.List.FromFn.{length-map-range_with_len, get_or-map-range_with_len}
use Rattle.std.proofs.lemmas.List.Kept.{IsStrictlySortedBy-filter}
use Rattle.std.proofs.lemmas.Map.Keys.{below_from_sorted, sorted_from_strictly_increasing, IsStrictlyIncreasing-from_sorted}
use Rattle.zarrs_data_type_bytes.specs.Present.{ArePlacesSet, flag_set}

-- the places of the flags that are set, among the first n
abbrev pub places_set : List ℕ → ℕ → List ℕ
places_set mask n = filter (λ i. flag_set (slice_index mask i)) (map (λ i. i) (range_with_len 0 n))

-- ---- what lists contain

nothing : (z : ℕ) → Contains [] z → ⊥
nothing z has = omega (arith, has.1)

at_head : (x : ℕ) (xs : List ℕ) → Contains (x ∷ xs) x
at_head x xs = (0, omega arith, refl)

behind_head : (x : ℕ) (xs : List ℕ) (z : ℕ) → Contains xs z → Contains (x ∷ xs) z
behind_head x xs z has = (suc has.0, omega (arith, has.1), has.2)

-- ---- lists that rise

Rises : List ℕ → Type 0
Rises xs = IsStrictlySortedBy nat_cmp xs

rest_rises : (x : ℕ) (xs : List ℕ) → Rises (x ∷ xs) → Rises xs
unfolding Rises IsStrictlySortedBy
rest_rises x xs rises = rises.1

from_head : (x : ℕ) (xs : List ℕ) (z : ℕ) → Rises (x ∷ xs) → Contains (x ∷ xs) z → x ≤ z
unfolding Rises
from_head x xs z rises has = go has.0 has.1 has.2
  where
    go : (k : ℕ) → k < length (x ∷ xs) → get_or (x ∷ xs) k z ≡ z → x ≤ z
    go zero lt is = let same : x ≡ z = is in omega arith
    go (suc k) lt is =
        let below : x < get_or xs k 0 = below_from_sorted (x ∷ xs) 0 (suc k) 0 rises (omega arith) lt in
        let same : get_or xs k 0 ≡ z = get_or_default xs k 0 z (omega arith) ∙ is in
        omega arith

past_head : (x : ℕ) (xs : List ℕ) (z : ℕ) → Rises (x ∷ xs) → Contains xs z → x < z
unfolding Rises
past_head x xs z rises has =
    let below : x < get_or xs has.0 0 = below_from_sorted (x ∷ xs) 0 (suc has.0) 0 rises (omega arith) (omega (arith, has.1)) in
    let same : get_or xs has.0 0 ≡ z = get_or_default xs has.0 0 z has.1 ∙ has.2 in
    omega arith

in_rest : (x : ℕ) (xs : List ℕ) (z : ℕ) → Contains (x ∷ xs) z → x < z → Contains xs z
in_rest x xs z has more = go has.0 has.1 has.2
  where
    go : (k : ℕ) → k < length (x ∷ xs) → get_or (x ∷ xs) k z ≡ z → Contains xs z
    go zero lt is = let same : x ≡ z = is in absurd (omega arith)
    go (suc k) lt is = (k, omega arith, is)

-- lists that rise and have the same elements are one
one_list : (xs ys : List ℕ) → Rises xs → Rises ys → ((z : ℕ) → Contains xs z → Contains ys z) → ((z : ℕ) → Contains ys z → Contains xs z) → xs ≡ ys
one_list [] [] r s to from = refl
one_list [] (y ∷ ys) r s to from = absurd (nothing y (from y (at_head y ys)))
one_list (x ∷ xs) [] r s to from = absurd (nothing x (to x (at_head x xs)))
one_list (x ∷ xs) (y ∷ ys) r s to from =
    let low : x ≤ y = from_head x xs y r (from y (at_head y ys)) in
    let high : y ≤ x = from_head y ys x s (to x (at_head x xs)) in
    let same : x ≡ y = omega arith in
    let rest : xs ≡ ys = one_list xs ys (rest_rises x xs r) (rest_rises y ys s)
    (λ z has. let more = past_head x xs z r has in in_rest y ys z (to z (behind_head x xs z has)) (omega arith))
    (λ z has. let more = past_head y ys z s has in in_rest x xs z (from z (behind_head y ys z has)) (omega arith)) in
    ap (λ h. h ∷ xs) same ∙ ap (λ l. y ∷ l) rest

-- ---- what a filter keeps

kept_there : (p : ℕ → Bool) (xs : List ℕ) (z : ℕ) → Contains (filter p xs) z → Contains xs z × (p z ≡ true)
kept_there p [] z has = absurd (nothing z has)
kept_there p (x ∷ xs) z has = go (p x) refl has (λ h. kept_there p xs z h)
  where
    first : (k : ℕ) → p x ≡ true → k < length (x ∷ filter p xs) → get_or (x ∷ filter p xs) k z ≡ z → (Contains (filter p xs) z → Contains xs z × (p z ≡ true)) → Contains (x ∷ xs) z × (p z ≡ true)
    first zero passes lt is rest = let same : x ≡ z = is in (subst (λ w. Contains (x ∷ xs) w) same (at_head x xs), subst (λ w. p w ≡ true) same passes)
    first (suc k) passes lt is rest = let both = rest (k, omega arith, is) in (behind_head x xs z both.0, both.1)

    go : (b : Bool) → p x ≡ b → Contains (cond b (x ∷ filter p xs) (filter p xs)) z → (Contains (filter p xs) z → Contains xs z × (p z ≡ true)) → Contains (x ∷ xs) z × (p z ≡ true)
    go true is h rest = first h.0 is h.1 h.2 rest
    go false is h rest = let both = rest h in (behind_head x xs z both.0, both.1)

there_kept : (p : ℕ → Bool) (xs : List ℕ) (z : ℕ) → Contains xs z → p z ≡ true → Contains (filter p xs) z
there_kept p [] z has passes = absurd (nothing z has)
there_kept p (x ∷ xs) z has passes = go (p x) refl has.0 has.1 has.2 (λ h. there_kept p xs z h passes)
  where
    go : (b : Bool) → p x ≡ b → (k : ℕ) → k < length (x ∷ xs) → get_or (x ∷ xs) k z ≡ z → (Contains xs z → Contains (filter p xs) z) → Contains (cond b (x ∷ filter p xs) (filter p xs)) z
    go true is zero lt e rest = let same : x ≡ z = e in subst (λ w. Contains (x ∷ filter p xs) w) same (at_head x (filter p xs))
    go true is (suc k) lt e rest = behind_head x (filter p xs) z (rest (k, omega arith, e))
    go false is zero lt e rest = let same : x ≡ z = e in absurd (false≢true (sym is ∙ ap p same ∙ passes))
    go false is (suc k) lt e rest = rest (k, omega arith, e)

-- ---- the places

at_below : (n k d : ℕ) → k < n → get_or (map (λ i. i) (range_with_len 0 n)) k d ≡ k
at_below n k d lt = get_or-map-range_with_len (λ i. i) 0 n k k d lt (omega arith)

below_rises : (n : ℕ) → Rises (map (λ i. i) (range_with_len 0 n))
unfolding Rises
below_rises n =
    sorted_from_strictly_increasing (map (λ i. i) (range_with_len 0 n))
    (λ k lt.
    let count : length (map (λ i. i) (range_with_len 0 n)) ≡ n = length-map-range_with_len (λ i. i) 0 n in
    omega (arith, at_below n k 0 (omega arith), at_below n (k + 1) 0 (omega arith)))

places_rise : (mask : List ℕ) (n : ℕ) → Rises (places_set mask n)
unfolding Rises
places_rise mask n = IsStrictlySortedBy-filter nat_cmp (λ i. flag_set (slice_index mask i)) (map (λ i. i) (range_with_len 0 n)) (below_rises n)

below_has : (n z : ℕ) → z < n → Contains (map (λ i. i) (range_with_len 0 n)) z
below_has n z lt =
    let count : length (map (λ i. i) (range_with_len 0 n)) ≡ n = length-map-range_with_len (λ i. i) 0 n in
    (z, omega arith, at_below n z z lt)

has_below : (n z : ℕ) → Contains (map (λ i. i) (range_with_len 0 n)) z → z < n
has_below n z has =
    let count : length (map (λ i. i) (range_with_len 0 n)) ≡ n = length-map-range_with_len (λ i. i) 0 n in
    let lt : has.0 < n = omega (arith, has.1) in
    omega (arith, at_below n has.0 z lt, has.2)

-- this list is one of them
pub are_places : (mask : List ℕ) → ArePlacesSet mask (places_set mask (length mask))
unfolding Rises
are_places mask =
    let p : ℕ → Bool = λ i. flag_set (slice_index mask i) in
    let n = length mask in
    record {
      rising = IsStrictlyIncreasing-from_sorted (places_set mask n) (places_rise mask n);
      each = λ i. (
        λ has. let both = kept_there p (map (λ j. j) (range_with_len 0 n)) i has in (has_below n i both.0, both.1),
        λ there. there_kept p (map (λ j. j) (range_with_len 0 n)) i (below_has n i there.0) there.1,
      );
    }

-- and each is this list
pub places_are : (mask places : List ℕ) → ArePlacesSet mask places → places ≡ places_set mask (length mask)
unfolding Rises
places_are mask places are =
    let n = length mask in
    one_list places (places_set mask n) (sorted_from_strictly_increasing places are.rising) (places_rise mask n)
    (λ z has. ((are_places mask).each z).1 ((are.each z).0 has))
    (λ z has. (are.each z).1 (((are_places mask).each z).0 has))
