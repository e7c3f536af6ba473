-- The laws of cells in another order.
use Rattle.std.proofs.Common.{◌≡◌, ℕ, zero, suc, ◌+◌, ◌<◌, Bool, true, List, [], map, length, get_or, sym, refl, ap, ◌∙◌, arith}
use Rattle.std.specs.List.{range_with_len, list_all}
use Rattle.std.proofs.lemmas.Bool.{and_from}
use Rattle.std.proofs.lemmas.List.{ext_get_or}
use Rattle.std.proofs.lemmas.List.FromFn.{length-map-range_with_len, get_or-map-range_with_len}
use Rattle.zarrs_subset.specs.Boxes.{position_count, InShape, place, unravel}
use Rattle.zarrs_subset.specs.Rearranged.{made_of}
use Rattle.zarrs_subset.proofs.Positions.{unravel_in, place-unravel, unravel-place}
use Rattle.zarrs_subset.proofs.Kernel.{place_below}

pub length-made_of : {X : Type 0} (f : List ℕ → X) (s : List ℕ) → length (made_of f s) ≡ position_count s
length-made_of f s = length-map-range_with_len (λ k. f (unravel s k)) 0 (position_count s)

pub get_or-made_of : {X : Type 0} (f : List ℕ → X) (s : List ℕ) (k : ℕ) (d : X) → k < position_count s → get_or (made_of f s) k d ≡ f (unravel s k)
get_or-made_of f s k d lt = get_or-map-range_with_len (λ k. f (unravel s k)) 0 (position_count s) k k d lt (omega arith)

-- at the place of a position
pub made_at : {X : Type 0} (f : List ℕ → X) (s p : List ℕ) (d : X) → InShape s p → get_or (made_of f s) (place s p) d ≡ f p
made_at f s p d is = get_or-made_of f s (place s p) d (place_below s p is) ∙ ap f (unravel-place s p is)

-- a list that has, at each number, what is made of its position
pub made_from : {X : Type 0} (f : List ℕ → X) (s : List ℕ) (xs : List X) (d : X) → length xs ≡ position_count s → ((k : ℕ) → k < position_count s → get_or xs k d ≡ f (unravel s k)) → xs ≡ made_of f s
made_from f s xs d len each =
    ext_get_or d xs (made_of f s) (len ∙ sym (length-made_of f s))
    (λ i lt. each i (omega arith) ∙ sym (get_or-made_of f s i d (omega arith)))

-- it is known by its values at positions
pub made_of-same : {X : Type 0} (f g : List ℕ → X) (s : List ℕ) → ((p : List ℕ) → InShape s p → f p ≡ g p) → made_of f s ≡ made_of g s
made_of-same f g s same =
    let n = position_count s in
    ext_get_or (f []) (made_of f s) (made_of g s) (length-made_of f s ∙ sym (length-made_of g s))
    (λ i lt.
    let below : i < position_count s = omega (arith, length-made_of f s) in
    get_or-made_of f s i (f []) below ∙ same (unravel s i) (unravel_in s i below) ∙ sym (get_or-made_of g s i (f []) below))

-- a list, read at the place of each position
pub read_all : {X : Type 0} (s : List ℕ) (cs : List X) (d : X) → length cs ≡ position_count s → made_of (λ p. get_or cs (place s p) d) s ≡ cs
read_all s cs d len =
    sym (made_from (λ p. get_or cs (place s p) d) s cs d len (λ k lt. ap (λ j. get_or cs j d) (sym (place-unravel s k lt))))

all_below : {X : Type 0} (v : X → Bool) (f : ℕ → X) (a n : ℕ) → ((k : ℕ) → k < a + n → v (f k) ≡ true) → list_all v (map f (range_with_len a n)) ≡ true
all_below v f a zero each = refl
all_below v f a (suc n) each =
    and_from (v (f a)) (list_all v (map f (range_with_len (a + 1) n))) (each a (omega arith)) (all_below v f (a + 1) n (λ k lt. each k (omega arith)))

-- each of what is made passes a test
pub all-made_of : {X : Type 0} (v : X → Bool) (f : List ℕ → X) (s : List ℕ) → ((p : List ℕ) → InShape s p → v (f p) ≡ true) → list_all v (made_of f s) ≡ true
all-made_of v f s each = all_below v (λ k. f (unravel s k)) 0 (position_count s) (λ k lt. each (unravel s k) (unravel_in s k (omega arith)))
