-- The numbers of steps to the positions of an array.
use Rattle.std.proofs.Common.{◌≡◌, ℕ, zero, suc, ◌+◌, ◌-◌, ◌*◌, ◌<◌, ◌≤◌, List, [], ◌∷◌, ◌++◌, length, map, get_or}
use Rattle.std.proofs.Common.{refl, sym, ap, ◌∙◌, arith, append_assoc, append-nil}
use Rattle.std.specs.Prelude.{slice_range}
use Rattle.std.specs.List.{flat_map, range_with_len}
use Rattle.std.proofs.lemmas.List.{get_or_append_left, get_or-append_right, length-append}
use Rattle.std.proofs.lemmas.Grind.{flat_map-append}
use Rattle.std.proofs.lemmas.List.FromFn.{map-range_with_len_more}
use Rattle.zarrs_subset.specs.Boxes.{position_count, InShape, place}
use Rattle.zarrs_subset.proofs.Kernel.{place_below, tail_is}
use Rattle.zarrs_codec_array.specs.Orders.{dot_product}
use Rattle.zarrs_codec_array.specs.Gathered.{walked}

length_rows : (f : ℕ → List ℕ) (m s e : ℕ) → ((i : ℕ) → length (f i) ≡ m) → length (flat_map f (range_with_len s e)) ≡ e * m
length_rows f m s zero h = omega arith
length_rows f m s (suc e) h = length-append (f s) (flat_map f (range_with_len (s + 1) e)) ∙ omega (arith, h s, length_rows f m (s + 1) e h)

at_rows : (f : ℕ → List ℕ) (m s e q r d : ℕ) → ((i : ℕ) → length (f i) ≡ m) → q < e → r < m
    → get_or (flat_map f (range_with_len s e)) (q * m + r) d ≡ get_or (f (s + q)) r d
at_rows f m s zero q r d h below within = absurd (omega arith)
at_rows f m s (suc e) zero r d h below within =
    let rest = flat_map f (range_with_len (s + 1) e) in
    let first : zero * m + r ≡ r = omega arith in
    let at : s ≡ s + zero = omega arith in
    ap (λ v. get_or (f s ++ rest) v d) first
    ∙ get_or_append_left (f s) rest d r (omega (arith, h s))
    ∙ ap (λ v. get_or (f v) r d) at
at_rows f m s (suc e) (suc q) r d h below within =
    let rest = flat_map f (range_with_len (s + 1) e) in
    let past : m ≤ suc q * m + r = omega arith in
    let back : suc q * m + r - m ≡ q * m + r = omega arith in
    let at : s + 1 + q ≡ s + suc q = omega arith in
    get_or-append_right (f s) rest m (suc q * m + r) d (h s) past
    ∙ ap (λ v. get_or rest v d) back
    ∙ at_rows f m (s + 1) e q r d h (omega arith) within
    ∙ ap (λ v. get_or (f v) r d) at

pub length-walked : (shape steps : List ℕ) (start : ℕ) → length shape ≡ length steps → length (walked shape steps start) ≡ position_count shape
length-walked [] steps start len = refl
length-walked (n ∷ shape) [] start len = absurd (omega arith)
length-walked (n ∷ shape) (a ∷ steps) start len =
    length_rows (λ i. walked shape steps (start + i * a)) (position_count shape) 0 n (λ i. length-walked shape steps (start + i * a) (omega arith))

pub walked_at : (shape steps q : List ℕ) (start : ℕ) → length shape ≡ length steps → InShape shape q → get_or (walked shape steps start) (place shape q) 0 ≡ start + dot_product steps q
walked_at [] [] [] start len inside = omega arith
walked_at [] [] (i ∷ q) start len inside = absurd inside
walked_at [] (a ∷ steps) q start len inside = absurd (omega arith)
walked_at (n ∷ shape) [] q start len inside = absurd (omega arith)
walked_at (n ∷ shape) (a ∷ steps) [] start len inside = absurd inside
walked_at (n ∷ shape) (a ∷ steps) (i ∷ q) start len inside =
    let lt : i < n = inside.0 in
    let row = place_below shape q inside.1 in
    at_rows (λ j. walked shape steps (start + j * a)) (position_count shape) 0 n i (place shape q) 0 (λ j. length-walked shape steps (start + j * a) (omega arith)) lt row
    ∙ (let z : 0 + i ≡ i = omega arith in ap (λ j. get_or (walked shape steps (start + j * a)) (place shape q) 0) z)
    ∙ walked_at shape steps q (start + i * a) (omega arith) inside.1
    ∙ omega arith

range_more : (i : ℕ) → range_with_len 0 (i + 1) ≡ range_with_len 0 i ++ i ∷ []
range_more i = sym (map_id (range_with_len 0 (i + 1))) ∙ map-range_with_len_more (λ j. j) 0 i i (omega arith) ∙ ap (λ l. l ++ i ∷ []) (map_id (range_with_len 0 i))
  where
    map_id : (xs : List ℕ) → map (λ j. j) xs ≡ xs
    map_id [] = refl
    map_id (x ∷ xs) = ap (λ l. x ∷ l) (map_id xs)

map_append : {X : Type 0} (f : ℕ → X) (xs ys : List ℕ) → map f (xs ++ ys) ≡ map f xs ++ map f ys
map_append f [] ys = refl
map_append f (x ∷ xs) ys = ap (λ l. f x ∷ l) (map_append f xs ys)

-- what is read of one row more
pub walked_more : {X : Type 0} (f : ℕ → X) (g : ℕ → List ℕ) (old mid new : List X) (i : ℕ) → mid ≡ old ++ map f (flat_map g (range_with_len 0 i)) → new ≡ mid ++ map f (g i)
    → new ≡ old ++ map f (flat_map g (range_with_len 0 (i + 1)))
walked_more f g old mid new i is more =
    more ∙ ap (λ l. l ++ map f (g i)) is
    ∙ append_assoc old (map f (flat_map g (range_with_len 0 i))) (map f (g i))
    ∙ ap (λ l. old ++ l)
    (sym (map_append f (flat_map g (range_with_len 0 i)) (g i))
    ∙ ap (map f) (ap (λ l. flat_map g (range_with_len 0 i) ++ l) (sym (append-nil (g i))) ∙ sym (flat_map-append g (range_with_len 0 i) (i ∷ [])) ∙ ap (flat_map g) (sym (range_more i))))

pub walked-rows : (shape steps : List ℕ) (start : ℕ) → 0 < length shape → length shape ≡ length steps
    → flat_map (λ j. walked (slice_range shape 1 (length shape)) (slice_range steps 1 (length steps)) (start + j * get_or steps 0 0)) (range_with_len 0 (get_or shape 0 0)) ≡ walked shape steps start
walked-rows [] steps start some len = absurd (omega arith)
walked-rows (n ∷ shape) [] start some len = absurd (omega arith)
walked-rows (n ∷ shape) (a ∷ steps) start some len =
    ap (λ x. flat_map (λ j. walked x (slice_range (a ∷ steps) 1 (length (a ∷ steps))) (start + j * a)) (range_with_len 0 n)) (tail_is n shape)
    ∙ ap (λ x. flat_map (λ j. walked shape x (start + j * a)) (range_with_len 0 n)) (tail_is a steps)
