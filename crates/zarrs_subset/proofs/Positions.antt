-- The laws of the positions of a box.
use Rattle.std.proofs.Common.{◌≡◌, ℕ, zero, suc, ◌+◌, ◌-◌, ◌*◌, ◌/◌, ◌%◌, ◌<◌, ◌≤◌, true, nat_lt, nat_le, List, [], ◌∷◌}
use Rattle.std.proofs.Common.{◌++◌, length, get_or, map, Some, slice_get, refl, sym, ap, ◌∙◌, arith}
use Rattle.std.specs.List.{flat_map, range_with_len}
use Rattle.std.proofs.lemmas.Nat.{div-mul-add, mod-mul-add, div_below, mod_below, div-add-mod'}
use Rattle.std.proofs.lemmas.List.{get_or_append_left, get_or-append_right, length-append, length-map, get_or-map}
use Rattle.std.proofs.lemmas.Option.{slice_get-get_or, get_or_from_slice_get, slice_get_within}
use Rattle.std.proofs.lemmas.Bool.{and_parts, and_from, ltb-true, leb-true, lt-ltb, le-leb, false≢true}
use Rattle.zarrs_subset.specs.Boxes.{position_count, InShape, place, in_range, is_within, positions_from, unravel, offset_from, offset_by}
use Rattle.zarrs_subset.proofs.Kernel.{place_below}

-- ---- numbers and positions of an array

-- an array with a position has no extent 0 further in
pub count_some : (n : ℕ) (shape : List ℕ) (k : ℕ) → k < n * position_count shape → 0 < position_count shape
count_some n shape k h = elim (position_count shape) as (λ c. k < n * c → 0 < c) [ zero ↦ λ l. absurd (omega arith) | suc c ↦ λ l. omega arith ] h

pub unravel_in : (shape : List ℕ) (k : ℕ) → k < position_count shape → InShape shape (unravel shape k)
unravel_in [] k h = tt
unravel_in (n ∷ shape) k h =
    let some = count_some n shape k h in
    (div_below k (position_count shape) n some h, unravel_in shape (k % position_count shape) (mod_below k (position_count shape) some))

-- the row-major number of the position of that number
pub place-unravel : (shape : List ℕ) (k : ℕ) → k < position_count shape → place shape (unravel shape k) ≡ k
place-unravel [] k h = omega arith
place-unravel (n ∷ shape) k h =
    let some = count_some n shape k h in
    ap (λ v. k / position_count shape * position_count shape + v) (place-unravel shape (k % position_count shape) (mod_below k (position_count shape) some))
    ∙ div-add-mod' k (position_count shape)

pub unravel-place : (shape p : List ℕ) → InShape shape p → unravel shape (place shape p) ≡ p
unravel-place [] [] h = refl
unravel-place [] (i ∷ p) h = absurd h
unravel-place (n ∷ shape) [] h = absurd h
unravel-place (n ∷ shape) (i ∷ p) h =
    let below = place_below shape p h.1 in
    rw (div-mul-add i (position_count shape) (place shape p) below, mod-mul-add i (position_count shape) (place shape p) below, unravel-place shape p h.1) refl

-- ---- pieces of one length, end to end

length-pieces : (f : ℕ → List (List ℕ)) (m s e : ℕ) → ((i : ℕ) → length (f i) ≡ m) → length (flat_map f (range_with_len s e)) ≡ e * m
length-pieces f m s zero h = omega arith
length-pieces f m s (suc e) h = length-append (f s) (flat_map f (range_with_len (s + 1) e)) ∙ omega (arith, h s, length-pieces f m (s + 1) e h)

get_or-pieces : (f : ℕ → List (List ℕ)) (m s e q r : ℕ) (d : List ℕ) → ((i : ℕ) → length (f i) ≡ m) → q < e → r < m
    → get_or (flat_map f (range_with_len s e)) (q * m + r) d ≡ get_or (f (s + q)) r d
get_or-pieces f m s zero q r d h below within = absurd (omega arith)
get_or-pieces f m s (suc e) zero r d h below within =
    let rest = flat_map f (range_with_len (s + 1) e) in
    let first : zero * m + r ≡ r = omega arith in
    let at : s ≡ s + zero = omega arith in
    ap (λ v. get_or (f s ++ rest) v d) first
    ∙ get_or_append_left (f s) rest d r (omega (arith, h s))
    ∙ ap (λ v. get_or (f v) r d) at
get_or-pieces f m s (suc e) (suc q) r d h below within =
    let rest = flat_map f (range_with_len (s + 1) e) in
    let past : m ≤ suc q * m + r = omega arith in
    let back : suc q * m + r - m ≡ q * m + r = omega arith in
    let at : s + 1 + q ≡ s + suc q = omega arith in
    get_or-append_right (f s) rest m (suc q * m + r) d (h s) past
    ∙ ap (λ v. get_or rest v d) back
    ∙ get_or-pieces f m (s + 1) e q r d h (omega arith) within
    ∙ ap (λ v. get_or (f v) r d) at

-- ---- the list of positions

pub length-positions : (start extents : List ℕ) → length start ≡ length extents → length (positions_from start extents) ≡ position_count extents
length-positions [] [] h = refl
length-positions [] (e ∷ extents) h = absurd (omega arith)
length-positions (s ∷ start) [] h = absurd (omega arith)
length-positions (s ∷ start) (e ∷ extents) h =
    length-pieces (λ i. map (λ p. i ∷ p) (positions_from start extents)) (position_count extents) s e
    (λ i. length-map (positions_from start extents) (λ p. i ∷ p) ∙ length-positions start extents (omega arith))

-- the k-th position is the k-th of the shape, seen from the corner
pub get_or-positions : (start extents : List ℕ) (k : ℕ) (d : List ℕ) → length start ≡ length extents → k < position_count extents
    → get_or (positions_from start extents) k d ≡ offset_by start (unravel extents k)
get_or-positions [] [] k d h below = let first : k ≡ 0 = omega arith in rw first refl
get_or-positions [] (e ∷ extents) k d h below = absurd (omega arith)
get_or-positions (s ∷ start) [] k d h below = absurd (omega arith)
get_or-positions (s ∷ start) (e ∷ extents) k d h below =
    let m = position_count extents in
    let q = k / m in
    let r = k % m in
    let some = count_some e extents k below in
    let within : r < m = mod_below k m some in
    let inner = positions_from start extents in
    let len : length inner ≡ m = length-positions start extents (omega arith) in
    let piece = λ (i : ℕ). length-map inner (λ (p : List ℕ). i ∷ p) ∙ len in
    ap (λ v. get_or (positions_from (s ∷ start) (e ∷ extents)) v d) (sym (div-add-mod' k m))
    ∙ get_or-pieces (λ i. map (λ p. i ∷ p) inner) m s e q r d piece (div_below k m e some below) within
    ∙ get_or-map (λ p. (s + q) ∷ p) inner r [] d (omega arith)
    ∙ ap (λ p. (s + q) ∷ p) (get_or-positions start extents r [] (omega arith) within)

pub slice_get-positions : (start extents : List ℕ) (k : ℕ) → length start ≡ length extents → k < position_count extents
    → slice_get (positions_from start extents) k ≡ Some (offset_by start (unravel extents k))
slice_get-positions start extents k h below =
    slice_get-get_or (positions_from start extents) k [] (omega (arith, length-positions start extents h))
    ∙ ap (λ p. Some p) (get_or-positions start extents k [] h below)

-- ---- the positions of a box, and the box

-- p is in the box of `start` and `extents`, as a fact
pub in_box-offset_by : (start extents q : List ℕ) → length start ≡ length extents → InShape extents q → is_within start extents (offset_by start q) ≡ true
in_box-offset_by [] [] [] h i = refl
in_box-offset_by [] [] (j ∷ q) h i = absurd i
in_box-offset_by [] (e ∷ extents) q h i = absurd (omega arith)
in_box-offset_by (s ∷ start) [] q h i = absurd (omega arith)
in_box-offset_by (s ∷ start) (e ∷ extents) [] h i = absurd i
in_box-offset_by (s ∷ start) (e ∷ extents) (j ∷ q) h i =
    let lt : j < e = i.0 in
    and_from (in_range s e (s + j)) (is_within start extents (offset_by start q))
    (and_from (nat_le s (s + j)) (nat_lt (s + j) (s + e)) (le-leb s (s + j) (omega arith)) (lt-ltb (s + j) (s + e) (omega arith)))
    (in_box-offset_by start extents q (omega arith) i.1)

pub offset_from-in : (start extents p : List ℕ) → length start ≡ length extents → is_within start extents p ≡ true → InShape extents (offset_from start p)
offset_from-in [] [] p l h = tt
offset_from-in [] (e ∷ extents) p l h = absurd (omega arith)
offset_from-in (s ∷ start) [] p l h = absurd (omega arith)
offset_from-in (s ∷ start) (e ∷ extents) [] l h = absurd (false≢true h)
offset_from-in (s ∷ start) (e ∷ extents) (i ∷ p) l h =
    let parts = and_parts (in_range s e i) (is_within start extents p) h in
    let tests = and_parts (nat_le s i) (nat_lt i (s + e)) parts.0 in
    let low : s ≤ i = leb-true s i tests.0 in
    let high : i < s + e = ltb-true i (s + e) tests.1 in
    (omega arith, offset_from-in start extents p (omega arith) parts.1)

pub offset_by-from : (start extents p : List ℕ) → length start ≡ length extents → is_within start extents p ≡ true → offset_by start (offset_from start p) ≡ p
offset_by-from [] extents [] l h = refl
offset_by-from [] extents (i ∷ p) l h = absurd (false≢true h)
offset_by-from (s ∷ start) [] p l h = absurd (omega arith)
offset_by-from (s ∷ start) (e ∷ extents) [] l h = absurd (false≢true h)
offset_by-from (s ∷ start) (e ∷ extents) (i ∷ p) l h =
    let parts = and_parts (in_range s e i) (is_within start extents p) h in
    let tests = and_parts (nat_le s i) (nat_lt i (s + e)) parts.0 in
    let low : s ≤ i = leb-true s i tests.0 in
    let first : s + (i - s) ≡ i = omega arith in
    rw (first, offset_by-from start extents p (omega arith) parts.1) refl

pub offset_from-by : (start extents q : List ℕ) → length start ≡ length extents → InShape extents q → offset_from start (offset_by start q) ≡ q
offset_from-by [] [] [] l h = refl
offset_from-by [] [] (i ∷ q) l h = absurd h
offset_from-by [] (e ∷ extents) q l h = absurd (omega arith)
offset_from-by (s ∷ start) [] q l h = absurd (omega arith)
offset_from-by (s ∷ start) (e ∷ extents) [] l h = absurd h
offset_from-by (s ∷ start) (e ∷ extents) (i ∷ q) l h =
    let first : s + i - s ≡ i = omega arith in
    rw (first, offset_from-by start extents q (omega arith) h.1) refl

-- every position of the list is in the box
pub positions_in : (start extents : List ℕ) (k : ℕ) (p : List ℕ) → length start ≡ length extents
    → slice_get (positions_from start extents) k ≡ Some p → is_within start extents p ≡ true
positions_in start extents k p l h =
    let below : k < position_count extents = omega (arith, slice_get_within (positions_from start extents) k p h, length-positions start extents l) in
    let is : offset_by start (unravel extents k) ≡ p = sym (get_or-positions start extents k [] l below) ∙ get_or_from_slice_get (positions_from start extents) k p [] h in
    rw (← is) (in_box-offset_by start extents (unravel extents k) l (unravel_in extents k below))

-- every position of the box is in the list, at its row-major number
pub positions_all : (start extents p : List ℕ) → length start ≡ length extents → is_within start extents p ≡ true
    → slice_get (positions_from start extents) (place extents (offset_from start p)) ≡ Some p
positions_all start extents p l h =
    let inside = offset_from-in start extents p l h in
    slice_get-positions start extents (place extents (offset_from start p)) l (place_below extents (offset_from start p) inside)
    ∙ ap (λ q. Some (offset_by start q)) (unravel-place extents (offset_from start p) inside)
    ∙ ap (λ q. Some q) (offset_by-from start extents p l h)

-- and there alone
pub positions_once : (start extents : List ℕ) (k : ℕ) (p : List ℕ) → length start ≡ length extents
    → slice_get (positions_from start extents) k ≡ Some p → k ≡ place extents (offset_from start p)
positions_once start extents k p l h =
    let below : k < position_count extents = omega (arith, slice_get_within (positions_from start extents) k p h, length-positions start extents l) in
    let is : offset_by start (unravel extents k) ≡ p = sym (get_or-positions start extents k [] l below) ∙ get_or_from_slice_get (positions_from start extents) k p [] h in
    let inside = unravel_in extents k below in
    sym (place-unravel extents k below)
    ∙ ap (λ q. place extents q) (sym (offset_from-by start extents (unravel extents k) l inside) ∙ ap (λ q. offset_from start q) is)
