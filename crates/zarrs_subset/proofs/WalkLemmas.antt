-- Lemmas of a walk through the positions of a box.
use Rattle.std.proofs.Common.{◌≡◌, ℕ, zero, suc, ◌+◌, ◌-◌, ◌*◌, ◌<◌, ◌≤◌, true, false, nat_lt, nat_le, List, [], ◌∷◌}
use Rattle.std.proofs.Common.{◌++◌, length, drop, take, slice_index, Bool}
use Rattle.std.proofs.Common.{add-one, refl, sym, ap, ◌∙◌, arith, SomeIndex, Result, Ok, Err, OnErr}
use Rattle.std.proofs.Common.{append-nil, slice_set, inl, inr}
use Rattle.std.proofs.Math.Nat.{add-mul}
use Rattle.std.specs.Bool.{OnTrue, OnFalse}
use Rattle.std.specs.List.{refill}
use Rattle.std.proofs.lemmas.List.{drop_all, drop_more, take_all}
use Rattle.std.proofs.lemmas.Bool.{cases_eq, and_parts, and_from, ltb-true, leb-true, lt-ltb, le-leb, false≢true}
use Rattle.std.proofs.lemmas.Option.{get_or_from_slice_get}
use Rattle.zarrs_subset.specs.Boxes.{position_count, place, in_range, is_within, offset_from}
use Rattle.zarrs_subset.specs.Regions.{Box, IsLong, Holds, positions, place_in}
use Rattle.zarrs_subset.proofs.Bytes.{place_in_below, holds_along}
use Rattle.zarrs_subset.proofs.Counts.{count_zero, count_some}
use Rattle.zarrs_subset.proofs.Overlaps.{AllSome}
use Rattle.zarrs_subset.proofs.Positions.{length-positions, positions_all}

-- ---- from a position to the next one

-- the position with one more in dimension `axis`, and the start in those after it
abbrev pub next_of : List ℕ → List ℕ → ℕ → List ℕ
next_of start position axis = take axis position ++ (slice_index position axis + 1) ∷ drop (axis + 1) start

-- the position has the last index of the box in this dimension
abbrev pub IsEndedAt : Box → List ℕ → ℕ → Type 0
IsEndedAt box position k = slice_index position k + 1 ≡ slice_index box.start k + slice_index box.shape k

-- the position is the last one of the box
abbrev pub IsLastIn : Box → List ℕ → Type 0
IsLastIn box position = (k : ℕ) → k < length box.start → IsEndedAt box position k

-- this dimension is the last one in which the position has not the last index of the box
pub record IsFreeIn (box : Box) (position : List ℕ) (axis : ℕ) : Type 0 where
  pub inside : axis < length box.start
  pub indexed : axis < length position
  pub free : slice_index position axis + 1 < slice_index box.start axis + slice_index box.shape axis
  pub later : (k : ℕ) → axis < k → k < length box.start → IsEndedAt box position k

-- ---- the first position

-- the start lies in a box that holds a position
start_within : (S X p : List ℕ) → length S ≡ length X → is_within S X p ≡ true → is_within S X S ≡ true
start_within [] X p l h = refl
start_within (s ∷ S) [] p l h = absurd (omega arith)
start_within (s ∷ S) (x ∷ X) [] l h = absurd (false≢true h)
start_within (s ∷ S) (x ∷ X) (i ∷ p) l h =
    let parts = and_parts (in_range s x i) (is_within S X p) h in
    let tests = and_parts (nat_le s i) (nat_lt i (s + x)) parts.0 in
    let low : s ≤ i = leb-true s i tests.0 in
    let high : i < s + x = ltb-true i (s + x) tests.1 in
    and_from (in_range s x s) (is_within S X S)
    (and_from (nat_le s s) (nat_lt s (s + x)) (le-leb s s (omega arith)) (lt-ltb s (s + x) (omega arith)))
    (start_within S X p (omega arith) parts.1)

-- and in one with no extent 0
pub start_within_some : (S X : List ℕ) → length S ≡ length X → AllSome X → is_within S X S ≡ true
start_within_some [] X l some = refl
start_within_some (s ∷ S) [] l some = absurd (omega arith)
start_within_some (s ∷ S) (x ∷ X) l some =
    let here : x ≡ 0 → ⊥ = some zero (omega arith) in
    and_from (in_range s x s) (is_within S X S)
    (and_from (nat_le s s) (nat_lt s (s + x)) (le-leb s s (omega arith)) (lt-ltb s (s + x) (omega arith)))
    (start_within_some S X (omega arith) (λ k below. some (suc k) (omega arith)))

pub place-start : (S X : List ℕ) → length S ≡ length X → place X (offset_from S S) ≡ 0
place-start [] [] l = refl
place-start [] (x ∷ X) l = absurd (omega arith)
place-start (s ∷ S) [] l = absurd (omega arith)
place-start (s ∷ S) (x ∷ X) l =
    let none : s - s ≡ 0 = omega arith in
    rw none (omega (arith, place-start S X (omega arith)))

-- a box with an extent 0 has no position, and another one has some
pub positions-empty : (box : Box) → IsLong box → SomeIndex box.shape (λ k. slice_index box.shape k ≡ 0) → positions box ≡ []
positions-empty box long found =
    none (positions box) (length-positions box.start box.shape long ∙ count_zero box.shape found.0 found.1 found.2)
  where
    none : (xs : List (List ℕ)) → length xs ≡ 0 → xs ≡ []
    none [] h = refl
    none (x ∷ xs) h = absurd (omega arith)

pub length-positions-some : (box : Box) → IsLong box → AllSome box.shape → 0 < length (positions box)
length-positions-some box long some = omega (arith, length-positions box.start box.shape long, count_some box.shape some)

-- ---- the next position

-- a position with the last index everywhere is the last one
place-last : (S X p : List ℕ) → length S ≡ length X → is_within S X p ≡ true
    → ((k : ℕ) → k < length S → slice_index p k + 1 ≡ slice_index S k + slice_index X k)
    → place X (offset_from S p) + 1 ≡ position_count X
place-last [] [] p l h last = refl
place-last [] (x ∷ X) p l h last = absurd (omega arith)
place-last (s ∷ S) [] p l h last = absurd (omega arith)
place-last (s ∷ S) (x ∷ X) [] l h last = absurd (false≢true h)
place-last (s ∷ S) (x ∷ X) (i ∷ p) l h last =
    let parts = and_parts (in_range s x i) (is_within S X p) h in
    let low : s ≤ i = leb-true s i (and_parts (nat_le s i) (nat_lt i (s + x)) parts.0).0 in
    let here : i + 1 ≡ s + x = last zero (omega arith) in
    let extent : (i - s) + 1 ≡ x = omega arith in
    let rest = place-last S X p (omega arith) parts.1 (λ k below. last (suc k) (omega arith)) in
    omega (arith, rest, add-mul (i - s) 1 (position_count X), ap (λ v. v * position_count X) extent)

pub place_in-last : (box : Box) (p : List ℕ) → IsLong box → Holds box p → IsLastIn box p → place_in box p + 1 ≡ position_count box.shape
place_in-last box p long holds last = place-last box.start box.shape p long holds last

-- the same, in the form that computes
abbrev next_at : List ℕ → List ℕ → ℕ → List ℕ
next_at S p a = take a p ++ (slice_index p a + 1) ∷ drop (suc a) S

next_of-at : (S p : List ℕ) (a : ℕ) → next_of S p a ≡ next_at S p a
next_of-at S p a = ap (λ k. take a p ++ (slice_index p a + 1) ∷ drop k S) (add-one a)

next_within : (S X p : List ℕ) (a : ℕ) → length S ≡ length X → is_within S X p ≡ true → a < length S
    → slice_index p a + 1 < slice_index S a + slice_index X a → is_within S X (next_at S p a) ≡ true
next_within [] X p a l h below free = absurd (omega arith)
next_within (s ∷ S) [] p a l h below free = absurd (omega arith)
next_within (s ∷ S) (x ∷ X) [] a l h below free = absurd (false≢true h)
next_within (s ∷ S) (x ∷ X) (i ∷ p) zero l h below free =
    let parts = and_parts (in_range s x i) (is_within S X p) h in
    let low : s ≤ i = leb-true s i (and_parts (nat_le s i) (nat_lt i (s + x)) parts.0).0 in
    let high : i + 1 < s + x = free in
    and_from (in_range s x (i + 1)) (is_within S X S)
    (and_from (nat_le s (i + 1)) (nat_lt (i + 1) (s + x)) (le-leb s (i + 1) (omega arith)) (lt-ltb (i + 1) (s + x) high))
    (start_within S X p (omega arith) parts.1)
next_within (s ∷ S) (x ∷ X) (i ∷ p) (suc a) l h below free =
    let parts = and_parts (in_range s x i) (is_within S X p) h in
    and_from (in_range s x i) (is_within S X (next_at S p a)) parts.0
    (next_within S X p a (omega arith) parts.1 (omega arith) free)

place-next : (S X p : List ℕ) (a : ℕ) → length S ≡ length X → is_within S X p ≡ true → a < length S
    → ((k : ℕ) → a < k → k < length S → slice_index p k + 1 ≡ slice_index S k + slice_index X k)
    → place X (offset_from S (next_at S p a)) ≡ place X (offset_from S p) + 1
place-next [] X p a l h below later = absurd (omega arith)
place-next (s ∷ S) [] p a l h below later = absurd (omega arith)
place-next (s ∷ S) (x ∷ X) [] a l h below later = absurd (false≢true h)
place-next (s ∷ S) (x ∷ X) (i ∷ p) zero l h below later =
    let parts = and_parts (in_range s x i) (is_within S X p) h in
    let low : s ≤ i = leb-true s i (and_parts (nat_le s i) (nat_lt i (s + x)) parts.0).0 in
    let step : (i + 1) - s ≡ (i - s) + 1 = omega arith in
    let rest = place-last S X p (omega arith) parts.1 (λ k within. later (suc k) (omega arith) (omega arith)) in
    let first = place-start S X (omega arith) in
    omega (arith, rest, first, add-mul (i - s) 1 (position_count X), ap (λ v. v * position_count X) step)
place-next (s ∷ S) (x ∷ X) (i ∷ p) (suc a) l h below later =
    let parts = and_parts (in_range s x i) (is_within S X p) h in
    let rest = place-next S X p a (omega arith) parts.1 (omega arith) (λ k past within. later (suc k) (omega arith) (omega arith)) in
    omega (arith, rest)

pub holds-next : (box : Box) (p : List ℕ) (a : ℕ) → IsLong box → Holds box p → IsFreeIn box p a → Holds box (next_of box.start p a)
holds-next box p a long holds free = rw (next_of-at box.start p a) (next_within box.start box.shape p a long holds free.inside free.free)

pub place_in-next : (box : Box) (p : List ℕ) (a : ℕ) → IsLong box → Holds box p → IsFreeIn box p a
    → place_in box (next_of box.start p a) ≡ place_in box p + 1
place_in-next box p a long holds free = rw (next_of-at box.start p a) (place-next box.start box.shape p a long holds free.inside free.later)

-- ---- the positions from one on

-- they begin with it
pub drop-place : (box : Box) (p : List ℕ) → IsLong box → Holds box p
    → drop (place_in box p) (positions box) ≡ p ∷ drop (place_in box p + 1) (positions box)
drop-place box p long holds =
    let below : place_in box p < length (positions box) = omega (arith, place_in_below box p long holds, length-positions box.start box.shape long) in
    drop_more (positions box) (place_in box p) [] below
    ∙ ap (λ q. q ∷ drop (place_in box p + 1) (positions box)) (get_or_from_slice_get (positions box) (place_in box p) p [] (positions_all box.start box.shape p long holds))

-- after the last one there is none
pub drop-last : (box : Box) (k : ℕ) → IsLong box → k ≡ position_count box.shape → drop k (positions box) ≡ []
drop-last box k long is = drop_all k (positions box) (omega (arith, length-positions box.start box.shape long))

-- ---- from the last dimension to the first

-- a position whose dimensions from number k on are back at the start
abbrev pub reset_from : List ℕ → List ℕ → ℕ → List ℕ
reset_from start position k = take k position ++ drop k start

pub reset_none : (start position : List ℕ) → length position ≡ length start → reset_from start position (length start) ≡ position
reset_none start position long =
    let all : take (length start) position ≡ position = take_all (length start) position (omega arith) in
    rw (all, drop_all (length start) start (omega arith)) (append-nil position)

pub reset-at : (start position : List ℕ) (k n : ℕ) → n ≡ suc k → k < length position → slice_index (reset_from start position n) k ≡ slice_index position k
reset-at start [] k n is below = absurd (omega arith)
reset-at start (i ∷ position) zero n is below = rw is refl
reset-at [] (i ∷ position) (suc k) n is below = rw is (reset-at [] position k (suc k) refl (omega arith))
reset-at (s ∷ start) (i ∷ position) (suc k) n is below = rw is (reset-at start position k (suc k) refl (omega arith))

pub set-reset : (start position : List ℕ) (k n v : ℕ) → n ≡ suc k → k < length position
    → slice_set (reset_from start position n) k v ≡ take k position ++ v ∷ drop (k + 1) start
set-reset start [] k n v is below = absurd (omega arith)
set-reset start (i ∷ position) zero n v is below = rw is refl
set-reset [] (i ∷ position) (suc k) n v is below =
    rw (is, drop_nil (suc k + 1)) (ap (λ l. i ∷ l) (set-reset [] position k (suc k) v refl (omega arith) ∙ ap (λ l. take k position ++ v ∷ l) (drop_nil (k + 1))))
  where
    drop_nil : (n : ℕ) → drop {A = ℕ} n [] ≡ []
    drop_nil n = drop_all n [] (omega arith)
set-reset (s ∷ start) (i ∷ position) (suc k) n v is below =
    let more : suc k + 1 ≡ suc (k + 1) = omega arith in
    rw (is, more) (ap (λ l. i ∷ l) (set-reset start position k (suc k) v refl (omega arith)))

pub reset_more : (start position : List ℕ) (k : ℕ) → k < length start
    → take k position ++ slice_index start k ∷ drop (k + 1) start ≡ reset_from start position k
reset_more start position k below = ap (λ l. take k position ++ l) (sym (drop_more start k 0 below))

-- back at the start in each dimension
pub reset_all : (start position : List ℕ) → reset_from start position 0 ≡ start
reset_all start position = refl

pub IsFreeIn-last : (box : Box) (p : List ℕ) (n k : ℕ) → n ≡ k + 1 → k < length box.start → length p ≡ length box.start
    → slice_index p k + 1 < slice_index box.start k + slice_index box.shape k
    → ((j : ℕ) → n ≤ j → j < length box.start → IsEndedAt box p j) → IsFreeIn box p k
IsFreeIn-last box p n k is below long free later = record {
  inside = below;
  indexed = omega arith;
  free = free;
  later = λ j past within. later j (omega arith) within;
}

-- one dimension more has its last index
pub ended_more : (box : Box) (p : List ℕ) (n k : ℕ) → n ≡ k + 1 → k < length box.start → IsLong box → Holds box p
    → slice_index box.start k + slice_index box.shape k ≤ slice_index p k + 1
    → ((j : ℕ) → n ≤ j → j < length box.start → IsEndedAt box p j) → (j : ℕ) → k ≤ j → j < length box.start → IsEndedAt box p j
ended_more box p n k is below long holds last later j low within =
    elim (cases_eq j k) [
      | inl same ↦ rw same (let inside = (holds_along box p long holds).below k below in omega arith)
      | inr other ↦ later j (omega arith) within
    ]

pub holds_start : (box : Box) (p : List ℕ) → IsLong box → Holds box p → Holds box box.start
holds_start box p long holds = start_within box.start box.shape p long holds

-- ---- steps of a walk

pub drop-next : (box : Box) (p q : List ℕ) (found : Bool) → IsLong box → Holds box q → OnTrue found (place_in box q ≡ place_in box p + 1)
    → OnTrue found (drop (place_in box p + 1) (positions box) ≡ q ∷ drop (place_in box q + 1) (positions box))
drop-next box p q true long holds next = ap (λ k. drop k (positions box)) (sym next) ∙ drop-place box q long holds
drop-next box p q false long holds next = tt

pub drop-end : (box : Box) (p : List ℕ) (found : Bool) → IsLong box → OnFalse found (place_in box p + 1 ≡ position_count box.shape)
    → OnFalse found (drop (place_in box p + 1) (positions box) ≡ [])
drop-end box p true long last = tt
drop-end box p false long last = drop-last box (place_in box p + 1) long last

pub last-length : (box : Box) (p : List ℕ) (found : Bool) → IsLong box → OnFalse found (place_in box p + 1 ≡ position_count box.shape)
    → OnFalse found (place_in box p + 1 ≡ length (positions box))
last-length box p true long last = tt
last-length box p false long last = last ∙ sym (length-positions box.start box.shape long)

pub first-place : (box : Box) (p : List ℕ) (found : Bool) → IsLong box → OnFalse found (p ≡ box.start) → OnFalse found (place_in box p ≡ 0)
first-place box p true long is = tt
first-place box p false long is = ap (place_in box) is ∙ place-start box.start box.shape long

pub positions-first : (box : Box) (p : List ℕ) → IsLong box → AllSome box.shape → p ≡ box.start
    → positions box ≡ p ∷ drop (place_in box p + 1) (positions box)
positions-first box p long some is =
    let holds : Holds box p = rw is (start_within_some box.start box.shape long some) in
    let first : place_in box p ≡ 0 = ap (place_in box) is ∙ place-start box.start box.shape long in
    ap (λ k. drop k (positions box)) (sym first) ∙ drop-place box p long holds

-- a list that is filled again, all of it
pub refill-same : (old new : List ℕ) → length new ≡ length old → refill (length old) old new ≡ new
refill-same old new same =
    let none : drop (length new) old ≡ [] = drop_all (length new) old (omega arith) in
    rw none (ap (λ l. take (length old) l) (append-nil new) ∙ take_all (length old) new (omega arith))

pub on_err : {T E : Type 0} (r : Result T E) (P : Type 0) → P → OnErr r P
on_err (Ok x) P p = tt
on_err (Err e) P p = p
