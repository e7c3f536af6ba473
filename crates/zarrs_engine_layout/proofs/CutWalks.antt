-- Walks that leave out the positions below a shape.
use Rattle.std.proofs.Common.{◌≡◌, zero, suc, ℕ, ◌+◌, ◌-◌, ◌*◌, ◌<◌, ◌≤◌, true, false, Bool, List, [], ◌∷◌, ◌++◌, not, ◌&&◌}
use Rattle.std.proofs.Common.{length, take, drop, slice_index, slice_set, replicate, refl, sym, ap, subst, ◌∙◌, inl, inr, arith, Option, Some, None, IfSome, IfNone, MatchOption, SomeIndex, unwrap_or}
use Rattle.std.proofs.Math.Nat.{add-mul}
use Rattle.std.specs.Bool.{OnFalse, OnTrue}
use borrow.Rule.Slice.PartMut.{mid_of, put_mid, same_len_mid}
use Rattle.std.proofs.lemmas.Bool.{cases_Bool, cases_eq, cases_lt, false≢true}
use Rattle.std.proofs.lemmas.List.{append-nil, drop_all, get_or-replicate, get_or_append_left, get_or_push, length_push, length-append, length-drop, length-replicate, length-take, length-take-le}
use Rattle.std.proofs.lemmas.Nat.{mul-le}
use Rattle.zarrs_subset.specs.Boxes.{position_count, place, InShape, offset_from}
use Rattle.zarrs_subset.specs.Regions.{IsLong, box_at_origin, place_in}
use Rattle.zarrs_subset.proofs.Bytes.{place_in_below}
use Rattle.zarrs_subset.proofs.Counts.{InShape-from, InShape-at, length-InShape}
use Rattle.zarrs_subset.proofs.Kernel.{place_below}
use Rattle.zarrs_subset.proofs.WalkLemmas.{IsEndedAt, IsFreeIn, IsFreeIn-last, ended_more, holds-next, holds_start, next_of, place_in-last, place_in-next}
use Rattle.zarrs_subset.proofs.WalkLemmas.{place-start, reset-at, reset_from, reset_more, reset_none, set-reset, start_within_some}
use Rattle.zarrs_subset.proofs.Overlaps.{AllSome}
use Rattle.zarrs_chunk_grid.specs.Axes.{Axis, Covers}
use Rattle.zarrs_chunk_grid.specs.Grids.{Grid, IsGrid, box_at, has_box}
use Rattle.zarrs_chunk_grid.proofs.AxisLemmas.{edge_le}
use Rattle.zarrs_chunk_grid.proofs.Chunks.{box_is_there}
use Rattle.zarrs_engine_calls.specs.ChunkBoxes.{last_of}
use Rattle.zarrs_engine_calls.specs.Cuts.{is_below, is_cut}
use Rattle.zarrs_engine_calls.proofs.Below.{along_below, below_along}
use Rattle.zarrs_engine_layout.specs.declared.cut_walk.CutWalk.{CutWalk}
use Rattle.zarrs_engine_layout.specs.CutWalks.{HasNoCut, IsCutWalk, IsFirst}
use Rattle.zarrs_engine_layout.specs.WholeChunks.{AreWhole, AreWholeAlong, PassesBelow}
use Rattle.zarrs_engine_layout.proofs.Cuts.{EndsTo, ends_all, last_is}

-- ---- positions of an array

pub origin_long : (shape : List ℕ) → IsLong (box_at_origin shape)
origin_long shape = length-replicate {A = ℕ} (length shape) 0

pub below_in : (shape p : List ℕ) → is_below shape p ≡ true → InShape shape p
below_in shape p h = let b = below_along shape p h in InShape-from shape p b.same_length b.below

pub in_below : (shape p : List ℕ) → InShape shape p → is_below shape p ≡ true
in_below shape p h = along_below shape p (record { same_length = length-InShape shape p h; below = λ k within. InShape-at shape p k h within })

offset_zero : (n : ℕ) (p : List ℕ) → length p ≡ n → offset_from (replicate n 0) p ≡ p
offset_zero zero [] l = refl
offset_zero zero (i ∷ p) l = absurd (omega arith)
offset_zero (suc n) [] l = absurd (omega arith)
offset_zero (suc n) (i ∷ p) l = let same : i - 0 ≡ i = omega arith in
    ap (λ v. v ∷ offset_from (replicate n 0) p) same ∙ ap (λ (l : List ℕ). i ∷ l) (offset_zero n p (omega arith))

pub number_is : (shape p : List ℕ) → InShape shape p → place_in (box_at_origin shape) p ≡ place shape p
number_is shape p h = ap (place shape) (offset_zero (length shape) p (length-InShape shape p h))

pub at_past : (xs : List ℕ) (k : ℕ) → length xs ≤ k → slice_index xs k ≡ 0
at_past [] k past = refl
at_past (x ∷ xs) zero past = absurd (omega arith)
at_past (x ∷ xs) (suc k) past = at_past xs k (omega arith)

-- one index decides that a position is not below a shape; all decide that it is
pub one_high : (shape p : List ℕ) (k : ℕ) → k < length shape → slice_index shape k ≤ slice_index p k → false ≡ is_below shape p
one_high shape p k within high = elim (cases_Bool (is_below shape p)) [
  | inr out ↦ sym out
  | inl all ↦ let b = (below_along shape p all).below k within in absurd (omega arith)
]

pub all_low : (shape p : List ℕ) (n : ℕ) → n ≡ length p → length shape ≡ length p → ((k : ℕ) → k < n → slice_index p k < slice_index shape k) → true ≡ is_below shape p
all_low shape p n all long low = sym (along_below shape p (record { same_length = sym long; below = λ k within. low k (omega arith) }))

-- ---- from a position below `whole` to the next one that is not

-- 0 in each dimension
abbrev pub zeros : List ℕ → List ℕ
zeros [] = []
zeros (i ∷ p) = 0 ∷ zeros p

-- the position with index `v` in this dimension, and with 0 in those after it
abbrev pub turned : List ℕ → ℕ → ℕ → List ℕ
turned [] d v = []
turned (i ∷ p) zero v = v ∷ zeros p
turned (i ∷ p) (suc d) v = i ∷ turned p d v

place_zeros : (shape p : List ℕ) → place shape (zeros p) ≡ 0
place_zeros [] p = refl
place_zeros (n ∷ shape) [] = refl
place_zeros (n ∷ shape) (i ∷ p) = omega (arith, place_zeros shape p)

zeros_in : (shape p : List ℕ) → InShape shape p → InShape shape (zeros p)
zeros_in [] [] h = tt
zeros_in [] (i ∷ p) h = absurd h
zeros_in (n ∷ shape) [] h = absurd h
zeros_in (n ∷ shape) (i ∷ p) h = let low : i < n = h.0 in (omega arith, zeros_in shape p h.1)

turned_in : (shape p : List ℕ) (d v : ℕ) → InShape shape p → v < slice_index shape d → InShape shape (turned p d v)
turned_in [] [] d v h below = tt
turned_in [] (i ∷ p) d v h below = absurd h
turned_in (n ∷ shape) [] d v h below = absurd h
turned_in (n ∷ shape) (i ∷ p) zero v h below = (below, zeros_in shape p h.1)
turned_in (n ∷ shape) (i ∷ p) (suc d) v h below = (h.0, turned_in shape p d v h.1 below)

rows_apart : (i j c a b : ℕ) → i < j → a < c → i * c + a < j * c + b
rows_apart i j c a b less low =
    let more : (i + 1) * c ≤ j * c = mul-le (i + 1) c j c (omega arith) (omega arith) in
    omega (arith, more, add-mul i 1 c)

row_before : (m j c a : ℕ) → j * c + a < m * c → j < m
row_before m j c a less = elim (cases_lt j m) [
  | inl low ↦ low
  | inr high ↦ let row = mul-le m c j c high (omega arith) in absurd (omega arith)
]

turned_later : (shape whole p : List ℕ) (d : ℕ) → InShape shape p → InShape whole p → slice_index whole d < slice_index shape d
    → place shape p ≤ place shape (turned p d (slice_index whole d))
turned_later [] whole [] d h w reach = omega arith
turned_later [] whole (i ∷ p) d h w reach = absurd h
turned_later (n ∷ shape) whole [] d h w reach = absurd h
turned_later (n ∷ shape) [] (i ∷ p) d h w reach = absurd w
turned_later (n ∷ shape) (m ∷ whole) (i ∷ p) zero h w reach =
    let low : i < m = w.0 in
    let before = rows_apart i m (position_count shape) (place shape p) (place shape (zeros p)) low (place_below shape p h.1) in
    omega arith
turned_later (n ∷ shape) (m ∷ whole) (i ∷ p) (suc d) h w reach =
    let rest = turned_later shape whole p d h.1 w.1 reach in
    omega (arith, rest)

-- a shape that is nowhere less has the position
wide_in : (shape whole p : List ℕ) → length whole ≡ length shape → ((k : ℕ) → slice_index shape k ≤ slice_index whole k) → InShape shape p → InShape whole p
wide_in shape whole p long more h =
    InShape-from whole p (length-InShape shape p h ∙ sym long) (λ k within.
    let b = InShape-at shape p k h (omega (arith, long)) in
    let m = more k in
    omega arith)

-- what lies between the two is below `whole`
turned_skips : (shape whole p r : List ℕ) (d : ℕ) → length whole ≡ length shape → InShape shape p → InShape whole p → InShape shape r
    → slice_index whole d < slice_index shape d → ((k : ℕ) → d < k → slice_index shape k ≤ slice_index whole k)
    → place shape p ≤ place shape r → place shape r < place shape (turned p d (slice_index whole d)) → InShape whole r
turned_skips [] [] p r d long hp hw hr reach later from upto = absurd (omega arith)
turned_skips [] (m ∷ whole) p r d long hp hw hr reach later from upto = absurd (omega arith)
turned_skips (n ∷ shape) [] p r d long hp hw hr reach later from upto = absurd (omega arith)
turned_skips (n ∷ shape) (m ∷ whole) [] r d long hp hw hr reach later from upto = absurd hp
turned_skips (n ∷ shape) (m ∷ whole) (i ∷ p) [] d long hp hw hr reach later from upto = absurd hr
turned_skips (n ∷ shape) (m ∷ whole) (i ∷ p) (j ∷ r) zero long hp hw hr reach later from upto =
    let c = position_count shape in
    let none = place_zeros shape p in
    let before : j * c + place shape r < m * c + place shape (zeros p) = upto in
    (row_before m j c (place shape r) (omega arith), wide_in shape whole r (omega arith) (λ k. later (suc k) (omega arith)) hr.1)
turned_skips (n ∷ shape) (m ∷ whole) (i ∷ p) (j ∷ r) (suc d) long hp hw hr reach later from upto =
    let c = position_count shape in
    let next = turned p d (slice_index whole d) in
    let low = place_below shape r hr.1 in
    let high = place_below shape next (turned_in shape p d (slice_index whole d) hp.1 reach) in
    let early : i < j → ⊥ = λ less. let apart = rows_apart i j c (place shape next) (place shape r) less high in omega arith in
    let late : j < i → ⊥ = λ less. let apart = rows_apart j i c (place shape r) (place shape p) less low in omega arith in
    let same : j ≡ i = omega arith in
    let rows : j * c ≡ i * c = ap (λ x. x * c) same in
    let inside : i < m = hw.0 in
    (omega arith, turned_skips shape whole p r d (omega arith) hp.1 hw.1 hr.1 reach (λ k past. later (suc k) (omega arith)) (omega arith) (omega arith))

zeros_are : (p : List ℕ) → replicate (length p) 0 ≡ zeros p
zeros_are [] = refl
zeros_are (i ∷ p) = ap (λ (l : List ℕ). 0 ∷ l) (zeros_are p)

pub turned_is : (p : List ℕ) (d v n : ℕ) → d < length p → n + d ≡ length p → slice_set (take d p ++ replicate n 0) d v ≡ turned p d v
turned_is [] d v n below all = absurd (omega arith)
turned_is (i ∷ p) zero v n below all = let count : n ≡ suc (length p) = omega arith in rw count (ap (λ (l : List ℕ). v ∷ l) (zeros_are p))
turned_is (i ∷ p) (suc d) v n below all = ap (λ (l : List ℕ). i ∷ l) (turned_is p d v n (omega arith) (omega arith))

pub filled_long : (p part : List ℕ) (d k : ℕ) → length part ≡ length (mid_of d k p) → length (put_mid d k p part) ≡ length p
filled_long p part d k same = same_len_mid d k p part same

-- after a part of the position, its `k` last indices, was filled with 0
pub filled_is : (p part : List ℕ) (d k v : ℕ) → d < length p → k ≡ length p - d → part ≡ replicate (length (mid_of d k p)) 0 → slice_set (put_mid d k p part) d v ≡ turned p d v
filled_is p part d k v below count filled =
    let rest = length-drop d p in
    let size : length (mid_of d k p) ≡ k = length-take-le k (drop d p) (omega arith) in
    let none : drop k (drop d p) ≡ [] = drop_all k (drop d p) (omega arith) in
    let is : put_mid d k p part ≡ take d p ++ replicate k 0 =
    ap (λ (l : List ℕ). take d p ++ l) (ap (λ (l : List ℕ). l ++ drop k (drop d p)) (filled ∙ ap (λ n. replicate n 0) size)
    ∙ ap (λ (l : List ℕ). replicate k 0 ++ l) none ∙ append-nil (replicate k 0)) in
    ap (λ (l : List ℕ). slice_set l d v) is ∙ turned_is p d v k below (omega arith)

turned_at : (p : List ℕ) (d v : ℕ) → d < length p → slice_index (turned p d v) d ≡ v
turned_at [] d v below = absurd (omega arith)
turned_at (i ∷ p) zero v below = refl
turned_at (i ∷ p) (suc d) v below = turned_at p d v (omega arith)

-- a dimension in which the array reaches past `whole` is one of its dimensions
pub reach_inside : (shape whole : List ℕ) (d : ℕ) → slice_index whole d < slice_index shape d → d < length shape
reach_inside [] whole d reach = absurd (omega arith)
reach_inside (n ∷ shape) whole zero reach = omega arith
reach_inside (n ∷ shape) [] (suc d) reach = let rest = reach_inside shape [] d reach in omega arith
reach_inside (n ∷ shape) (m ∷ whole) (suc d) reach = let rest = reach_inside shape whole d reach in omega arith

pub reach_within : (shape whole p : List ℕ) (d : ℕ) → is_below shape p ≡ true → slice_index whole d < slice_index shape d → d < length p
reach_within shape whole p d inside reach =
    let within = reach_inside shape whole d reach in
    let same = length-InShape shape p (below_in shape p inside) in
    omega arith

module _ (shape whole p : List ℕ) (d : ℕ) (long : length whole ≡ length shape) (inside : is_below shape p ≡ true) (low : is_below whole p ≡ true) (reach : slice_index whole d < slice_index shape d) where
  pub skip_inside : is_below shape (turned p d (slice_index whole d)) ≡ true
  skip_inside = in_below shape (turned p d (slice_index whole d)) (turned_in shape p d (slice_index whole d) (below_in shape p inside) reach)

  pub skip_outside : is_below whole (turned p d (slice_index whole d)) ≡ false
  skip_outside = elim (cases_Bool (is_below whole (turned p d (slice_index whole d)))) [
    | inr out ↦ out
    | inl all ↦
        let within = reach_inside shape whole d reach in
        let same = length-InShape shape p (below_in shape p inside) in
        let b = (below_along whole (turned p d (slice_index whole d)) all).below d (omega (arith, long)) in
        let at = turned_at p d (slice_index whole d) (omega (arith, same)) in
        absurd (omega arith)
  ]

  pub skip_next : place_in (box_at_origin shape) p ≤ place_in (box_at_origin shape) (turned p d (slice_index whole d))
  skip_next =
      let one = number_is shape p (below_in shape p inside) in
      let two = number_is shape (turned p d (slice_index whole d)) (below_in shape (turned p d (slice_index whole d)) skip_inside) in
      let later = turned_later shape whole p d (below_in shape p inside) (below_in whole p low) reach in
      omega arith

  pub skip_passes : ((k : ℕ) → d < k → slice_index shape k ≤ slice_index whole k) → PassesBelow shape whole (place_in (box_at_origin shape) p) (place_in (box_at_origin shape) (turned p d (slice_index whole d)))
  skip_passes later = λ r holds from upto.
      let one = number_is shape p (below_in shape p inside) in
      let two = number_is shape (turned p d (slice_index whole d)) (below_in shape (turned p d (slice_index whole d)) skip_inside) in
      let mid = number_is shape r (below_in shape r holds) in
      in_below whole r (turned_skips shape whole p r d long (below_in shape p inside) (below_in whole p low) (below_in shape r holds) reach later (omega arith) (omega arith))

-- ---- from a position to the next one

-- the dimensions from number `n` on had their last index, and are back at 0
pub record IsBackFrom (shape p : List ℕ) (n : ℕ) (q : List ℕ) : Type 0 where
  pub within : n ≤ length shape
  pub reset : q ≡ reset_from (box_at_origin shape).start p n
  pub ended : (k : ℕ) → n ≤ k → k < length (box_at_origin shape).start → IsEndedAt (box_at_origin shape) p k

module _ (shape p : List ℕ) (inside : is_below shape p ≡ true) where
  abbrev start : List ℕ
  start = (box_at_origin shape).start

  pub same_long : length p ≡ length shape
  same_long = (below_along shape p inside).same_length

  zero_at : (k : ℕ) → k < length shape → slice_index start k ≡ 0
  zero_at k below = get_or-replicate (length shape) k 0 0 below

  pub back_first : (n : ℕ) → n ≡ length shape → IsBackFrom shape p n p
  back_first n all = record {
    within = omega arith;
    reset = sym (ap (reset_from start p) (all ∙ sym (origin_long shape)) ∙ reset_none start p (same_long ∙ sym (origin_long shape)));
    ended = λ k low below. absurd (omega (arith, origin_long shape));
  }

  pub back_long : (n : ℕ) (q : List ℕ) → IsBackFrom shape p n q → length q ≡ length shape
  back_long n q h =
      ap (λ (l : List ℕ). length l) h.reset ∙ length-append (take n p) (drop n start)
      ∙ omega (arith, length-take n p, length-drop n start, origin_long shape, same_long, h.within)

  module _ (n : ℕ) (q : List ℕ) (h : IsBackFrom shape p n q) (some : 0 < n) where
    is_next : n ≡ suc (n - 1)
    is_next = omega arith

    inside_p : n - 1 < length p
    inside_p = omega (arith, h.within, same_long)

    pub back_read : slice_index q (n - 1) ≡ slice_index p (n - 1)
    back_read = ap (λ (l : List ℕ). slice_index l (n - 1)) h.reset ∙ reset-at start p (n - 1) n is_next inside_p

    pub back_below : slice_index q (n - 1) < slice_index shape (n - 1)
    back_below = let b = (below_along shape p inside).below (n - 1) (omega (arith, h.within)) in omega (arith, back_read)

    free_here : slice_index q (n - 1) + 1 < slice_index shape (n - 1) → IsFreeIn (box_at_origin shape) p (n - 1)
    free_here free =
        IsFreeIn-last (box_at_origin shape) p n (n - 1) (omega arith) (omega (arith, h.within, origin_long shape)) (same_long ∙ sym (origin_long shape))
        (omega (arith, back_read, zero_at (n - 1) (omega (arith, h.within)))) h.ended

    next_is : slice_set q (n - 1) (slice_index q (n - 1) + 1) ≡ next_of start p (n - 1)
    next_is =
        ap (λ v. slice_set q (n - 1) (v + 1)) back_read
        ∙ ap (λ (l : List ℕ). slice_set l (n - 1) (slice_index p (n - 1) + 1)) h.reset
        ∙ set-reset start p (n - 1) n (slice_index p (n - 1) + 1) is_next inside_p

    pub found_inside : slice_index q (n - 1) + 1 < slice_index shape (n - 1) → is_below shape (slice_set q (n - 1) (slice_index q (n - 1) + 1)) ≡ true
    found_inside free = ap (is_below shape) next_is ∙ holds-next (box_at_origin shape) p (n - 1) (origin_long shape) inside (free_here free)

    pub found_next : slice_index q (n - 1) + 1 < slice_index shape (n - 1) → place_in (box_at_origin shape) (slice_set q (n - 1) (slice_index q (n - 1) + 1)) ≡ place_in (box_at_origin shape) p + 1
    found_next free = ap (place_in (box_at_origin shape)) next_is ∙ place_in-next (box_at_origin shape) p (n - 1) (origin_long shape) inside (free_here free)

    pub back_more : slice_index shape (n - 1) ≤ slice_index q (n - 1) + 1 → IsBackFrom shape p (n - 1) (slice_set q (n - 1) 0)
    back_more last =
        let zero_is = zero_at (n - 1) (omega (arith, h.within)) in
        record {
          within = omega (arith, h.within);
          reset =
              ap (λ (l : List ℕ). slice_set l (n - 1) 0) h.reset
              ∙ set-reset start p (n - 1) n 0 is_next inside_p
              ∙ ap (λ v. take (n - 1) p ++ v ∷ drop (n - 1 + 1) start) (sym zero_is)
              ∙ reset_more start p (n - 1) (omega (arith, h.within, origin_long shape));
          ended = ended_more (box_at_origin shape) p n (n - 1) (omega arith) (omega (arith, h.within, origin_long shape)) (origin_long shape) inside (omega (arith, back_read, zero_is, last)) h.ended;
        }

  pub all_back : (n : ℕ) (q : List ℕ) → n ≡ 0 → IsBackFrom shape p n q → is_below shape q ≡ true
  all_back n q none h =
      ap (is_below shape) (h.reset ∙ ap (reset_from start p) none) ∙ holds_start (box_at_origin shape) p (origin_long shape) inside

  pub all_last : (n : ℕ) (q : List ℕ) → n ≡ 0 → IsBackFrom shape p n q → place_in (box_at_origin shape) p + 1 ≡ position_count shape
  all_last n q none h = place_in-last (box_at_origin shape) p (origin_long shape) inside (λ k below. h.ended k (omega arith) below)

  pub all_first : (n : ℕ) (q : List ℕ) → n ≡ 0 → IsBackFrom shape p n q → place_in (box_at_origin shape) q ≡ 0
  all_first n q none h =
      ap (place_in (box_at_origin shape)) (h.reset ∙ ap (reset_from start p) none) ∙ place-start (replicate (length shape) 0) shape (origin_long shape)

-- ---- a whole walk

pub next_then : (found : Bool) (old mid new : ℕ) → OnTrue found (mid ≡ old + 1) → mid ≤ new → OnTrue found (old < new)
next_then true old mid new is less = omega arith
next_then false old mid new is less = tt

pub passes_then : (shape whole : List ℕ) (found : Bool) (old mid new : ℕ) → OnTrue found (mid ≡ old + 1) → PassesBelow shape whole mid new → OnTrue found (PassesBelow shape whole (old + 1) new)
passes_then shape whole true old mid new is h = subst (λ n. PassesBelow shape whole n new) is h
passes_then shape whole false old mid new is h = tt

pub first_then : (shape whole : List ℕ) (found : Bool) (mid new : ℕ) → OnFalse found (mid ≡ 0) → PassesBelow shape whole mid new → OnFalse found (PassesBelow shape whole 0 new)
first_then shape whole true mid new is h = tt
first_then shape whole false mid new is h = subst (λ n. PassesBelow shape whole n new) is h

pub passes_nothing : (shape whole : List ℕ) (n : ℕ) → PassesBelow shape whole n n
passes_nothing shape whole n = λ position holds from upto. absurd (omega arith)

-- no position is past `whole`
pub passes_all : (shape whole : List ℕ) (n m : ℕ) → length whole ≡ length shape → ((k : ℕ) → slice_index shape k ≤ slice_index whole k) → PassesBelow shape whole n m
passes_all shape whole n m long more = λ position holds from upto. in_below whole position (wide_in shape whole position long more (below_in shape position holds))

-- there is no position
pub passes_empty : (shape whole : List ℕ) (n m : ℕ) → SomeIndex shape (λ k. slice_index shape k ≡ 0) → PassesBelow shape whole n m
passes_empty shape whole n m found = λ position holds from upto.
    let none = found.2 in
    let low = (below_along shape position holds).below found.0 found.1 in
    absurd (omega arith)

-- the first position
pub first_inside : (shape : List ℕ) → AllSome shape → is_below shape (replicate (length shape) 0) ≡ true
first_inside shape some = start_within_some (replicate (length shape) 0) shape (origin_long shape) some

pub first_number : (shape : List ℕ) → place_in (box_at_origin shape) (replicate (length shape) 0) ≡ 0
first_number shape = place-start (replicate (length shape) 0) shape (origin_long shape)

-- from the first position on
pub passes_first : (shape whole p : List ℕ) (n : ℕ) → p ≡ replicate (length shape) 0 → PassesBelow shape whole (place_in (box_at_origin shape) p) n → PassesBelow shape whole 0 n
passes_first shape whole p n is h = subst (λ m. PassesBelow shape whole m n) (ap (place_in (box_at_origin shape)) is ∙ first_number shape) h

-- ---- the chunks that lie below a shape

-- along the first n dimensions
pub record AreWholeTo (grid : Grid) (counts shape whole : List ℕ) (n : ℕ) : Type 0 where
  pub long : length whole ≡ n
  pub along : (k : ℕ) → k < n → AreWholeAlong (grid.axis k) (slice_index counts k) (slice_index shape k) (slice_index whole k)

whole_along : (axis : Axis) (o : Option ℕ) (count extent : ℕ) → IfSome o (λ number. Covers axis number extent) → IfNone o (axis.edge axis.count ≤ extent) → AreWholeAlong axis count extent (unwrap_or o count)
whole_along axis (Some number) count extent some none = inl some
whole_along axis None count extent some none = inr (none, refl)

whole_more : (grid : Grid) (counts shape whole : List ℕ) (n number : ℕ) → AreWholeTo grid counts shape whole n → AreWholeAlong (grid.axis n) (slice_index counts n) (slice_index shape n) number
    → AreWholeTo grid counts shape (whole ++ number ∷ []) (n + 1)
whole_more grid counts shape whole n number h here = record {
  long = length_push whole number ∙ ap (λ m. m + 1) h.long;
  along = λ k below. elim (cases_eq k n) [
    | inl same ↦
        let at : slice_index (whole ++ number ∷ []) k ≡ number = get_or_push whole number 0 k (h.long ∙ sym same) in
        subst (λ m. AreWholeAlong (grid.axis k) (slice_index counts k) (slice_index shape k) m) (sym at)
        (subst (λ m. AreWholeAlong (grid.axis m) (slice_index counts m) (slice_index shape m) number) (sym same) here)
    | inr other ↦
        let at : slice_index (whole ++ number ∷ []) k ≡ slice_index whole k = get_or_append_left whole (number ∷ []) 0 k (omega (arith, h.long)) in
        subst (λ m. AreWholeAlong (grid.axis k) (slice_index counts k) (slice_index shape k) m) (sym at) (h.along k (omega arith))
  ];
}

pub whole_next : (grid : Grid) (counts shape whole new : List ℕ) (n number : ℕ) (o : Option ℕ) → AreWholeTo grid counts shape whole n
    → IfSome o (λ first. Covers (grid.axis n) first (slice_index shape n)) → IfNone o ((grid.axis n).edge (grid.axis n).count ≤ slice_index shape n)
    → number ≡ unwrap_or o (slice_index counts n) → new ≡ whole ++ number ∷ [] → AreWholeTo grid counts shape new (n + 1)
whole_next grid counts shape whole new n number o h some none is made =
    let along = whole_along (grid.axis n) o (slice_index counts n) (slice_index shape n) some none in
    let here = subst (λ m. AreWholeAlong (grid.axis n) (slice_index counts n) (slice_index shape n) m) (sym is) along in
    subst (λ (l : List ℕ). AreWholeTo grid counts shape l (n + 1)) (sym made) (whole_more grid counts shape whole n number h here)

pub all_whole : (grid : Grid) (counts shape whole : List ℕ) (n : ℕ) → n ≡ grid.dimensions → AreWholeTo grid counts shape whole n → AreWhole grid counts shape whole
all_whole grid counts shape whole n all h = record { long = h.long ∙ all; along = λ k below. h.along k (omega arith) }

-- ---- chunks that are cut

module _ (grid : Grid) (lawful : IsGrid grid) (counts shape whole : List ℕ) (long : length shape ≡ grid.dimensions) (are : AreWhole grid counts shape whole) where
  ends_low : (index : List ℕ) → has_box grid index ≡ true → is_below whole index ≡ true → EndsTo grid shape index grid.dimensions
  ends_low index has low = λ k below.
      let there = (box_is_there grid index has).numbered k below in
      let b = (below_along whole index low).below k (omega (arith, are.long)) in
      elim (are.along k below) [
        | inl covers ↦
            let numbered = covers.numbered in
            let rise = edge_le (grid.axis k) (lawful k below) (slice_index index k + 1) (slice_index whole k) (omega arith) (omega arith) in
            let from = covers.from in
            omega arith
        | inr both ↦
            let past = both.0 in
            let rise = edge_le (grid.axis k) (lawful k below) (slice_index index k + 1) (grid.axis k).count (omega arith) (omega arith) in
            omega arith
      ]

  pub left_uncut : (index : List ℕ) → is_below whole index ≡ true → is_cut grid shape index ≡ false
  left_uncut index low = elim (cases_Bool (has_box grid index)) [
    | inr none ↦ ap (λ b. b && not (is_below shape (last_of (box_at grid index)))) none
    | inl has ↦
        let all = ends_all grid lawful shape index has long grid.dimensions (sym long) (ends_low index has low) in
        ap (λ b. b && not (is_below shape (last_of (box_at grid index)))) has ∙ ap not (sym all)
  ]

  pub others_cut : (index : List ℕ) → is_below counts index ≡ true → has_box grid index ≡ true → is_below whole index ≡ false → is_cut grid shape index ≡ true
  others_cut index inside has out = elim (cases_Bool (is_below shape (last_of (box_at grid index)))) [
    | inr past ↦ ap (λ b. b && not (is_below shape (last_of (box_at grid index)))) has ∙ ap not past
    | inl all ↦
        let there = box_is_there grid index has in
        let within = below_along counts index inside in
        absurd (false≢true (sym out ∙ along_below whole index (record {
          same_length = there.long ∙ sym are.long;
          below = λ k here.
              let below : k < grid.dimensions = omega (arith, are.long) in
              let low = (below_along shape (last_of (box_at grid index)) all).below k (omega (arith, long)) in
              let at = last_is grid lawful shape index has long k below in
              let numbered = there.numbered k below in
              elim (are.along k below) [
                | inl covers ↦
                    let past = covers.below in
                    let high : slice_index whole k ≤ slice_index index k → ⊥ = λ h.
                    let rise = edge_le (grid.axis k) (lawful k below) (slice_index whole k + 1) (slice_index index k + 1) (omega arith) (omega arith) in omega arith in
                    omega arith
                | inr both ↦
                    let is = both.1 in
                    let b = within.below k (omega (arith, there.long, within.same_length)) in
                    omega arith
              ];
        })))
  ]

-- no chunk of the array is cut
pub none_cut : (grid : Grid) → IsGrid grid → (extents old shape whole : List ℕ) → length shape ≡ grid.dimensions → extents ≡ grid.counts old → AreWhole grid extents shape whole
    → PassesBelow extents whole 0 (position_count extents) → HasNoCut grid old shape
none_cut grid lawful extents old shape whole long counted are passes = λ index inside.
    let within : is_below extents index ≡ true = subst (λ (counts : List ℕ). is_below counts index ≡ true) (sym counted) inside in
    left_uncut grid lawful extents shape whole long are index
    (passes index within (omega arith) (place_in_below (box_at_origin extents) index (origin_long extents) within))

-- a walk at the first of those that are cut
pub first_cut : (grid : Grid) → IsGrid grid → (extents old shape whole : List ℕ) (walk : CutWalk) → length shape ≡ grid.dimensions → extents ≡ grid.counts old → AreWhole grid extents shape whole
    → IsFirst extents whole walk → IsCutWalk grid old shape walk
first_cut grid lawful extents old shape whole walk long counted are first =
    let moved : AreWhole grid (grid.counts old) shape whole = subst (λ (counts : List ℕ). AreWhole grid counts shape whole) counted are in
    let given : AreWhole grid (grid.counts old) shape walk.whole.items = subst (λ (w : List ℕ). AreWhole grid (grid.counts old) shape w) (sym first.same_whole) moved in
    let passes : PassesBelow extents walk.whole.items 0 (place_in (box_at_origin walk.shape.items) walk.current.items) =
    subst (λ (w : List ℕ). PassesBelow extents w 0 (place_in (box_at_origin walk.shape.items) walk.current.items)) (sym first.same_whole) first.passes in
    record {
      same_box = first.same_box ∙ ap box_at_origin counted;
      dimensions = sym walk.same_length ∙ given.long;
      left_out = left_uncut grid lawful (grid.counts old) shape walk.whole.items long given;
      cut = others_cut grid lawful (grid.counts old) shape walk.whole.items long given;
      first = subst (λ (counts : List ℕ). PassesBelow counts walk.whole.items 0 (place_in (box_at_origin walk.shape.items) walk.current.items)) counted passes;
    }

-- what was made of these
module _ (grid : Grid) (lawful : IsGrid grid) (extents old shape whole : List ℕ) (long : length shape ≡ grid.dimensions) (counted : extents ≡ grid.counts old) (are : AreWhole grid extents shape whole) where
  pub walk_none : (o : Option CutWalk) → MatchOption o (PassesBelow extents whole 0 (position_count extents)) (IsFirst extents whole) → IfNone o (HasNoCut grid old shape)
  walk_none None h = none_cut grid lawful extents old shape whole long counted are h
  walk_none (Some walk) h = tt

  pub walk_some : (o : Option CutWalk) → MatchOption o (PassesBelow extents whole 0 (position_count extents)) (IsFirst extents whole) → IfSome o (IsCutWalk grid old shape)
  walk_some None h = tt
  walk_some (Some walk) h = first_cut grid lawful extents old shape whole walk long counted are h
