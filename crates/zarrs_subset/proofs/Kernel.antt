-- Lemmas of the copy of a box.
use Rattle.std.proofs.Common.{◌≡◌, ◌≢◌, ℕ, ◌+◌, ◌-◌, ◌*◌, ◌/◌, ◌<◌, ◌≤◌, true, false, nat_lt, nat_le, List, [], ◌∷◌}
use Rattle.std.proofs.Common.{length, get_or, slice_range, refl, sym, ap, ◌∙◌, arith, rules, inl, inr}
use Rattle.std.proofs.Math.Nat.{mul-le-mul_right, mul_assoc, mul_comm, mul-div_cancel_left, mul-div-le, add-mul}
use Rattle.std.proofs.lemmas.Nat.{mul-add-lt}
use Rattle.std.proofs.lemmas.List.{places, take_all, ext_get_or}
use Rattle.std.proofs.lemmas.Slice.{first_rest}
use Rattle.std.proofs.lemmas.Bool.{cases_order, cases_eq, cases_Bool, and_parts, and_cases, ltb-true, leb-true}
use Rattle.std.proofs.lemmas.Bool.{ltb-false, leb-false, cond-true, cond-false}
use Rattle.std.proofs.lemmas.Bool.Decides.{nat_tests}
use borrow.Rule.Slice.PartMut.{put_mid}
use Rattle.zarrs_subset.specs.Boxes.{position_count, InShape, place, BoxFits, in_range, is_within, moved}
use Rattle.zarrs_subset.specs.Pieces.{piece_at}
use Rattle.zarrs_subset.specs.Cells.{BoxCopied, CellsCopied}

-- ---- the first dimension of a box that fits

-- what a box with a first extent e and the others es says of its start and of the array's shape
pub record FirstFits (start shape : List ℕ) (e : ℕ) (es : List ℕ) : Type 0 where
  pub start_is : start ≡ get_or start 0 0 ∷ slice_range start 1 (length start)
  pub shape_is : shape ≡ get_or shape 0 0 ∷ slice_range shape 1 (length shape)
  pub start_some : 0 < length start
  pub shape_some : 0 < length shape
  pub first : get_or start 0 0 + e ≤ get_or shape 0 0
  pub inner : BoxFits (slice_range start 1 (length start)) es (slice_range shape 1 (length shape))

pub tail_is : (x : ℕ) (xs : List ℕ) → slice_range (x ∷ xs) 1 (length (x ∷ xs)) ≡ xs
tail_is x xs = take_all (length (x ∷ xs) - 1) xs (omega arith)

pub FirstFits-from : (start : List ℕ) (e : ℕ) (es shape : List ℕ) → BoxFits start (e ∷ es) shape → FirstFits start shape e es
FirstFits-from [] e es shape h = absurd h
FirstFits-from (s ∷ start) e es [] h = absurd h
FirstFits-from (s ∷ start) e es (n ∷ shape) h = record {
  start_is = first_rest (s ∷ start) 0 (omega arith);
  shape_is = first_rest (n ∷ shape) 0 (omega arith);
  start_some = omega arith;
  shape_some = omega arith;
  first = h.0;
  inner = rw (tail_is s start, tail_is n shape) h.1;
}

pub FirstFits-at : (start extents shape : List ℕ) → 0 < length extents → BoxFits start extents shape → FirstFits start shape (get_or extents 0 0) (slice_range extents 1 (length extents))
FirstFits-at start [] shape some h = absurd (omega arith)
FirstFits-at start (e ∷ es) shape some h = rw (tail_is e es) (FirstFits-from start e es shape h)

-- a box of no dimension lies in an array of no dimension
pub BoxFits-nil : (start extents shape : List ℕ) → length extents ≡ 0 → BoxFits start extents shape → (start ≡ []) × (shape ≡ [])
BoxFits-nil [] [] [] e h = (refl, refl)
BoxFits-nil [] [] (n ∷ shape) e h = absurd h
BoxFits-nil [] (x ∷ extents) shape e h = absurd (omega arith)
BoxFits-nil (s ∷ start) [] shape e h = absurd h
BoxFits-nil (s ∷ start) (x ∷ extents) shape e h = absurd (omega arith)

-- so it is one cell
pub one_cell : (start extents shape : List ℕ) (size len : ℕ) → length extents ≡ 0 → BoxFits start extents shape → len ≡ position_count shape * size → len ≡ size
one_cell start extents shape size len e h l = let none = BoxFits-nil start extents shape e h in l ∙ rw none.1 (omega arith)

-- the length of a block of the first dimension
pub block_is : (shape : List ℕ) (size len : ℕ) → 0 < get_or shape 0 0 → len ≡ position_count shape * size → len / get_or shape 0 0 ≡ position_count (slice_range shape 1 (length shape)) * size
block_is [] size len some h = absurd (omega arith)
block_is (n ∷ shape) size len some h = rw (tail_is n shape, h, mul_assoc n (position_count shape) size) (mul-div_cancel_left (position_count shape * size) some)

-- the rows of a box that fits end within the array
pub rows_within : (s e n len : ℕ) → s + e ≤ n → s * (len / n) + e * (len / n) ≤ len
rows_within s e n len h = omega (arith, mul-le-mul_right (len / n) h, mul-div-le len n)

-- a row of a box that fits ends within the array
pub row_room : (start extents shape : List ℕ) (size len : ℕ) → length extents ≡ 1 → BoxFits start extents shape → len ≡ position_count shape * size → get_or start 0 0 * size + get_or extents 0 0 * size ≤ len
row_room start [] shape size len one h l = absurd (omega arith)
row_room [] (e ∷ []) shape size len one h l = absurd h
row_room (s ∷ start) (e ∷ []) [] size len one h l = absurd h
row_room (s ∷ start) (e ∷ []) (n ∷ shape) size len one h l =
    let none = BoxFits-nil start [] shape refl h.1 in
    let whole : len ≡ n * 1 * size = rw none.1 at l in
    omega (arith, mul-le-mul_right size h.0, whole)
row_room start (e ∷ x ∷ extents) shape size len one h l = absurd (omega arith)

-- ---- places

pub place_below : (shape p : List ℕ) → InShape shape p → place shape p < position_count shape
place_below [] [] h = omega arith
place_below [] (i ∷ p) h = absurd h
place_below (n ∷ shape) [] h = absurd h
place_below (n ∷ shape) (i ∷ p) h = let below = place_below shape p h.1 in
    omega (arith, mul-add-lt i (position_count shape) (place shape p) n h.0 below, mul_comm n (position_count shape))

-- a position of the box, moved to another array where the box fits, is a position there
pub moved_in : (start to extents shape p target : List ℕ) → InShape target p → BoxFits start extents target → BoxFits to extents shape → is_within start extents p ≡ true → InShape shape (moved start to p)
moved_in [] [] [] [] p target i f g h = tt
moved_in [] [] [] (n ∷ shape) p target i f g h = absurd g
moved_in [] [] (e ∷ extents) shape p target i f g h = absurd g
moved_in [] (t ∷ to) [] shape p target i f g h = absurd g
moved_in [] (t ∷ to) (e ∷ extents) shape p target i f g h = absurd f
moved_in (s ∷ start) to [] shape p target i f g h = absurd f
moved_in (s ∷ start) [] (e ∷ extents) shape p target i f g h = absurd g
moved_in (s ∷ start) (t ∷ to) (e ∷ extents) [] p target i f g h = absurd g
moved_in (s ∷ start) (t ∷ to) (e ∷ extents) (n ∷ shape) p [] i f g h = absurd f
moved_in (s ∷ start) (t ∷ to) (e ∷ extents) (n ∷ shape) [] (m ∷ target) i f g h = absurd i
moved_in (s ∷ start) (t ∷ to) (e ∷ extents) (n ∷ shape) (j ∷ p) (m ∷ target) i f g h =
    let parts = and_parts (in_range s e j) (is_within start extents p) h in
    let tests = and_parts (nat_le s j) (nat_lt j (s + e)) parts.0 in
    let low : s ≤ j = leb-true s j tests.0 in
    let high : j < s + e = ltb-true j (s + e) tests.1 in
    let room : t + e ≤ n = g.0 in
    (omega arith, moved_in start to extents shape p target i.1 f.1 g.1 parts.1)

-- ---- reads after a write to a part

pub get_or-put_mid_inside : (a k r : ℕ) (xs ys : List ℕ) → a + k ≤ length xs → length ys ≡ k → r < k → get_or (put_mid a k xs ys) (a + r) 0 ≡ get_or ys r 0
get_or-put_mid_inside a k r xs ys h l b = search (rules, places)

pub get_or-put_mid_below : (a k n : ℕ) (xs ys : List ℕ) → a + k ≤ length xs → length ys ≡ k → n < a → get_or (put_mid a k xs ys) n 0 ≡ get_or xs n 0
get_or-put_mid_below a k n xs ys h l b = search (rules, places)

pub get_or-put_mid_above : (a k n : ℕ) (xs ys : List ℕ) → a + k ≤ length xs → length ys ≡ k → a + k ≤ n → get_or (put_mid a k xs ys) n 0 ≡ get_or xs n 0
get_or-put_mid_above a k n xs ys h l b = search (rules, places)

pub get_or-part : (a e r : ℕ) (xs : List ℕ) → a + r < e → get_or (slice_range xs a e) r 0 ≡ get_or xs (a + r) 0
get_or-part a e r xs b = search (rules, places)

-- ---- cells in blocks of one size

-- byte k of cell q of block i, where a block has c cells
pub in_block : (i c q size k : ℕ) → (i * c + q) * size + k ≡ i * (c * size) + (q * size + k)
in_block i c q size k = omega arith

-- it lies in its block
pub below_block : (c q size k : ℕ) → q < c → k < size → q * size + k < c * size
below_block c q size k h l = omega (arith, mul-add-lt q size k c h l, mul_comm size c)

pub block_order : (i j b : ℕ) → i < j → i * b + b ≤ j * b
block_order i j b h = omega (arith, mul-le-mul_right b h)

-- ---- one more row

in_range-more : (s row i : ℕ) → i ≢ s + row → in_range s (row + 1) i ≡ in_range s row i
in_range-more s row i h = grind (arith, nat_tests)

in_range-last : (s row i : ℕ) → i ≡ s + row → (in_range s (row + 1) i ≡ true) × (in_range s row i ≡ false) × (i - s ≡ row)
in_range-last s row i h = (grind (arith, nat_tests), grind (arith, nat_tests), omega arith)

-- a place outside block j of `mid` reads the same after a write to that block
pub other_block : (i j b idx w : ℕ) (mid sub : List ℕ) → i ≢ j → idx < b → w ≡ j * b → w + b ≤ length mid → length sub ≡ b → get_or (put_mid w b mid sub) (i * b + idx) 0 ≡ get_or mid (i * b + idx) 0
other_block i j b idx w mid sub ne within at room len =
    elim (cases_order i j) [
      | inl e ↦ absurd (ne e)
      | inr o ↦ elim o [
        | inl lt ↦ let order = block_order i j b lt in get_or-put_mid_below w b (i * b + idx) mid sub room len (omega arith)
        | inr gt ↦ let order = block_order j i b gt in get_or-put_mid_above w b (i * b + idx) mid sub room len (omega arith)
      ]
    ]

-- the first `row` rows of the box are copied to `mid`, and the next one, a box of one dimension less, to `sub`
pub BoxCopied-more : (size n f m t row : ℕ) (S F T U es from old mid sub : List ℕ) (r w sb tb : ℕ)
    → BoxFits F es S → BoxFits U es T
    → sb ≡ position_count S * size → tb ≡ position_count T * size
    → r ≡ (f + row) * sb → w ≡ (t + row) * tb → w + tb ≤ length mid → length sub ≡ tb
    → BoxCopied size (n ∷ S) (f ∷ F) (m ∷ T) (t ∷ U) (row ∷ es) from old mid
    → BoxCopied size S F T U es (slice_range from r (r + sb)) (slice_range mid w (w + tb)) sub
    → BoxCopied size (n ∷ S) (f ∷ F) (m ∷ T) (t ∷ U) ((row + 1) ∷ es) from old (put_mid w tb mid sub)
BoxCopied-more size n f m t row S F T U es from old mid sub r w sb tb fitsS fitsT sbIs tbIs rIs wIs room len more call [] k inside below = absurd inside
BoxCopied-more size n f m t row S F T U es from old mid sub r w sb tb fitsS fitsT sbIs tbIs rIs wIs room len more call (i ∷ p) k inside below =
    let idx = place T p * size + k in
    let within : idx < tb = omega (arith, below_block (position_count T) (place T p) size k (place_below T p inside.1) below) in
    let at : (i * position_count T + place T p) * size + k ≡ i * tb + idx = rw tbIs (in_block i (position_count T) (place T p) size k) in
    let kept = more (i ∷ p) k inside below in
    elim (cases_eq i (t + row)) [
      | inl same ↦
          let range = in_range-last t row i same in
          let there : i * tb + idx ≡ w + idx = rw same (omega arith) in
          let read = get_or-put_mid_inside w tb idx mid sub room len within in
          let moves = call p k inside.1 below in
          elim (cases_Bool (is_within U es p)) [
            | inl hit ↦
                let q = place S (moved U F p) in
                let short : q * size + k < sb = omega (arith, below_block (position_count S) q size k (place_below S (moved U F p) (moved_in U F es S p T inside.1 fitsT fitsS hit)) below) in
                let cell : r + (q * size + k) ≡ ((f + (i - t)) * position_count S + q) * size + k = sym (in_block (f + (i - t)) (position_count S) q size k ∙ ap (λ x. x + (q * size + k)) (ap (λ x. (f + x) * (position_count S * size)) range.2 ∙ ap (λ x. (f + row) * x) (sym sbIs) ∙ sym rIs)) in
                let part = get_or-part r (r + sb) (q * size + k) from (omega arith) in
                rw (range.0, hit) (ap (λ x. get_or (put_mid w tb mid sub) x 0) (at ∙ there) ∙ read ∙ moves ∙ cond-true _ _ _ hit ∙ part ∙ ap (λ x. get_or from x 0) cell)
            | inr miss ↦
                let part = get_or-part w (w + tb) idx mid (omega arith) in
                rw (range.0, miss) (ap (λ x. get_or (put_mid w tb mid sub) x 0) (at ∙ there) ∙ read ∙ moves ∙ cond-false _ _ _ miss ∙ part ∙ ap (λ x. get_or mid x 0) (sym (at ∙ there)) ∙ (rw range.1 at kept))
          ]
      | inr other ↦
          let range = in_range-more t row i other in
          let read = other_block i (t + row) tb idx w mid sub other within wIs room len in
          rw range (ap (λ x. get_or (put_mid w tb mid sub) x 0) at ∙ read ∙ ap (λ x. get_or mid x 0) (sym at) ∙ kept)
    ]

-- ---- the copy, at its ends

pub BoxCopied-none : (size : ℕ) (S F T U es from old : List ℕ) → length es ≡ 0 → BoxFits F es S → BoxFits U es T → BoxCopied size S F T U es from old from
BoxCopied-none size S F T U es from old e fitsS fitsT =
    let none = BoxFits-nil F es S e fitsS in
    let none' = BoxFits-nil U es T e fitsT in
    rw (none.0, none.1, none'.0, none'.1) (whole size es from old)
  where
    whole : (size : ℕ) (es from old : List ℕ) → BoxCopied size [] [] [] [] es from old from
    whole size es from old [] k inside below = refl
    whole size es from old (i ∷ p) k inside below = absurd inside

pub BoxCopied-empty : (size : ℕ) (S F T U es from old : List ℕ) → 0 < length es → get_or es 0 0 ≡ 0 → BoxFits U es T → BoxCopied size S F T U es from old old
BoxCopied-empty size S F T U [] from old some zero_rows fits p k inside below = absurd (omega arith)
BoxCopied-empty size S F [] U (e ∷ es) from old some zero_rows fits p k inside below = absurd (omega (arith, (FirstFits-from U e es [] fits).shape_some))
BoxCopied-empty size S F (n ∷ T) [] (e ∷ es) from old some zero_rows fits p k inside below = absurd fits
BoxCopied-empty size S F (n ∷ T) (t ∷ U) (e ∷ es) from old some zero_rows fits [] k inside below = absurd inside
BoxCopied-empty size S F (n ∷ T) (t ∷ U) (e ∷ es) from old some zero_rows fits (i ∷ p) k inside below =
    let out : in_range t e i ≡ false = grind (arith, nat_tests) in
    rw out refl

-- one step of the copy, for lists that are not written out
pub BoxCopied-step : (size row e : ℕ) (S F T U es from old mid sub : List ℕ) (r w sb tb wk : ℕ)
    → FirstFits F S e es → FirstFits U T e es
    → sb ≡ position_count (slice_range S 1 (length S)) * size → tb ≡ position_count (slice_range T 1 (length T)) * size
    → r ≡ (get_or F 0 0 + row) * sb → w ≡ (get_or U 0 0 + row) * tb → wk ≡ tb → w + tb ≤ length mid → length sub ≡ tb
    → BoxCopied size S F T U (row ∷ es) from old mid
    → BoxCopied size (slice_range S 1 (length S)) (slice_range F 1 (length F)) (slice_range T 1 (length T)) (slice_range U 1 (length U)) es (slice_range from r (r + sb)) (slice_range mid w (w + tb)) sub
    → BoxCopied size S F T U ((row + 1) ∷ es) from old (put_mid w wk mid sub)
BoxCopied-step size row e [] F T U es from old mid sub r w sb tb wk fitsS fitsT sbIs tbIs rIs wIs kIs room len more call = absurd (omega (arith, fitsS.shape_some))
BoxCopied-step size row e (n ∷ S) [] T U es from old mid sub r w sb tb wk fitsS fitsT sbIs tbIs rIs wIs kIs room len more call = absurd (omega (arith, fitsS.start_some))
BoxCopied-step size row e (n ∷ S) (f ∷ F) [] U es from old mid sub r w sb tb wk fitsS fitsT sbIs tbIs rIs wIs kIs room len more call = absurd (omega (arith, fitsT.shape_some))
BoxCopied-step size row e (n ∷ S) (f ∷ F) (m ∷ T) [] es from old mid sub r w sb tb wk fitsS fitsT sbIs tbIs rIs wIs kIs room len more call = absurd (omega (arith, fitsT.start_some))
BoxCopied-step size row e (n ∷ S) (f ∷ F) (m ∷ T) (t ∷ U) es from old mid sub r w sb tb wk fitsS fitsT sbIs tbIs rIs wIs kIs room len more call =
    rw kIs (BoxCopied-more size n f m t row S F T U es from old mid sub r w sb tb
    (rw (tail_is n S, tail_is f F) at fitsS.inner) (rw (tail_is m T, tail_is t U) at fitsT.inner)
    (rw (tail_is n S) at sbIs) (rw (tail_is m T) at tbIs) rIs wIs room len more
    (rw (tail_is n S, tail_is f F, tail_is m T, tail_is t U) at call))

-- ---- the copy of one row: a box of one dimension

pub row_hit : (size f t x i k r w len : ℕ) (from old part : List ℕ) → k < size → in_range t x i ≡ true
    → r ≡ f * size → w ≡ t * size → len ≡ x * size → w + len ≤ length old → part ≡ slice_range from r (r + len) → length part ≡ len
    → get_or (put_mid w len old part) (i * size + k) 0 ≡ get_or from ((f + (i - t)) * size + k) 0
row_hit size f t x i k r w len from old part below hit rIs wIs lenIs room partIs partLen =
    let tests = and_parts (nat_le t i) (nat_lt i (t + x)) hit in
    let low : t ≤ i = leb-true t i tests.0 in
    let high : i < t + x = ltb-true i (t + x) tests.1 in
    let j = i - t in
    let within : j * size + k < len = omega (arith, below_block x j size k (omega arith) below) in
    let sum : t + j ≡ i = omega arith in
    let at : i * size + k ≡ w + (j * size + k) = omega (arith, add-mul t j size, ap (λ v. v * size) sum) in
    let cell : r + (j * size + k) ≡ (f + j) * size + k = omega (arith, add-mul f j size) in
    ap (λ v. get_or (put_mid w len old part) v 0) at
    ∙ get_or-put_mid_inside w len (j * size + k) old part room partLen within
    ∙ ap (λ v. get_or v (j * size + k) 0) partIs
    ∙ get_or-part r (r + len) (j * size + k) from (omega arith)
    ∙ ap (λ v. get_or from v 0) cell

pub row_miss : (size t x i k w len : ℕ) (old part : List ℕ) → k < size → in_range t x i ≡ false
    → w ≡ t * size → len ≡ x * size → w + len ≤ length old → length part ≡ len
    → get_or (put_mid w len old part) (i * size + k) 0 ≡ get_or old (i * size + k) 0
row_miss size t x i k w len old part below miss wIs lenIs room partLen =
    elim (and_cases (nat_le t i) (nat_lt i (t + x)) miss) [
      | inl low ↦
          let before : i < t = leb-false t i low in
          get_or-put_mid_below w len (i * size + k) old part room partLen (omega (arith, block_order i t size before))
      | inr high ↦
          let after : t + x ≤ i = ltb-false i (t + x) high in
          get_or-put_mid_above w len (i * size + k) old part room partLen (omega (arith, mul-le-mul_right size after, add-mul t x size))
    ]

flat : (size n f m t x r w len : ℕ) (from old part : List ℕ)
    → r ≡ f * size → w ≡ t * size → len ≡ x * size → w + len ≤ length old → part ≡ slice_range from r (r + len) → length part ≡ len
    → BoxCopied size (n ∷ []) (f ∷ []) (m ∷ []) (t ∷ []) (x ∷ []) from old (put_mid w len old part)
flat size n f m t x r w len from old part rIs wIs lenIs room partIs partLen [] k inside below = absurd inside
flat size n f m t x r w len from old part rIs wIs lenIs room partIs partLen (i ∷ j ∷ p) k inside below = absurd inside.1
flat size n f m t x r w len from old part rIs wIs lenIs room partIs partLen (i ∷ []) k inside below =
    let one : (q : ℕ) → q * 1 + 0 ≡ q = λ q. omega arith in
    elim (cases_Bool (in_range t x i)) [
      | inl hit ↦ rw (hit, one i, one (f + (i - t))) (row_hit size f t x i k r w len from old part below hit rIs wIs lenIs room partIs partLen)
      | inr miss ↦ rw (miss, one i) (row_miss size t x i k w len old part below miss wIs lenIs room partLen)
    ]

pub BoxCopied-row : (size e : ℕ) (S F T U es from old part : List ℕ) (r w len wk : ℕ)
    → length es ≡ 1 → e ≡ get_or es 0 0 → BoxFits F es S → BoxFits U es T
    → r ≡ get_or F 0 0 * size → w ≡ get_or U 0 0 * size → len ≡ e * size → wk ≡ len → w + len ≤ length old
    → part ≡ slice_range from r (r + len) → length part ≡ len
    → BoxCopied size S F T U es from old (put_mid w wk old part)
BoxCopied-row size e S F T U [] from old part r w len wk one eIs fitsS fitsT rIs wIs lenIs kIs room partIs partLen = absurd (omega arith)
BoxCopied-row size e S F T U (x ∷ y ∷ es) from old part r w len wk one eIs fitsS fitsT rIs wIs lenIs kIs room partIs partLen = absurd (omega arith)
BoxCopied-row size e [] F T U (x ∷ []) from old part r w len wk one eIs fitsS fitsT rIs wIs lenIs kIs room partIs partLen = absurd (omega (arith, (FirstFits-from F x [] [] fitsS).shape_some))
BoxCopied-row size e (n ∷ S) [] T U (x ∷ []) from old part r w len wk one eIs fitsS fitsT rIs wIs lenIs kIs room partIs partLen = absurd fitsS
BoxCopied-row size e (n ∷ S) (f ∷ F) [] U (x ∷ []) from old part r w len wk one eIs fitsS fitsT rIs wIs lenIs kIs room partIs partLen = absurd (omega (arith, (FirstFits-from U x [] [] fitsT).shape_some))
BoxCopied-row size e (n ∷ S) (f ∷ F) (m ∷ T) [] (x ∷ []) from old part r w len wk one eIs fitsS fitsT rIs wIs lenIs kIs room partIs partLen = absurd fitsT
BoxCopied-row size e (n ∷ S) (f ∷ F) (m ∷ T) (t ∷ U) (x ∷ []) from old part r w len wk one eIs fitsS fitsT rIs wIs lenIs kIs room partIs partLen =
    let noneS = BoxFits-nil F [] S refl fitsS.1 in
    let noneT = BoxFits-nil U [] T refl fitsT.1 in
    rw (kIs, noneS.0, noneS.1, noneT.0, noneT.1)
    (flat size n f m t x r w len from old part rIs wIs (rw eIs at lenIs) room partIs partLen)

pub length_part : (w b : ℕ) (xs : List ℕ) → w + b ≤ length xs → length (slice_range xs w (w + b)) ≡ b
length_part w b xs h = search (rules, places)

-- ---- from bytes to cells

pub cell_ends : (size k c len : ℕ) → k < c → len ≡ c * size → k * size + size ≤ len
cell_ends size k c len below is = omega (arith, block_order k c size below)

pub piece_at-same : (size a b : ℕ) (xs ys : List ℕ) → a * size + size ≤ length xs → b * size + size ≤ length ys
    → ((k : ℕ) → k < size → get_or xs (a * size + k) 0 ≡ get_or ys (b * size + k) 0) → piece_at size xs a ≡ piece_at size ys b
piece_at-same size a b xs ys roomA roomB same =
    let lenA = length_part (a * size) size xs roomA in
    let lenB = length_part (b * size) size ys roomB in
    ext_get_or 0 (piece_at size xs a) (piece_at size ys b) (lenA ∙ sym lenB)
    (λ k h. let below : k < size = omega arith in
    get_or-part (a * size) (a * size + size) k xs (omega arith) ∙ same k below ∙ sym (get_or-part (b * size) (b * size + size) k ys (omega arith)))

pub CellsCopied-from : (size : ℕ) (S F T U es from old new : List ℕ) → BoxFits F es S → BoxFits U es T
    → length from ≡ position_count S * size → length old ≡ position_count T * size → length new ≡ length old
    → BoxCopied size S F T U es from old new → CellsCopied size S F T U es from old new
CellsCopied-from size S F T U es from old new fitsS fitsT lenFrom lenOld lenNew copied = λ p inside.
    let at = place T p in
    let room = cell_ends size at (position_count T) (length old) (place_below T p inside) lenOld in
    let roomNew : at * size + size ≤ length new = omega arith in
    let source = place S (moved U F p) in
    elim (cases_Bool (is_within U es p)) [
      | inl hit ↦
          let roomFrom = cell_ends size source (position_count S) (length from) (place_below S (moved U F p) (moved_in U F es S p T inside fitsT fitsS hit)) lenFrom in
          rw hit (piece_at-same size at source new from roomNew roomFrom (λ k below. rw hit at (copied p k inside below)))
      | inr miss ↦ rw miss (piece_at-same size at at new old roomNew room (λ k below. rw miss at (copied p k inside below)))
    ]
