-- A box as rows: what lies together in the parent, row after row.
use Rattle.std.proofs.Common.{◌≡◌, ◌≢◌, ℕ, zero, suc, ◌+◌, ◌-◌, ◌*◌, ◌<◌, ◌≤◌, true, false, cond, ◌&&◌, ◌==◌, nat_le, nat_lt, List, [], ◌∷◌, length, take, drop, get_or, slice_index, inl, inr, ◌⊎◌, refl, sym, ap, ◌∙◌, arith, rules}
use Rattle.std.specs.List.{copy_within, prefix_len, repeat}
use Rattle.std.proofs.Math.Nat.{add-mul, mul-le-mul_left, mul-le-mul_right, mul_assoc}
use Rattle.std.proofs.Math.Seq.{paste}
use Rattle.std.proofs.lemmas.Bool.{and_parts, and_from, cases_Bool, cases_eq, cases_lt, cases_order, cond-true, cond-false, false≢true, eqb-true, le-leb, lt-ltb, leb-true, ltb-true}
use Rattle.std.proofs.lemmas.Bool.Decides.{nat_tests}
use Rattle.std.proofs.lemmas.List.{get_or-replicate, get_or-take, places}
use Rattle.std.proofs.lemmas.List.Sums.{prefix_len-le-length, prefix_len_passes}
use Rattle.std.proofs.lemmas.List.FromFn.{get_or-map-range_with_len}
use Rattle.std.proofs.lemmas.Slice.{between-put_mid, between_is, overwrites, take-put_mid_below}
use borrow.Rule.Slice.PartMut.{put_mid}
use Rattle.zarrs_subset.specs.Boxes.{position_count, InShape, place, BoxFits, in_range, is_within}
use Rattle.zarrs_subset.specs.Pieces.{piece_at}
use Rattle.zarrs_subset.specs.Regions.{Box, IsLong, box_at_origin, in_box, place_in}
use Rattle.zarrs_subset.proofs.Kernel.{block_order, cell_ends, get_or-put_mid_above, get_or-put_mid_below, get_or-put_mid_inside, piece_at-same, place_below}
use Rattle.zarrs_subset.proofs.Bytes.{place_in_below}
use Rattle.zarrs_data_type_bytes.specs.Parts.{TakesAt}
use Rattle.zarrs_data_type_bytes.proofs.Pieces.{length-repeat, pieces-repeat}
use Rattle.zarrs_data_type_region.specs.Targets.{IsFilledBox}
use Rattle.zarrs_data_type_region.proofs.Copies.{in_parent, place_in_parent}

-- ---- one row: a box whose dimensions behind the first are whole

whole_within : (start shape p : List ℕ) → BoxFits start shape shape → InShape shape p → is_within start shape p ≡ true
whole_within [] [] [] fits inside = refl
whole_within [] [] (i ∷ p) fits inside = absurd inside
whole_within [] (n ∷ shape) p fits inside = absurd fits
whole_within (s ∷ start) [] p fits inside = absurd fits
whole_within (s ∷ start) (n ∷ shape) [] fits inside = absurd inside
whole_within (s ∷ start) (n ∷ shape) (i ∷ p) fits inside =
    let here : in_range s n i ≡ true = in_all s n i fits.0 inside.0 in
    and_from (in_range s n i) (is_within start shape p) here (whole_within start shape p fits.1 inside.1)
  where
    in_all : (s n i : ℕ) → s + n ≤ n → i < n → in_range s n i ≡ true
    in_all s n i low below = grind (arith, nat_tests)

whole_start : (start shape : List ℕ) → BoxFits start shape shape → place shape start ≡ 0
whole_start [] [] fits = refl
whole_start [] (n ∷ shape) fits = absurd fits
whole_start (s ∷ start) [] fits = absurd fits
whole_start (s ∷ start) (n ∷ shape) fits =
    let first : s ≡ 0 = (let room : s + n ≤ n = fits.0 in omega arith) in
    rw first (omega (arith, whole_start start shape fits.1))

-- where the row begins in its block, and its length
pub row_from : (start extents shape p : List ℕ) → BoxFits start extents shape → drop 1 shape ≡ drop 1 extents → InShape shape p → is_within start extents p ≡ true
    → (place shape start ≤ place shape p) × (place shape p < place shape start + position_count extents)
row_from [] [] [] [] fits whole inside within = (omega arith, omega arith)
row_from [] [] [] (i ∷ p) fits whole inside within = absurd inside
row_from [] [] (n ∷ shape) p fits whole inside within = absurd fits
row_from [] (e ∷ extents) shape p fits whole inside within = absurd fits
row_from (s ∷ start) [] shape p fits whole inside within = absurd fits
row_from (s ∷ start) (e ∷ extents) [] p fits whole inside within = absurd fits
row_from (s ∷ start) (e ∷ extents) (n ∷ shape) [] fits whole inside within = absurd inside
row_from (s ∷ start) (e ∷ extents) (n ∷ shape) (i ∷ p) fits whole inside within =
    let same : shape ≡ extents = whole in
    let c = position_count shape in
    let count : position_count extents ≡ c = ap position_count (sym same) in
    let parts = and_parts (in_range s e i) (is_within start extents p) within in
    let tests = and_parts (nat_le s i) (nat_lt i (s + e)) parts.0 in
    let low : s ≤ i = leb-true s i tests.0 in
    let high : i < s + e = ltb-true i (s + e) tests.1 in
    let below = place_below shape p inside.1 in
    let none : place shape start ≡ 0 = whole_start start shape (rw (sym same) at fits.1) in (
      omega (arith, mul-le-mul_right c low, none),
      omega (arith, block_order i (s + e) c high, add-mul s e c, ap (λ v. e * v) count, none, below),
    )

pub row_back : (start extents shape p : List ℕ) → BoxFits start extents shape → drop 1 shape ≡ drop 1 extents → InShape shape p
    → place shape start ≤ place shape p → place shape p < place shape start + position_count extents → is_within start extents p ≡ true
row_back [] [] [] [] fits whole inside low high = refl
row_back [] [] [] (i ∷ p) fits whole inside low high = absurd inside
row_back [] [] (n ∷ shape) p fits whole inside low high = absurd fits
row_back [] (e ∷ extents) shape p fits whole inside low high = absurd fits
row_back (s ∷ start) [] shape p fits whole inside low high = absurd fits
row_back (s ∷ start) (e ∷ extents) [] p fits whole inside low high = absurd fits
row_back (s ∷ start) (e ∷ extents) (n ∷ shape) [] fits whole inside low high = absurd inside
row_back (s ∷ start) (e ∷ extents) (n ∷ shape) (i ∷ p) fits whole inside low high =
    let same : shape ≡ extents = whole in
    let c = position_count shape in
    let count : position_count extents ≡ c = ap position_count (sym same) in
    let below = place_below shape p inside.1 in
    let none : place shape start ≡ 0 = whole_start start shape (rw (sym same) at fits.1) in
    let first : s ≤ i = elim (cases_lt i s) [
      | inl before ↦ absurd (omega (arith, block_order i s c before, none, below))
      | inr there ↦ there
    ] in
    let last : i < s + e = elim (cases_lt i (s + e)) [
      | inl there ↦ there
      | inr past ↦ absurd (omega (arith, mul-le-mul_right c past, add-mul s e c, ap (λ v. e * v) count, none))
    ] in
    and_from (in_range s e i) (is_within start extents p)
    (and_from (nat_le s i) (nat_lt i (s + e)) (le-leb s i first) (lt-ltb i (s + e) last))
    (whole_within start extents p (rw same at fits.1) (rw same at inside.1))

-- the row ends within its block
pub row_ends : (start extents shape : List ℕ) → BoxFits start extents shape → drop 1 shape ≡ drop 1 extents → place shape start + position_count extents ≤ position_count shape
row_ends [] [] [] fits whole = omega arith
row_ends [] [] (n ∷ shape) fits whole = absurd fits
row_ends [] (e ∷ extents) shape fits whole = absurd fits
row_ends (s ∷ start) [] shape fits whole = absurd fits
row_ends (s ∷ start) (e ∷ extents) [] fits whole = absurd fits
row_ends (s ∷ start) (e ∷ extents) (n ∷ shape) fits whole =
    let same : shape ≡ extents = whole in
    let c = position_count shape in
    let count : position_count extents ≡ c = ap position_count (sym same) in
    let none : place shape start ≡ 0 = whole_start start shape (rw (sym same) at fits.1) in
    omega (arith, mul-le-mul_right c fits.0, add-mul s e c, ap (λ v. e * v) count, none)

-- ---- pieces of a list that is written over

pub length_put : (w k : ℕ) (xs ys : List ℕ) → w + k ≤ length xs → length ys ≡ k → length (put_mid w k xs ys) ≡ length xs
length_put w k xs ys room long = search (rules, places)

pub piece_inside : (size first len j w : ℕ) (xs ys : List ℕ) → w ≡ first * size → w + len * size ≤ length xs → length ys ≡ len * size → j < len
    → piece_at size (put_mid w (len * size) xs ys) (first + j) ≡ piece_at size ys j
piece_inside size first len j w xs ys begin room long below =
    let all = put_mid w (len * size) xs ys in
    let ends = cell_ends size j len (len * size) below refl in
    let sum : (first + j) * size ≡ w + j * size = omega (arith, add-mul first j size) in
    piece_at-same size (first + j) j all ys (omega (arith, length_put w (len * size) xs ys room long)) (omega arith) (λ b lt.
    let inside : j * size + b < len * size = omega arith in
    let at : (first + j) * size + b ≡ w + (j * size + b) = omega arith in
    ap (λ n. get_or all n 0) at ∙ get_or-put_mid_inside w (len * size) (j * size + b) xs ys room long inside)

pub piece_outside : (size first len c w : ℕ) (xs ys : List ℕ) → w ≡ first * size → w + len * size ≤ length xs → length ys ≡ len * size → c * size + size ≤ length xs
    → (c < first) ⊎ (first + len ≤ c) → piece_at size (put_mid w (len * size) xs ys) c ≡ piece_at size xs c
piece_outside size first len c w xs ys begin room long ends (inl before) =
    let order = block_order c first size before in
    piece_at-same size c c (put_mid w (len * size) xs ys) xs (omega (arith, length_put w (len * size) xs ys room long)) ends
    (λ b lt. get_or-put_mid_below w (len * size) (c * size + b) xs ys room long (omega arith))
piece_outside size first len c w xs ys begin room long ends (inr past) =
    let order : (first + len) * size ≤ c * size = mul-le-mul_right size past in
    piece_at-same size c c (put_mid w (len * size) xs ys) xs (omega (arith, length_put w (len * size) xs ys room long)) ends
    (λ b lt. get_or-put_mid_above w (len * size) (c * size + b) xs ys room long (omega (arith, add-mul first len size)))

-- a piece of a part
piece_part : (size first len j w wk : ℕ) (xs : List ℕ) → w ≡ first * size → wk ≡ len * size → w + wk ≤ length xs → j < len → piece_at size (take wk (drop w xs)) j ≡ piece_at size xs (first + j)
piece_part size first len j w wk xs begin count room below =
    let part_len : length (take wk (drop w xs)) ≡ wk = search (rules, places) in
    let ends = cell_ends size j len wk below count in
    let sum : (first + j) * size ≡ w + j * size = omega (arith, add-mul first j size) in
    piece_at-same size j (first + j) (take wk (drop w xs)) xs (omega (arith, part_len)) (omega arith) (λ b lt.
    let inside : j * size + b < wk = omega arith in
    let at : w + (j * size + b) ≡ (first + j) * size + b = omega arith in
    part_at w wk (j * size + b) xs inside ∙ ap (λ n. get_or xs n 0) at)
  where
    part_at : (a k r : ℕ) (xs : List ℕ) → r < k → get_or (take k (drop a xs)) r 0 ≡ get_or xs (a + r) 0
    part_at a k r xs below = search (rules, places)

-- each of the pieces of a piece that is repeated
pub repeat_piece : (p : List ℕ) (n i : ℕ) → i < n → piece_at (length p) (repeat n p) i ≡ p
repeat_piece p n i below =
    sym (get_or-map-range_with_len (piece_at (length p) (repeat n p)) 0 n i i [] below (omega arith))
    ∙ ap (λ l. get_or l i []) (pieces-repeat p n)
    ∙ get_or-replicate n i p [] below

-- ---- one row of an array

-- a row that is written: the piece at `c`, which lies as far from the row's first piece as the position from the start
row_piece : (first c w wk : ℕ) (shape start extents piece mid sub p : List ℕ) → BoxFits start extents shape → drop 1 shape ≡ drop 1 extents
    → first + place shape p ≡ c + place shape start → w ≡ first * length piece → wk ≡ position_count extents * length piece → w + wk ≤ length mid
    → sub ≡ repeat (position_count extents) piece → InShape shape p → c * length piece + length piece ≤ length mid
    → piece_at (length piece) (put_mid w wk mid sub) c ≡ cond (is_within start extents p) piece (piece_at (length piece) mid c)
row_piece first c w wk shape start extents piece mid sub p fits whole far w_is wk_is room sub_is inside ends =
    let size = length piece in
    let len = position_count extents in
    let sub_len : length sub ≡ len * size = ap length sub_is ∙ length-repeat piece len in
    let room' : w + len * size ≤ length mid = omega (arith, wk_is) in
    let goes = ap (λ n. piece_at size (put_mid w n mid sub) c) wk_is in
    elim (cases_Bool (is_within start extents p)) [
      | inl hit ↦
          let span = row_from start extents shape p fits whole inside hit in
          let j = place shape p - place shape start in
          let at : c ≡ first + j = omega (arith, span.0) in
          let below : j < len = omega (arith, span.0, span.1) in
          goes
          ∙ ap (λ n. piece_at size (put_mid w (len * size) mid sub) n) at
          ∙ piece_inside size first len j w mid sub w_is room' sub_len below
          ∙ ap (λ l. piece_at size l j) sub_is
          ∙ repeat_piece piece len j below
          ∙ sym (cond-true _ _ _ hit)
      | inr miss ↦
          let apart : (c < first) ⊎ (first + len ≤ c) = elim (cases_lt (place shape p) (place shape start)) [
            | inl low ↦ inl (omega arith)
            | inr from ↦ elim (cases_lt (place shape p) (place shape start + len)) [
              | inl high ↦ absurd (false≢true (sym miss ∙ row_back start extents shape p fits whole inside from high))
              | inr past ↦ inr (omega arith)
            ]
          ] in
          goes ∙ piece_outside size first len c w mid sub w_is room' sub_len ends apart ∙ sym (cond-false _ _ _ miss)
    ]

-- a box that is one row
pub row_filled : (w wk : ℕ) (shape start extents piece old sub : List ℕ) → BoxFits start extents shape → drop 1 shape ≡ drop 1 extents
    → length old ≡ position_count shape * length piece → w ≡ place shape start * length piece → wk ≡ position_count extents * length piece → w + wk ≤ length old
    → sub ≡ repeat (position_count extents) piece → IsFilledBox (length piece) shape start extents piece old (put_mid w wk old sub)
row_filled w wk shape start extents piece old sub fits whole old_len w_is wk_is room sub_is = λ p inside.
    row_piece (place shape start) (place shape p) w wk shape start extents piece old sub p fits whole (omega arith) w_is wk_is room sub_is inside
    (cell_ends (length piece) (place shape p) (position_count shape) (length old) (place_below shape p inside) old_len)

-- ---- the blocks of the first dimension

-- a box of which the first `d` blocks are filled, and one more
one_more : (size d s n : ℕ) (shape start extents piece old mid new : List ℕ)
    → ((p : List ℕ) → InShape shape p
    → piece_at size new ((s + d) * position_count shape + place shape p) ≡ cond (is_within start extents p) piece (piece_at size mid ((s + d) * position_count shape + place shape p)))
    → ((j : ℕ) (p : List ℕ) → j ≢ s + d → j < n → InShape shape p
    → piece_at size new (j * position_count shape + place shape p) ≡ piece_at size mid (j * position_count shape + place shape p))
    → IsFilledBox size (n ∷ shape) (s ∷ start) (d ∷ extents) piece old mid → IsFilledBox size (n ∷ shape) (s ∷ start) ((d + 1) ∷ extents) piece old new
one_more size d s n shape start extents piece old mid new here elsewhere filled = go
  where
    past : (s d : ℕ) → in_range s d (s + d) ≡ false
    past s d = grind (arith, nat_tests)

    last : (s d : ℕ) → in_range s (d + 1) (s + d) ≡ true
    last s d = grind (arith, nat_tests)

    same_range : (s d j : ℕ) → j ≢ s + d → in_range s d j ≡ in_range s (d + 1) j
    same_range s d j other = grind (arith, nat_tests)

    go : (p : List ℕ) → InShape (n ∷ shape) p
        → piece_at size new (place (n ∷ shape) p) ≡ cond (is_within (s ∷ start) ((d + 1) ∷ extents) p) piece (piece_at size old (place (n ∷ shape) p))
    go [] inside = absurd inside
    go (j ∷ p) inside = elim (cases_eq j (s + d)) [
      | inl same ↦
          let within = is_within start extents p in
          let was = piece_at size old (j * position_count shape + place shape p) in
          let before : piece_at size mid (j * position_count shape + place shape p) ≡ was =
          filled (j ∷ p) inside ∙ ap (λ b. cond (b && within) piece was) (ap (λ i. in_range s d i) same ∙ past s d) in
          let now : in_range s (d + 1) j ≡ true = ap (λ i. in_range s (d + 1) i) same ∙ last s d in
          ap (λ i. piece_at size new (i * position_count shape + place shape p)) same
          ∙ here p inside.1
          ∙ ap (λ i. cond within piece (piece_at size mid (i * position_count shape + place shape p))) (sym same)
          ∙ ap (λ v. cond within piece v) before
          ∙ ap (λ b. cond (b && within) piece was) (sym now)
      | inr other ↦
          elsewhere j p other inside.0 inside.1
          ∙ filled (j ∷ p) inside
          ∙ ap (λ b. cond (b && is_within start extents p) piece (piece_at size old (j * position_count shape + place shape p))) (same_range s d j other)
    ]

apart_blocks : (i j c x first len : ℕ) → j ≢ i → x < c → i * c ≤ first → first + len ≤ i * c + c → (j * c + x < first) ⊎ (first + len ≤ j * c + x)
apart_blocks i j c x first len other below low high = elim (cases_order j i) [
  | inl e ↦ absurd (other e)
  | inr o ↦ elim o [ inl lt ↦ inl (omega (arith, block_order j i c lt)) | inr gt ↦ inr (omega (arith, block_order i j c gt)) ]
]

-- no block yet
pub blocks_none : (size : ℕ) (shape start extents piece old : List ℕ) → 0 < length shape → BoxFits start extents shape → IsFilledBox size shape start (0 ∷ drop 1 extents) piece old old
blocks_none size [] start extents piece old some fits = absurd (omega arith)
blocks_none size (n ∷ shape) [] [] piece old some fits = absurd fits
blocks_none size (n ∷ shape) [] (e ∷ extents) piece old some fits = absurd fits
blocks_none size (n ∷ shape) (s ∷ start) [] piece old some fits = absurd fits
blocks_none size (n ∷ shape) (s ∷ start) (e ∷ extents) piece old some fits = go
  where
    none : (s j : ℕ) → in_range s 0 j ≡ false
    none s j = grind (arith, nat_tests)

    go : IsFilledBox size (n ∷ shape) (s ∷ start) (0 ∷ extents) piece old old
    go [] inside = absurd inside
    go (j ∷ p) inside =
        let was = piece_at size old (j * position_count shape + place shape p) in
        ap (λ b. cond (b && is_within start extents p) piece was) (sym (none s j))

-- all blocks
pub blocks_all : (size d : ℕ) (shape start extents piece old new : List ℕ) → 0 < length extents → d ≡ slice_index extents 0
    → IsFilledBox size shape start (d ∷ drop 1 extents) piece old new → IsFilledBox size shape start extents piece old new
blocks_all size d shape start [] piece old new some all filled = absurd (omega arith)
blocks_all size d shape start (e ∷ extents) piece old new some all filled = rw all at filled

-- one more block, which is filled by itself
pub block_more : (d w wk size : ℕ) (shape start extents piece old mid sub : List ℕ) → BoxFits start extents shape → d < slice_index extents 0
    → wk ≡ position_count (drop 1 shape) * size → w ≡ (slice_index start 0 + d) * wk → length mid ≡ position_count shape * size → length sub ≡ wk
    → IsFilledBox size (drop 1 shape) (drop 1 start) (drop 1 extents) piece (take wk (drop w mid)) sub
    → IsFilledBox size shape start (d ∷ drop 1 extents) piece old mid → IsFilledBox size shape start ((d + 1) ∷ drop 1 extents) piece old (put_mid w wk mid sub)
block_more d w wk size shape start [] piece old mid sub fits below wk_is w_is mid_len sub_len made filled = absurd (omega arith)
block_more d w wk size shape [] (e ∷ extents) piece old mid sub fits below wk_is w_is mid_len sub_len made filled = absurd fits
block_more d w wk size [] (s ∷ start) (e ∷ extents) piece old mid sub fits below wk_is w_is mid_len sub_len made filled = absurd fits
block_more d w wk size (n ∷ shape) (s ∷ start) (e ∷ extents) piece old mid sub fits below wk_is w_is mid_len sub_len made filled =
    one_more size d s n shape start extents piece old mid (put_mid w wk mid sub)
    (λ p inside.
    let k = place shape p in
    let k_below = place_below shape p inside in
    goes (first + k)
    ∙ piece_inside size first c k w mid sub w_at room sub_len' k_below
    ∙ made p inside
    ∙ ap (λ v. cond (is_within start extents p) piece v) (piece_part size first c k w wk mid w_at wk_is (omega (arith, wk_is, room)) k_below))
    (λ j p other j_below inside.
    let x_below = place_below shape p inside in
    let ends = cell_ends size (j * c + place shape p) (n * c) (length mid) (omega (arith, block_order j n c j_below)) mid_len in
    goes (j * c + place shape p) ∙ piece_outside size first c (j * c + place shape p) w mid sub w_at room sub_len' ends
    (apart_blocks (s + d) j c (place shape p) first c other x_below (omega arith) (omega arith)))
    filled
  where
    c : ℕ
    c = position_count shape

    first : ℕ
    first = (s + d) * position_count shape

    w_at : w ≡ (s + d) * position_count shape * size
    w_at = w_is ∙ ap (λ v. (s + d) * v) wk_is ∙ sym (mul_assoc (s + d) (position_count shape) size)

    room : w + position_count shape * size ≤ length mid
    room =
        let index : s + d < n = (let fit : s + e ≤ n = fits.0 in let low : d < e = below in omega arith) in
        let order : (s + d) * position_count shape + position_count shape ≤ n * position_count shape = block_order (s + d) n (position_count shape) index in
        omega (arith, mul-le-mul_right size order, add-mul ((s + d) * position_count shape) (position_count shape) size, w_at, mid_len)

    sub_len' : length sub ≡ position_count shape * size
    sub_len' = sub_len ∙ wk_is

    goes : (i : ℕ) → piece_at size (put_mid w wk mid sub) i ≡ piece_at size (put_mid w (position_count shape * size) mid sub) i
    goes i = ap (λ v. piece_at size (put_mid w v mid sub) i) wk_is

-- one more row, in a box with a row for each index of the first dimension
pub plane_more : (d w wk : ℕ) (shape start extents piece old mid sub : List ℕ) → BoxFits start extents shape → d < slice_index extents 0 → drop 2 shape ≡ drop 2 extents
    → wk ≡ position_count (drop 1 extents) * length piece → w ≡ (place shape start + d * position_count (drop 1 shape)) * length piece → length mid ≡ position_count shape * length piece
    → sub ≡ repeat (position_count (drop 1 extents)) piece
    → IsFilledBox (length piece) shape start (d ∷ drop 1 extents) piece old mid → IsFilledBox (length piece) shape start ((d + 1) ∷ drop 1 extents) piece old (put_mid w wk mid sub)
plane_more d w wk shape start [] piece old mid sub fits below whole wk_is w_is mid_len sub_is filled = absurd (omega arith)
plane_more d w wk shape [] (e ∷ extents) piece old mid sub fits below whole wk_is w_is mid_len sub_is filled = absurd fits
plane_more d w wk [] (s ∷ start) (e ∷ extents) piece old mid sub fits below whole wk_is w_is mid_len sub_is filled = absurd fits
plane_more d w wk (n ∷ shape) (s ∷ start) (e ∷ extents) piece old mid sub fits below whole wk_is w_is mid_len sub_is filled =
    let size = length piece in
    let c = position_count shape in
    let len = position_count extents in
    let first = (s + d) * c + place shape start in
    let index : s + d < n = (let fit : s + e ≤ n = fits.0 in let low : d < e = below in omega arith) in
    let order = block_order (s + d) n c index in
    let row_end = row_ends start extents shape fits.1 whole in
    let at : s * c + place shape start + d * c ≡ first = omega (arith, add-mul s d c) in
    let w_at : w ≡ first * size = w_is ∙ ap (λ v. v * size) at in
    let inside_all : first + len ≤ n * c = omega (arith, order, row_end) in
    let room : w + wk ≤ length mid = omega (arith, mul-le-mul_right size inside_all, add-mul first len size, w_at, wk_is, mid_len) in
    let room' : w + len * size ≤ length mid = omega (arith, wk_is) in
    let sub_len : length sub ≡ len * size = ap length sub_is ∙ length-repeat piece len in
    one_more size d s n shape start extents piece old mid (put_mid w wk mid sub)
    (λ p inside.
    let x_below = place_below shape p inside in
    row_piece first ((s + d) * c + place shape p) w wk shape start extents piece mid sub p fits.1 whole (omega arith) w_at wk_is room sub_is inside
    (cell_ends size ((s + d) * c + place shape p) (n * c) (length mid) (omega (arith, order)) mid_len))
    (λ j p other j_below inside.
    let x_below = place_below shape p inside in
    let ends = cell_ends size (j * c + place shape p) (n * c) (length mid) (omega (arith, block_order j n c j_below)) mid_len in
    ap (λ v. piece_at size (put_mid w v mid sub) (j * c + place shape p)) wk_is
    ∙ piece_outside size first len (j * c + place shape p) w mid sub w_at room' sub_len ends
    (apart_blocks (s + d) j c (place shape p) first len other x_below (omega arith) (omega (arith, row_end))))
    filled

-- ---- the room of a box

drop_rest : {X : Type 0} (k : ℕ) (xs : List X) → drop k (drop 1 xs) ≡ drop (k + 1) xs
drop_rest k xs =
    let rest : drop k (drop 1 xs) ≡ drop (1 + k) xs = search (rules, places) in
    let same : 1 + k ≡ k + 1 = omega arith in
    rest ∙ ap (λ n. drop n xs) same

-- a box that has positions, and its blocks
pub record BlockRoom (shape start extents : List ℕ) : Type 0 where
  pub starts : 0 < length start
  pub extents_some : 0 < length extents
  pub fits : BoxFits (drop 1 start) (drop 1 extents) (drop 1 shape)
  pub room : slice_index start 0 + slice_index extents 0 ≤ slice_index shape 0
  pub count : position_count shape ≡ slice_index shape 0 * position_count (drop 1 shape)
  pub inner : position_count (drop 1 shape) ≤ position_count shape
  pub extent : slice_index shape 0 ≤ position_count shape
  pub first : 0 < slice_index extents 0
  pub some : 0 < position_count (drop 1 extents)

factor_some : (a b : ℕ) → 0 < a * b → 0 < a
factor_some zero b some = absurd (omega arith)
factor_some (suc a) b some = omega arith

factor_after : (a b : ℕ) → 0 < a * b → 0 < b
factor_after a zero some = absurd (omega arith)
factor_after a (suc b) some = omega arith

count_fits : (start extents shape : List ℕ) → 0 < position_count extents → BoxFits start extents shape → 0 < position_count shape
count_fits [] [] [] some fits = omega arith
count_fits [] [] (n ∷ shape) some fits = absurd fits
count_fits [] (e ∷ extents) shape some fits = absurd fits
count_fits (s ∷ start) [] shape some fits = absurd fits
count_fits (s ∷ start) (e ∷ extents) [] some fits = absurd fits
count_fits (s ∷ start) (e ∷ extents) (n ∷ shape) some fits =
    let first : 0 < e = factor_some e (position_count extents) some in
    let here : s + e ≤ n = fits.0 in
    let one : 1 ≤ n = omega arith in
    let rest : 1 ≤ position_count shape = count_fits start extents shape (factor_after e (position_count extents) some) fits.1 in
    omega (arith, mul-le-mul_left n rest)

pub block_room : (shape start extents : List ℕ) → 0 < length shape → BoxFits start extents shape → 0 < position_count extents → BlockRoom shape start extents
block_room [] start extents dimensions fits some = absurd (omega arith)
block_room (n ∷ shape) [] [] dimensions fits some = absurd fits
block_room (n ∷ shape) [] (e ∷ extents) dimensions fits some = absurd fits
block_room (n ∷ shape) (s ∷ start) [] dimensions fits some = absurd fits
block_room (n ∷ shape) (s ∷ start) (e ∷ extents) dimensions fits some =
    let first : 0 < e = factor_some e (position_count extents) some in
    let here : s + e ≤ n = fits.0 in
    let one : 1 ≤ n = omega arith in
    let inner_some = factor_after e (position_count extents) some in
    let rest : 1 ≤ position_count shape = count_fits start extents shape inner_some fits.1 in
    record {
      starts = omega arith;
      extents_some = omega arith;
      fits = fits.1;
      room = fits.0;
      count = refl;
      inner = omega (arith, mul-le-mul_right (position_count shape) one);
      extent = omega (arith, mul-le-mul_left n rest);
      first = first;
      some = inner_some;
    }

-- ---- dimensions of extent 1

one_filled : (size m s e : ℕ) (shape start extents piece old new : List ℕ) → m ≡ 1 → s + e ≤ m → 0 < e
    → IsFilledBox size shape start extents piece old new → IsFilledBox size (m ∷ shape) (s ∷ start) (e ∷ extents) piece old new
one_filled size m s e shape start extents piece old new one fit some filled = go
  where
    hit : (s e j : ℕ) → s + e ≤ 1 → 0 < e → j < 1 → in_range s e j ≡ true
    hit s e j fit some below = grind (arith, nat_tests)

    go : IsFilledBox size (m ∷ shape) (s ∷ start) (e ∷ extents) piece old new
    go [] inside = absurd inside
    go (j ∷ p) inside =
        let below : j < m = inside.0 in
        let first : j ≡ 0 = omega arith in
        let within : in_range s e j ≡ true = hit s e j (omega arith) some (omega arith) in
        let at : j * position_count shape + place shape p ≡ place shape p = omega (arith, ap (λ v. v * position_count shape) first) in
        ap (λ v. piece_at size new v) at
        ∙ filled p inside.1
        ∙ ap (λ v. cond (is_within start extents p) piece (piece_at size old v)) (sym at)
        ∙ ap (λ b. cond (b && is_within start extents p) piece (piece_at size old (j * position_count shape + place shape p))) (sym within)

-- a box without its first dimensions, each of extent 1
pub record BehindOnes (n : ℕ) (shape start extents : List ℕ) : Type 0 where
  pub fits : BoxFits (drop n start) (drop n extents) (drop n shape)
  pub count : position_count (drop n shape) ≡ position_count shape
  pub some : 0 < position_count (drop n extents)
  pub filled : (size : ℕ) (piece old new : List ℕ) → IsFilledBox size (drop n shape) (drop n start) (drop n extents) piece old new → IsFilledBox size shape start extents piece old new

behind_ones : (n : ℕ) (shape start extents : List ℕ) → ((k : ℕ) → k < n → slice_index shape k ≡ 1) → BoxFits start extents shape → 0 < position_count extents
    → BehindOnes n shape start extents
behind_ones zero shape start extents ones fits some = record { fits = fits; count = refl; some = some; filled = λ size piece old new made. made }
behind_ones (suc n) [] start extents ones fits some = absurd (omega (arith, ones 0 (omega arith)))
behind_ones (suc n) (m ∷ shape) [] [] ones fits some = absurd fits
behind_ones (suc n) (m ∷ shape) [] (e ∷ extents) ones fits some = absurd fits
behind_ones (suc n) (m ∷ shape) (s ∷ start) [] ones fits some = absurd fits
behind_ones (suc n) (m ∷ shape) (s ∷ start) (e ∷ extents) ones fits some =
    let one : m ≡ 1 = ones 0 (omega arith) in
    let first : 0 < e = factor_some e (position_count extents) some in
    let rest = behind_ones n shape start extents (λ k below. ones (suc k) (omega arith)) fits.1 (factor_after e (position_count extents) some) in
    record {
      fits = rest.fits;
      count = rest.count ∙ sym (omega (arith, ap (λ v. v * position_count shape) one));
      some = rest.some;
      filled = λ size piece old new made. one_filled size m s e shape start extents piece old new one fits.0 first (rest.filled size piece old new made);
    }

-- so many dimensions behind the first have extent 1
pub record OnesAhead (axis n : ℕ) (shape : List ℕ) : Type 0 where
  pub within : n < axis
  pub ones : (k : ℕ) → k < n → slice_index (drop 1 shape) k ≡ 1

pub ones_ahead : (axis n : ℕ) (shape : List ℕ) → 0 < axis → n ≡ prefix_len (λ extent. extent == 1) (take (axis - 1) (drop 1 shape)) → OnesAhead axis n shape
ones_ahead axis n shape some is =
    let xs = drop 1 shape in
    let short : length (take (axis - 1) xs) ≤ axis - 1 = search (rules, places) in
    let within : n ≤ axis - 1 = omega (arith, prefix_len-le-length (λ (extent : ℕ). extent == 1) (take (axis - 1) xs)) in
    record {
      within = omega arith;
      ones = λ k below.
          sym (get_or-take (axis - 1) xs k 0 (omega arith))
          ∙ eqb-true (get_or (take (axis - 1) xs) k 0) 1 (prefix_len_passes (λ (extent : ℕ). extent == 1) (take (axis - 1) xs) k 0 (omega arith));
    }

-- a box whose dimensions behind the first are passed over, so far as they have extent 1
pub record NextRoom (n : ℕ) (shape start extents : List ℕ) : Type 0 where
  pub fits : BoxFits (drop (n + 1) start) (drop (n + 1) extents) (drop (n + 1) shape)
  pub count : position_count (drop (n + 1) shape) ≡ position_count (drop 1 shape)
  pub some : 0 < position_count (drop (n + 1) extents)
  pub filled : (size : ℕ) (piece old new : List ℕ) → IsFilledBox size (drop (n + 1) shape) (drop (n + 1) start) (drop (n + 1) extents) piece old new
      → IsFilledBox size (drop 1 shape) (drop 1 start) (drop 1 extents) piece old new

pub next_room : (n : ℕ) (shape start extents : List ℕ) → ((k : ℕ) → k < n → slice_index (drop 1 shape) k ≡ 1) → BlockRoom shape start extents → NextRoom n shape start extents
next_room n shape start extents ones parts =
    let behind = behind_ones n (drop 1 shape) (drop 1 start) (drop 1 extents) ones parts.fits parts.some in
    record {
      fits = rw (drop_rest n shape, drop_rest n start, drop_rest n extents) at behind.fits;
      count = ap position_count (sym (drop_rest n shape)) ∙ behind.count;
      some = rw (drop_rest n extents) at behind.some;
      filled = λ size piece old new made. behind.filled size piece old new (rw (← drop_rest n shape, ← drop_rest n start, ← drop_rest n extents) at made);
    }

-- the dimensions from `axis` on, counted from another one
pub whole_behind : (axis next : ℕ) (shape extents : List ℕ) → next ≤ axis → drop (axis + 1) shape ≡ drop (axis + 1) extents
    → drop (axis - next + 1) (drop next shape) ≡ drop (axis - next + 1) (drop next extents)
whole_behind axis next shape extents low whole = behind shape ∙ whole ∙ sym (behind extents)
  where
    far : next + (axis - next + 1) ≡ axis + 1
    far = omega arith

    twice : (xs : List ℕ) → drop (axis - next + 1) (drop next xs) ≡ drop (next + (axis - next + 1)) xs
    twice xs = search (rules, places)

    behind : (xs : List ℕ) → drop (axis - next + 1) (drop next xs) ≡ drop (axis + 1) xs
    behind xs = twice xs ∙ ap (λ n. drop n xs) far

-- the block of an index of the box
pub block_ends : (size index : ℕ) (shape start extents : List ℕ) → BlockRoom shape start extents → index < slice_index start 0 + slice_index extents 0
    → index * (position_count (drop 1 shape) * size) + position_count (drop 1 shape) * size ≤ position_count shape * size
block_ends size index shape start extents parts below =
    let n = slice_index shape 0 in
    let c = position_count (drop 1 shape) in
    let within : index < n = omega (arith, parts.room) in
    omega (arith, block_order index n (c * size) within, mul_assoc n c size, ap (λ v. v * size) parts.count)

pub start_in : (start extents shape : List ℕ) → 0 < position_count extents → BoxFits start extents shape → InShape shape start
start_in [] [] [] some fits = tt
start_in [] [] (n ∷ shape) some fits = absurd fits
start_in [] (e ∷ extents) shape some fits = absurd fits
start_in (s ∷ start) [] shape some fits = absurd fits
start_in (s ∷ start) (e ∷ extents) [] some fits = absurd fits
start_in (s ∷ start) (e ∷ extents) (n ∷ shape) some fits =
    let parts = block_room (n ∷ shape) (s ∷ start) (e ∷ extents) (omega arith) fits some in
    let here : 0 < e = parts.first in
    let room : s + e ≤ n = fits.0 in
    (omega arith, start_in start extents shape parts.some fits.1)

-- the rows of a box with a row for each index of the first dimension: the next one, and the one after so many
pub record PlaneRoom (size : ℕ) (shape start extents : List ℕ) (row : ℕ) : Type 0 where
  pub ends : place shape start * size + row * (position_count (drop 1 shape) * size) + position_count (drop 1 extents) * size ≤ position_count shape * size
  pub short : position_count (drop 1 extents) ≤ position_count (drop 1 shape)
  pub behind : position_count (drop 1 extents) * size ≤ position_count (drop 1 shape) * size
  pub at : place shape start * size + row * (position_count (drop 1 shape) * size) ≡ (place shape start + row * position_count (drop 1 shape)) * size

pub plane_room : (size row : ℕ) (shape start extents : List ℕ) → BoxFits start extents shape → drop 2 shape ≡ drop 2 extents → row < slice_index extents 0 → PlaneRoom size shape start extents row
plane_room size row shape start [] fits whole below = absurd (omega arith)
plane_room size row shape [] (e ∷ extents) fits whole below = absurd fits
plane_room size row [] (s ∷ start) (e ∷ extents) fits whole below = absurd fits
plane_room size row (n ∷ shape) (s ∷ start) (e ∷ extents) fits whole below =
    let c = position_count shape in
    let len = position_count extents in
    let p = place shape start in
    let row_end = row_ends start extents shape fits.1 whole in
    let index : s + row < n = (let fit : s + e ≤ n = fits.0 in let low : row < e = below in omega arith) in
    let order = block_order (s + row) n c index in
    let all : s * c + p + row * c + len ≤ n * c = omega (arith, order, row_end, add-mul s row c) in
    let at : (s * c + p) * size + row * (c * size) ≡ (s * c + p + row * c) * size = omega (arith, add-mul (s * c + p) (row * c) size, mul_assoc row c size) in
    let short : len ≤ c = omega (arith, row_end) in
    record {
      ends = omega (arith, at, mul-le-mul_right size all, add-mul (s * c + p + row * c) len size);
      short = short;
      behind = mul-le-mul_right size short;
      at = at;
    }

-- the room of a box that is one row
pub row_room : (size : ℕ) (shape start extents : List ℕ) → BoxFits start extents shape → drop 1 shape ≡ drop 1 extents
    → place shape start * size + position_count extents * size ≤ position_count shape * size
row_room size shape start extents fits whole =
    omega (arith, mul-le-mul_right size (row_ends start extents shape fits whole), add-mul (place shape start) (position_count extents) size)

-- ---- a run that is copied

pub copied_run : (from len to : ℕ) (xs new : List ℕ) → from + len ≤ to → to + len ≤ length xs → new ≡ copy_within xs from (from + len) to → new ≡ put_mid to len xs (take len (drop from xs))
copied_run from len to xs new behind room is =
    let count : from + len - from ≡ len = omega arith in
    is ∙ ap (λ n. paste xs to (drop from xs) n) count ∙ search (rules, overwrites)

pub run_kept : (from len to : ℕ) (xs ys : List ℕ) → from + len ≤ to → to + len ≤ length xs → take len (drop from (put_mid to len xs ys)) ≡ take len (drop from xs)
run_kept from len to xs ys behind room =
    let count : from + len - from ≡ len = omega arith in
    let new = put_mid to len xs ys in
    ap (λ n. take n (drop from new)) (sym count)
    ∙ between_is new from (from + len)
    ∙ ap (drop from) (take-put_mid_below to len xs ys (from + len) behind (omega arith))
    ∙ sym (between_is xs from (from + len))
    ∙ ap (λ n. take n (drop from xs)) count

pub run_put : (from len : ℕ) (xs ys : List ℕ) → from + len ≤ length xs → length ys ≡ len → take len (drop from (put_mid from len xs ys)) ≡ ys
run_put from len xs ys room long =
    let count : from + len - from ≡ len = omega arith in
    ap (λ n. take n (drop from (put_mid from len xs ys))) (sym count) ∙ between-put_mid from len xs ys (from + len) (omega arith) (long ∙ sym count)

-- ---- a box of the parent

pub box_filled : (size : ℕ) (region : Box) (shape piece old new : List ℕ) → size ≡ length piece → IsLong region → IsFilledBox size shape region.start region.shape piece old new
    → TakesAt (box_at_origin shape) region (piece_at size (repeat (position_count region.shape) piece)) (piece_at size old) (piece_at size new)
box_filled size region shape piece old new size_is long filled = λ position holds.
    let inside = in_parent shape position holds in
    let at = place_in_parent shape position inside in
    ap (λ n. piece_at size new n) at
    ∙ filled position inside
    ∙ ap (λ n. cond (in_box region position) piece (piece_at size old n)) (sym at)
    ∙ (elim (cases_Bool (in_box region position)) [
      | inl there ↦
          cond-true _ _ _ there
          ∙ sym (repeat_piece piece (position_count region.shape) (place_in region position) (place_in_below region position long there))
          ∙ ap (λ s. piece_at s (repeat (position_count region.shape) piece) (place_in region position)) (sym size_is)
          ∙ sym (cond-true _ _ _ there)
      | inr out ↦ cond-false _ _ _ out ∙ sym (cond-false _ _ _ out)
    ])

pub nothing_filled : (size : ℕ) (region : Box) (shape part old : List ℕ) → ((position : List ℕ) → in_box region position ≡ false)
    → TakesAt (box_at_origin shape) region (piece_at size part) (piece_at size old) (piece_at size old)
nothing_filled size region shape part old none = λ position holds. sym (cond-false _ _ _ (none position))
