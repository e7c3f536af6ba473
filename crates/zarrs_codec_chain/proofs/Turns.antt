-- Cells whose bytes are in reverse.
use Rattle.std.proofs.Common.{◌≡◌, ℕ, zero, suc, ◌+◌, ◌-◌, ◌*◌, ◌/◌, ◌%◌, ◌<◌, ◌≤◌, List, [], ◌∷◌, ◌++◌, length, take, drop, get_or, map, reverse, slice_range, cond, inl, inr, refl, sym, ap, ◌∙◌, arith, rules}
use Rattle.std.specs.List.{flat_map}
use Rattle.std.specs.Simd.{first_chunks}
use Rattle.std.proofs.Math.Nat.{add-mul, div-add-mod', mod-lt, mul-le-mul_right}
use Rattle.std.proofs.Math.Seq.{take-append_seam}
use Rattle.std.proofs.lemmas.Bool.{cases_Bool, cases_lt}
use Rattle.std.proofs.lemmas.Grind.{flat_map-append}
use Rattle.std.proofs.lemmas.List.{append-nil, drop_all, ext_get_or, get_or_default, get_or-map, length-append, length-drop, length-reverse, length-take-le, places, take-append-drop}
use Rattle.std.proofs.lemmas.List.FromFn.{get_or-map-range_with_len}
use Rattle.zarrs_data_type_numbers.proofs.Chunks.{flat-first_chunks}
use Rattle.zarrs_codec_leaf.proofs.Encodings.{chunks-pieces}
use Rattle.zarrs_data_type_bytes.proofs.Pieces.{length-flat_map_same, length-piece, length-pieces, pieces-flat_map}
use borrow.Rule.Slice.PartMut.{put_mid}
use Rattle.zarrs_subset.specs.Boxes.{BoxFits, InShape, is_within, moved, place, position_count}
use Rattle.zarrs_subset.specs.Cells.{CellsCopied}
use Rattle.zarrs_subset.specs.Pieces.{piece_at, pieces}
use Rattle.zarrs_subset.proofs.Kernel.{block_order, cell_ends, get_or-part, get_or-put_mid_below, get_or-put_mid_inside, length_part, moved_in, piece_at-same, place_below, tail_is}
use Rattle.zarrs_codec_chain.specs.BytesInto.{IsTurned}

-- a piece of a part that begins at a piece
pub piece_of_part : (size a w b i : ℕ) (xs : List ℕ) → w ≡ a * size → w + b ≤ length xs → i * size + size ≤ b
    → piece_at size (slice_range xs w (w + b)) i ≡ piece_at size xs (a + i)
piece_of_part size a w b i xs begin room ends =
    let part = slice_range xs w (w + b) in
    let len = length_part w b xs room in
    let sum : (a + i) * size ≡ w + i * size = omega (arith, add-mul a i size) in
    piece_at-same size i (a + i) part xs (omega arith) (omega arith) (λ k lt.
    let at : w + (i * size + k) ≡ (a + i) * size + k = omega arith in
    get_or-part w (w + b) (i * size + k) xs (omega arith) ∙ ap (λ n. get_or xs n 0) at)

-- a part of them
pub turned_part : (size a w b : ℕ) (xs ts : List ℕ) → w ≡ a * size → w + b ≤ length xs → IsTurned size xs ts
    → IsTurned size (slice_range xs w (w + b)) (slice_range ts w (w + b))
turned_part size a w b xs ts begin room turned =
    let len = length_part w b xs room in
    let t_room : w + b ≤ length ts = omega (arith, turned.same_length) in
    record {
      same_length = length_part w b ts t_room ∙ sym len;
      each = λ i ends.
          let within : i * size + size ≤ b = omega arith in
          let sum : (a + i) * size ≡ w + i * size = omega (arith, add-mul a i size) in
          piece_of_part size a w b i ts begin t_room within
          ∙ turned.each (a + i) (omega arith)
          ∙ ap reverse (sym (piece_of_part size a w b i xs begin room within));
    }

-- lists that have the same pieces
pieces_same : (size n : ℕ) (us ts : List ℕ) → length us ≡ n * size → length ts ≡ n * size → ((i : ℕ) → i < n → piece_at size us i ≡ piece_at size ts i) → us ≡ ts
pieces_same zero n us ts lu lt each = ext_get_or 0 us ts (lu ∙ sym lt) (λ i below. absurd (omega arith))
pieces_same (suc s) n us ts lu lt each = ext_get_or 0 us ts (lu ∙ sym lt) (λ i below.
    let size = suc s in
    let q = i / size in
    let r = i % size in
    let some : 0 < size = omega arith in
    let small : r < size = mod-lt i some in
    let split : q * size + r ≡ i = div-add-mod' i size in
    let number : q < n = elim (cases_lt q n) [ inl here ↦ here | inr past ↦ absurd (omega (arith, mul-le-mul_right size past)) ] in
    ap (λ x. get_or us x 0) (sym split)
    ∙ sym (get_or-part (q * size) (q * size + size) r us (omega arith))
    ∙ ap (λ p. get_or p r 0) (each q number)
    ∙ get_or-part (q * size) (q * size + size) r ts (omega arith)
    ∙ ap (λ x. get_or ts x 0) split)

-- there is one list of turned cells
turned_once : (size n : ℕ) (xs ts us : List ℕ) → length xs ≡ n * size → IsTurned size xs ts → IsTurned size xs us → us ≡ ts
turned_once size n xs ts us len one other =
    pieces_same size n us ts (other.same_length ∙ len) (one.same_length ∙ len) (λ i lt.
    let ends = cell_ends size i n (length xs) lt len in
    other.each i ends ∙ sym (one.each i ends))

-- a list whose pieces are made of these
pub joined : {X : Type 0} (f : X → List ℕ) (size : ℕ) (xs : List X) (d : X) (made : List ℕ) → length made ≡ length xs * size
    → ((i : ℕ) → i < length xs → piece_at size made i ≡ f (get_or xs i d)) → made ≡ flat_map f xs
joined f size xs d made len each =
    let n = length xs in
    let width : (k : ℕ) (e : _) → k < n → length (f (get_or xs k e)) ≡ size =
    λ k e lt. ap (λ x. length (f x)) (get_or_default xs k e d lt) ∙ ap length (sym (each k lt)) ∙ length_part (k * size) size made (cell_ends size k n (length made) lt len) in
    pieces_same size n made (flat_map f xs) len (length-flat_map_same f size xs width) (λ i lt.
    each i lt
    ∙ sym (get_or-map f xs i d [] lt)
    ∙ ap (λ l. get_or l i []) (sym (pieces-flat_map f size xs width))
    ∙ get_or-map-range_with_len (piece_at size (flat_map f xs)) 0 n i i [] lt (omega arith))

-- one more piece was put
pub put_more : (size n i w : ℕ) (f : ℕ → List ℕ) (mid cell : List ℕ) → i < n → length mid ≡ n * size → w ≡ i * size → length cell ≡ size → cell ≡ f i
    → ((j : ℕ) → j < i → piece_at size mid j ≡ f j)
    → (j : ℕ) → j < i + 1 → piece_at size (put_mid w size mid cell) j ≡ f j
put_more size n i w f mid cell lt len begin cell_len is before j below =
    let all = put_mid w size mid cell in
    let ends = cell_ends size i n (length mid) lt len in
    let room : w + size ≤ length mid = omega arith in
    let all_len : length all ≡ length mid = length_put w size mid cell room cell_len in
    elim (cases_lt j i) [
      | inl earlier ↦
          let order = block_order j i size earlier in
          piece_at-same size j j all mid (omega arith) (omega arith) (λ k small. get_or-put_mid_below w size (j * size + k) mid cell room cell_len (omega arith))
          ∙ before j earlier
      | inr last ↦
          let same : j ≡ i = omega arith in
          ap (piece_at size all) same
          ∙ ext_get_or 0 (piece_at size all i) cell (length_part (i * size) size all (omega arith) ∙ sym cell_len) (λ k h.
          let small : k < size = omega (arith, length_part (i * size) size all (omega arith)) in
          get_or-part (i * size) (i * size + size) k all (omega arith) ∙ ap (λ x. get_or all (x + k) 0) (sym begin) ∙ get_or-put_mid_inside w size k mid cell room cell_len small)
          ∙ is
          ∙ ap f (sym same)
    ]
  where
    length_put : (w k : ℕ) (xs ys : List ℕ) → w + k ≤ length xs → length ys ≡ k → length (put_mid w k xs ys) ≡ length xs
    length_put w k xs ys room long = search (rules, places)

-- all cells of an array
pub turned_of : (size n : ℕ) (all : List ℕ) → length all ≡ n * size → 0 < size → IsTurned size all (flat_map reverse (pieces size n all))
turned_of size n all len some =
    let ps = pieces size n all in
    let count = length-pieces size n all in
    let width : (k : ℕ) (d : List ℕ) → k < length ps → length (reverse (get_or ps k d)) ≡ size = λ k d lt. length-reverse (get_or ps k d) ∙ length-piece size n all len k d (omega (arith, count)) in
    let whole : pieces size n (flat_map reverse ps) ≡ map reverse ps =
    ap (λ m. pieces size m (flat_map reverse ps)) (sym count) ∙ pieces-flat_map reverse size ps width in
    record {
      same_length = length-flat_map_same reverse size ps width ∙ ap (λ m. m * size) count ∙ sym len;
      each = λ i ends.
          let lt : i < n = elim (cases_lt i n) [ inl here ↦ here | inr past ↦ absurd (omega (arith, mul-le-mul_right size past)) ] in
          sym (get_or-map-range_with_len (piece_at size (flat_map reverse ps)) 0 n i i [] lt (omega arith))
          ∙ ap (λ l. get_or l i []) whole
          ∙ get_or-map reverse ps i [] [] (omega (arith, count))
          ∙ ap reverse (get_or-map-range_with_len (piece_at size all) 0 n i i [] lt (omega arith));
    }

-- a list of turned cells, flat
pub flat_turned : (xss : List (List ℕ)) → flat_map (λ x. x) (map reverse xss) ≡ flat_map reverse xss
flat_turned [] = refl
flat_turned (xs ∷ xss) = ap (λ l. reverse xs ++ l) (flat_turned xss)

-- groups of cells, flat
flat_groups : (groups : List (List (List ℕ))) → flat_map (flat_map reverse) groups ≡ flat_map reverse (flat_map (λ x. x) groups)
flat_groups [] = refl
flat_groups (g ∷ groups) = ap (λ l. flat_map reverse g ++ l) (flat_groups groups) ∙ sym (flat_map-append reverse g (flat_map (λ x. x) groups))

-- how long the rest is, behind whole groups
pub rest_len : (size n groups rest k m : ℕ) → groups ≡ n / m → rest ≡ n % m → k ≡ groups * m * size → (k ≤ n * size) × (n * size - k ≡ rest * size)
rest_len size n groups rest k m whole left is =
    let split : n / m * m + n % m ≡ n = div-add-mod' n m in
    let all : groups * m + rest ≡ n = omega (arith, split, ap (λ x. x * m) whole, left) in
    let parts : n * size ≡ groups * m * size + rest * size = ap (λ x. x * size) (sym all) ∙ add-mul (groups * m) rest size in
    (omega (arith, parts, is), omega (arith, parts, is))

-- how long a list is behind its front
pub part_end : (k : ℕ) (front old : List ℕ) → length front ≡ k → k ≤ length old
    → length (take (length (front ++ drop k old) - k) (drop k (front ++ drop k old))) ≡ length old - k
part_end k front old len room =
    let all : length (front ++ drop k old) ≡ length old = length-append front (drop k old) ∙ omega (arith, len, length-drop k old) in
    length-take-le (length (front ++ drop k old) - k) (drop k (front ++ drop k old)) (omega (arith, length-drop k (front ++ drop k old))) ∙ ap (λ n. n - k) all

-- what is put behind a part of a list, up to its end
pub put_behind : (k : ℕ) (front back made : List ℕ) → length front ≡ k → put_mid k (length (front ++ back) - k) (front ++ back) made ≡ front ++ made
put_behind k front back made len =
    let first : take k (front ++ back) ≡ front = ap (λ n. take n (front ++ back)) (sym len) ∙ take-append_seam front back in
    let none : drop (length (front ++ back) - k) (drop k (front ++ back)) ≡ [] =
    drop_all (length (front ++ back) - k) (drop k (front ++ back)) (omega (arith, length-drop k (front ++ back))) in
    ap (λ l. l ++ (made ++ drop (length (front ++ back) - k) (drop k (front ++ back)))) first
    ∙ ap (λ l. front ++ (made ++ l)) none
    ∙ ap (λ l. front ++ l) (append-nil made)

-- the turned cells of all groups, and those of the rest
pub turned_all : (size n m k : ℕ) (xs ts : List ℕ) (cells : List (List ℕ)) (groups : List (List (List ℕ))) (rest : List (List ℕ)) (made : List ℕ)
    → 0 < size → length xs ≡ n * size → IsTurned size xs ts → cells ≡ first_chunks size n xs → groups ≡ first_chunks m k cells → rest ≡ drop (k * m) cells
    → made ≡ flat_map (flat_map reverse) groups ++ flat_map reverse rest → made ≡ ts
turned_all size n m k xs ts cells groups rest made some len turned cut grouped left is =
    let all : flat_map (λ x. x) groups ++ rest ≡ cells =
    ap (λ l. flat_map (λ x. x) l ++ rest) grouped ∙ ap (λ l. l ++ rest) (flat-first_chunks m k cells) ∙ ap (λ l. take (k * m) cells ++ l) left ∙ take-append-drop (k * m) cells in
    let flat : made ≡ flat_map reverse (pieces size n xs) =
    is ∙ ap (λ l. l ++ flat_map reverse rest) (flat_groups groups)
    ∙ sym (flat_map-append reverse (flat_map (λ x. x) groups) rest)
    ∙ ap (flat_map reverse) (all ∙ cut ∙ chunks-pieces size n xs (omega (arith, len))) in
    flat ∙ turned_once size n xs ts (flat_map reverse (pieces size n xs)) len turned (turned_of size n xs len some)

-- the dimensions but the first
pub shorter : (xs : List ℕ) → 0 < length xs → length (slice_range xs 1 (length xs)) < length xs
shorter [] some = absurd (omega arith)
shorter (x ∷ xs) some = omega (arith, ap length (tail_is x xs))

-- the second of two dimensions
pub one_left : (xs : List ℕ) → length xs ≡ 2 → length (slice_range xs 1 (length xs)) ≡ 1
one_left [] two = absurd (omega arith)
one_left (x ∷ xs) two = omega (arith, ap length (tail_is x xs))

-- a box of them, copied
pub turned_cells : (size : ℕ) (S F T U es all turned old new : List ℕ) → BoxFits F es S → BoxFits U es T → length all ≡ position_count S * size → IsTurned size all turned
    → CellsCopied size S F T U es turned old new
    → (p : List ℕ) → InShape T p → piece_at size new (place T p) ≡ cond (is_within U es p) (reverse (piece_at size all (place S (moved U F p)))) (piece_at size old (place T p))
turned_cells size S F T U es all turned old new fitsS fitsT len is copied p inside =
    elim (cases_Bool (is_within U es p)) [
      | inl hit ↦
          let below = place_below S (moved U F p) (moved_in U F es S p T inside fitsT fitsS hit) in
          let ends = cell_ends size (place S (moved U F p)) (position_count S) (length all) below len in
          rw hit ((rw hit at (copied p inside)) ∙ is.each (place S (moved U F p)) ends)
      | inr miss ↦ rw miss (rw miss at (copied p inside))
    ]
