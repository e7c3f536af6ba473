-- The rows of a box, one after another.
use Rattle.std.proofs.Common.{◌≡◌, ℕ, zero, suc, ◌+◌, ◌-◌, ◌*◌, ◌/◌, ◌%◌, ◌<◌, ◌≤◌, ◌^◌, Bool, true, List, [], ◌∷◌, ◌++◌, length, map, take, drop, inl, inr, refl, sym, ap, subst, append_assoc, ◌∙◌, arith}
use Rattle.std.specs.Prelude.{nat_le, nat_lt, slice_index}
use Rattle.std.specs.List.{flat_map, range_with_len}
use Rattle.std.proofs.Math.Seq.{take-add}
use Rattle.std.proofs.Math.Nat.{suc-mul, add-mul, mul_assoc, mul_comm, mul-div_cancel, mul-le-mul_left, mul-le-mul_right, div-add-mod', div-lt_iff_lt-mul}
use Rattle.std.proofs.lemmas.List.{drop-drop, append-nil}
use Rattle.std.proofs.lemmas.List.Folds.{flat_map-map}
use Rattle.std.proofs.lemmas.Grind.{flat_map-append}
use Rattle.std.proofs.lemmas.Nat.{mod_below}
use Rattle.std.proofs.lemmas.Bool.{and_from, le-leb, lt-ltb, cases_lt}
use Rattle.zarrs_subset.specs.Boxes.{position_count, InShape, place, unravel, BoxFits, in_range, is_within, positions_from}
use Rattle.zarrs_subset.proofs.Counts.{count_some, count_zero}
use Rattle.zarrs_subset.proofs.Nothing.{length_fits}
use Rattle.zarrs_subset.proofs.Overlaps.{AllSome}
use Rattle.zarrs_subset.proofs.Positions.{length-positions, unravel_in, place-unravel}
use Rattle.zarrs_subset.proofs.Texts.{texts_more}
use Rattle.zarrs_codec_leaf.specs.BoxReads.{cell_from, box_bytes, MayReadBox, CanReadBox}
use Rattle.zarrs_codec_leaf.specs.Sources.{MayReadPlaces}

-- functions that return the same make the same list
pub flat_map-same : {X Y : Type 0} (f g : X → List Y) (xs : List X) → ((x : X) → f x ≡ g x) → flat_map f xs ≡ flat_map g xs
flat_map-same f g [] same = refl
flat_map-same f g (x ∷ xs) same = ap (λ l. l ++ flat_map f xs) (same x) ∙ ap (λ l. g x ++ l) (flat_map-same f g xs same)

pub flat_map-flat_map : {X Y Z : Type 0} (f : Y → List Z) (g : X → List Y) (xs : List X) → flat_map f (flat_map g xs) ≡ flat_map (λ x. flat_map f (g x)) xs
flat_map-flat_map f g [] = refl
flat_map-flat_map f g (x ∷ xs) = flat_map-append f (g x) (flat_map g xs) ∙ ap (λ l. flat_map f (g x) ++ l) (flat_map-flat_map f g xs)

-- a cell of the index i is one of what stands there
pub first_place : (i count rest size offset : ℕ) → offset + (i * count + rest) * size ≡ offset + i * (count * size) + rest * size
first_place i count rest size offset = omega (arith, add-mul (i * count) rest size, mul_assoc i count size)

-- the cells of a box are those of each index of its first dimension
pub box_first : (size n s e : ℕ) (shape start extents bytes : List ℕ) (offset : ℕ)
    → box_bytes size (n ∷ shape) (s ∷ start) (e ∷ extents) bytes offset
    ≡ flat_map (λ i. box_bytes size shape start extents bytes (offset + i * (position_count shape * size))) (range_with_len s e)
box_first size n s e shape start extents bytes offset =
    let P = positions_from start extents in
    let C = cell_from size (n ∷ shape) bytes offset in
    flat_map-flat_map C (λ i. map (λ p. i ∷ p) P) (range_with_len s e)
    ∙ flat_map-same (λ i. flat_map C (map (λ p. i ∷ p) P)) (λ i. flat_map (cell_from size shape bytes (offset + i * (position_count shape * size))) P) (range_with_len s e)
    (λ i.
    flat_map-map C (λ p. i ∷ p) P
    ∙ flat_map-same (λ p. C (i ∷ p)) (cell_from size shape bytes (offset + i * (position_count shape * size))) P
    (λ p. ap (λ x. take size (drop x bytes)) (first_place i (position_count shape) (place shape p) size offset)))

-- runs that stand one after another are one
pub runs_joined : (block s e : ℕ) (bytes : List ℕ) (offset : ℕ)
    → flat_map (λ i. take block (drop (offset + i * block) bytes)) (range_with_len s e) ≡ take (e * block) (drop (offset + s * block) bytes)
runs_joined block s zero bytes offset =
    let none : 0 ≡ zero * block = omega arith in
    ap (λ k. take k (drop (offset + s * block) bytes)) none
runs_joined block s (suc e) bytes offset =
    let here = drop (offset + s * block) bytes in
    let next : offset + (s + 1) * block ≡ offset + s * block + block = omega (arith, add-mul s 1 block) in
    let all : block + e * block ≡ suc e * block = omega (arith, suc-mul e block) in
    ap (λ l. take block here ++ l) (runs_joined block (s + 1) e bytes offset)
    ∙ ap (λ k. take block here ++ take (e * block) (drop k bytes)) next
    ∙ ap (λ l. take block here ++ take (e * block) l) (sym (drop-drop block (offset + s * block) bytes))
    ∙ sym (take-add block (e * block) here)
    ∙ ap (λ k. take k here) all

-- the cells of whole inner dimensions, where the inner ones are the bytes of their array
run_of : (size n s e : ℕ) (shape start bytes : List ℕ) (offset : ℕ)
    → ((at : ℕ) → box_bytes size shape start shape bytes at ≡ take (position_count shape * size) (drop at bytes))
    → box_bytes size (n ∷ shape) (s ∷ start) (e ∷ shape) bytes offset
    ≡ take (e * (position_count shape * size)) (drop (offset + s * (position_count shape * size)) bytes)
run_of size n s e shape start bytes offset whole =
    let block = position_count shape * size in
    box_first size n s e shape start shape bytes offset
    ∙ flat_map-same (λ i. box_bytes size shape start shape bytes (offset + i * block)) (λ i. take block (drop (offset + i * block) bytes)) (range_with_len s e)
    (λ i. whole (offset + i * block))
    ∙ runs_joined block s e bytes offset

-- the cells of a whole array are its bytes
pub box_whole : (size : ℕ) (shape start bytes : List ℕ) (offset : ℕ) → BoxFits start shape shape
    → box_bytes size shape start shape bytes offset ≡ take (position_count shape * size) (drop offset bytes)
box_whole size [] [] bytes offset fits =
    let at : offset + 0 * size ≡ offset = omega arith in
    let len : size ≡ 1 * size = omega arith in
    append-nil (take size (drop (offset + 0 * size) bytes))
    ∙ ap (λ k. take size (drop k bytes)) at
    ∙ ap (λ k. take k (drop offset bytes)) len
box_whole size [] (s ∷ start) bytes offset fits = absurd fits
box_whole size (n ∷ shape) [] bytes offset fits = absurd fits
box_whole size (n ∷ shape) (s ∷ start) bytes offset fits =
    let block = position_count shape * size in
    let none : s + n ≤ n = fits.0 in
    let first : s ≡ 0 = omega arith in
    let zero_block : 0 * block ≡ 0 = omega arith in
    let at : offset + s * block ≡ offset = omega (arith, ap (λ k. k * block) first) in
    run_of size n s n shape start bytes offset (λ o. box_whole size shape start bytes o fits.1)
    ∙ ap (λ k. take (n * block) (drop k bytes)) at
    ∙ ap (λ k. take k (drop offset bytes)) (sym (mul_assoc n (position_count shape) size))

-- whole last dimensions
pub box_run : (size n s e : ℕ) (shape start bytes : List ℕ) (offset block : ℕ) → BoxFits start shape shape → block ≡ position_count shape * size
    → box_bytes size (n ∷ shape) (s ∷ start) (e ∷ shape) bytes offset ≡ take (e * block) (drop (offset + s * block) bytes)
box_run size n s e shape start bytes offset block fits is =
    run_of size n s e shape start bytes offset (λ o. box_whole size shape start bytes o fits)
    ∙ ap (λ b. take (e * b) (drop (offset + s * b) bytes)) (sym is)

within_whole : (start shape p : List ℕ) → BoxFits start shape shape → InShape shape p → is_within start shape p ≡ true
within_whole [] [] [] fits is = refl
within_whole [] [] (i ∷ p) fits is = absurd is
within_whole [] (n ∷ shape) p fits is = absurd fits
within_whole (s ∷ start) [] p fits is = absurd fits
within_whole (s ∷ start) (n ∷ shape) [] fits is = absurd is
within_whole (s ∷ start) (n ∷ shape) (i ∷ p) fits is =
    let none : s + n ≤ n = fits.0 in
    let lt : i < n = is.0 in
    and_from (in_range s n i) (is_within start shape p)
    (and_from (nat_le s i) (nat_lt i (s + n)) (le-leb s i (omega arith)) (lt-ltb i (s + n) (omega arith)))
    (within_whole start shape p fits.1 is.1)

-- the places of one index of the first dimension
pub may_read_inner : (may_read : ℕ → Bool) (size n s e i : ℕ) (shape start extents : List ℕ) (offset block : ℕ) → s ≤ i → i < s + e → block ≡ position_count shape * size
    → MayReadBox may_read size (n ∷ shape) (s ∷ start) (e ∷ extents) offset → MayReadBox may_read size shape start extents (offset + i * block)
may_read_inner may_read size n s e i shape start extents offset block from below is may position k inside lt =
    let count = position_count shape in
    let at : offset + i * block + place shape position * size + k ≡ offset + (i * count + place shape position) * size + k =
    omega (arith, first_place i count (place shape position) size offset, ap (λ b. i * b) is) in
    ap may_read at
    ∙ may (i ∷ position) k
    (and_from (in_range s e i) (is_within start extents position)
    (and_from (nat_le s i) (nat_lt i (s + e)) (le-leb s i from) (lt-ltb i (s + e) below))
    inside)
    lt

positive_size : (size count block : ℕ) → block ≡ count * size → 0 < block → 0 < size
positive_size zero count block is some = let none : count * zero ≡ 0 = omega arith in absurd (omega arith)
positive_size (suc size) count block is some = omega arith

-- the places of a run
pub may_read_run : (may_read : ℕ → Bool) (size n s e : ℕ) (shape start : List ℕ) (offset block : ℕ) → 0 < block → BoxFits start shape shape → block ≡ position_count shape * size
    → MayReadBox may_read size (n ∷ shape) (s ∷ start) (e ∷ shape) offset → MayReadPlaces may_read (offset + s * block) (e * block)
may_read_run may_read size n s e shape start offset block some fits is may x from below =
    let count = position_count shape in
    let y = x - offset in
    let i = y / block in
    let r = y % block in
    let c = r / size in
    let k = r % size in
    let p = unravel shape c in
    let some_size = positive_size size count block is some in
    let in_block : r < block = mod_below y block some in
    let in_count : c < count = (div-lt_iff_lt-mul {k = size} {x = r} {y = count} some_size).1 (omega arith) in
    let end : y < (s + e) * block = omega (arith, add-mul s e block) in
    let low : s ≤ i = not_below s i y block (div-lt_iff_lt-mul {k = block} {x = y} {y = s} some).0 (omega arith) in
    let high : i < s + e = (div-lt_iff_lt-mul {k = block} {x = y} {y = s + e} some).1 end in
    let inside : is_within start shape p ≡ true = within_whole start shape p fits (unravel_in shape c in_count) in
    let placed : place shape p ≡ c = place-unravel shape c in_count in
    let at : x ≡ offset + (i * count + place shape p) * size + k =
    omega (arith, first_place i count (place shape p) size offset, ap (λ b. i * b) is, ap (λ a. a * size) placed, div-add-mod' y block, div-add-mod' r size) in
    ap may_read at
    ∙ may (i ∷ p) k
    (and_from (in_range s e i) (is_within start shape p)
    (and_from (nat_le s i) (nat_lt i (s + e)) (le-leb s i low) (lt-ltb i (s + e) high))
    inside)
    (mod_below r size some_size)
  where
    not_below : (s i y block : ℕ) → (i < s → y < s * block) → s * block ≤ y → s ≤ i
    not_below s i y block below le = elim (cases_lt i s) [ inl lt ↦ (let past = below lt in absurd (omega arith)) | inr ge ↦ ge ]

pub may_read_cell : (may_read : ℕ → Bool) (size len offset : ℕ) → len ≡ position_count [] * size → MayReadBox may_read size [] [] [] offset → MayReadPlaces may_read offset len
may_read_cell may_read size len offset is may x from below =
    let at : x ≡ offset + 0 * size + (x - offset) = omega arith in
    ap may_read at ∙ may [] (x - offset) refl (omega arith)

-- what stands in a window of one index of the first dimension
block_is : (n count size len : ℕ) → len ≡ n * count * size → 0 < len → (len / n ≡ count * size) × (0 < n)
block_is zero count size len is some =
    let none : zero * count * size ≡ 0 = omega (arith, mul_assoc zero count size) in absurd (omega arith)
block_is (suc n) count size len is some = (
  ap (λ x. x / suc n) (is ∙ mul_assoc (suc n) count size ∙ mul_comm (suc n) (count * size)) ∙ mul-div_cancel (count * size) (omega arith),
  omega arith,
)

pub readable_row : (bytes : List ℕ) (may_read : ℕ → Bool) (size offset len n s e i : ℕ) (shape start extents : List ℕ) → s ≤ i → i < s + e
    → CanReadBox bytes may_read size offset len (n ∷ shape) (s ∷ start) (e ∷ extents)
    → CanReadBox bytes may_read size (offset + i * (len / n)) (len / n) shape start extents
readable_row bytes may_read size offset len n s e i shape start extents from below can =
    let count = position_count shape in
    let block = len / n in
    let is = block_is n count size len can.counted can.some in
    let fits : s + e ≤ n = can.fits.0 in
    let row : block + i * block ≤ n * block = omega (arith, mul-le-mul_right {m = suc i} {n = n} block (omega arith), suc-mul i block) in
    let all : n * block ≡ len = ap (λ b. n * b) is.0 ∙ sym (mul_assoc n count size) ∙ sym can.counted in
    record {
      small = can.small;
      inside = (let h = can.inside in omega arith);
      some = positive_block n block len all can.some;
      counted = is.0;
      fits = can.fits.1;
      allowed = may_read_inner may_read size n s e i shape start extents offset block from below is.0 can.allowed;
    }
  where
    positive_block : (n block len : ℕ) → n * block ≡ len → 0 < len → 0 < block
    positive_block n zero len is some = let none : n * zero ≡ 0 = omega arith in absurd (omega arith)
    positive_block n (suc block) len is some = omega arith

pub record IsReadableRun (bytes : List ℕ) (may_read : ℕ → Bool) (offset len : ℕ) : Type 0 where
  pub small : length bytes < 2 ^ 64
  pub inside : offset + len ≤ length bytes
  pub allowed : MayReadPlaces may_read offset len

pub readable_run : (bytes : List ℕ) (may_read : ℕ → Bool) (size offset len n s e : ℕ) (shape start : List ℕ)
    → CanReadBox bytes may_read size offset len (n ∷ shape) (s ∷ start) (e ∷ shape) → IsReadableRun bytes may_read (offset + s * (len / n)) (e * (len / n))
readable_run bytes may_read size offset len n s e shape start can =
    let count = position_count shape in
    let block = len / n in
    let is = block_is n count size len can.counted can.some in
    let fits : s + e ≤ n = can.fits.0 in
    let rows : s * block + e * block ≤ n * block = omega (arith, mul-le-mul_right {m = s + e} {n = n} block fits, add-mul s e block) in
    let all : n * block ≡ len = ap (λ b. n * b) is.0 ∙ sym (mul_assoc n count size) ∙ sym can.counted in
    record {
      small = can.small;
      inside = (let h = can.inside in omega arith);
      allowed = may_read_run may_read size n s e shape start offset block (positive_block n block len all can.some) can.fits.1 is.0 can.allowed;
    }
  where
    positive_block : (n block len : ℕ) → n * block ≡ len → 0 < len → 0 < block
    positive_block n zero len is some = let none : n * zero ≡ 0 = omega arith in absurd (omega arith)
    positive_block n (suc block) len is some = omega arith

-- the bytes of a run
pub run_bytes : (bytes : List ℕ) (may_read : ℕ → Bool) (size offset len n s e : ℕ) (shape start : List ℕ)
    → CanReadBox bytes may_read size offset len (n ∷ shape) (s ∷ start) (e ∷ shape)
    → box_bytes size (n ∷ shape) (s ∷ start) (e ∷ shape) bytes offset ≡ take (e * (len / n)) (drop (offset + s * (len / n)) bytes)
run_bytes bytes may_read size offset len n s e shape start can =
    box_run size n s e shape start bytes offset (len / n) can.fits.1 (block_is n (position_count shape) size len can.counted can.some).0

-- the bytes of all rows
pub rows_bytes : (bytes : List ℕ) (may_read : ℕ → Bool) (size offset len n s e : ℕ) (shape start extents : List ℕ)
    → CanReadBox bytes may_read size offset len (n ∷ shape) (s ∷ start) (e ∷ extents)
    → flat_map (λ i. box_bytes size shape start extents bytes (offset + i * (len / n))) (range_with_len s e)
    ≡ box_bytes size (n ∷ shape) (s ∷ start) (e ∷ extents) bytes offset
rows_bytes bytes may_read size offset len n s e shape start extents can =
    ap (λ b. flat_map (λ i. box_bytes size shape start extents bytes (offset + i * b)) (range_with_len s e)) (block_is n (position_count shape) size len can.counted can.some).0
    ∙ sym (box_first size n s e shape start extents bytes offset)

-- the bytes of one cell
pub cell_bytes_are : (size len : ℕ) (bytes : List ℕ) (offset : ℕ) → len ≡ position_count [] * size → box_bytes size [] [] [] bytes offset ≡ take len (drop offset bytes)
cell_bytes_are size len bytes offset is = box_whole size [] [] bytes offset tt ∙ ap (λ k. take k (drop offset bytes)) (sym is)

-- a box without dimensions has no start
pub no_start : (start extents : List ℕ) → BoxFits start extents [] → (start ≡ []) × (extents ≡ [])
no_start [] [] fits = (refl, refl)
no_start [] (e ∷ extents) fits = absurd fits
no_start (s ∷ start) [] fits = absurd fits
no_start (s ∷ start) (e ∷ extents) fits = absurd fits

-- an array without dimensions is one cell
pub no_dimension : (bytes : List ℕ) (may_read : ℕ → Bool) (size offset len : ℕ) (shape start extents : List ℕ) → length shape ≡ 0 → CanReadBox bytes may_read size offset len shape start extents
    → (box_bytes size shape start extents bytes offset ≡ take len (drop offset bytes)) × MayReadPlaces may_read offset len
no_dimension bytes may_read size offset len [] [] [] none can =
    (cell_bytes_are size len bytes offset can.counted, may_read_cell may_read size len offset can.counted can.allowed)
no_dimension bytes may_read size offset len [] [] (e ∷ extents) none can = absurd can.fits
no_dimension bytes may_read size offset len [] (s ∷ start) [] none can = absurd can.fits
no_dimension bytes may_read size offset len [] (s ∷ start) (e ∷ extents) none can = absurd can.fits
no_dimension bytes may_read size offset len (n ∷ shape) start extents none can = absurd (omega arith)

-- a run of whole last dimensions, in an array whose shape is known by its first dimension
pub record IsRun (bytes : List ℕ) (may_read : ℕ → Bool) (size offset at len : ℕ) (shape start extents : List ℕ) : Type 0 where
  pub inside : at + len ≤ length bytes
  pub allowed : MayReadPlaces may_read at len
  pub bytes_are : box_bytes size shape start extents bytes offset ≡ take len (drop at bytes)

pub run_at : (bytes : List ℕ) (may_read : ℕ → Bool) (size offset len n s e : ℕ) (shape start extents inner inner_start inner_extents : List ℕ)
    → shape ≡ n ∷ inner → start ≡ s ∷ inner_start → extents ≡ e ∷ inner_extents → inner_extents ≡ inner
    → CanReadBox bytes may_read size offset len shape start extents → IsRun bytes may_read size offset (offset + s * (len / n)) (e * (len / n)) shape start extents
run_at bytes may_read size offset len n s e shape start extents inner inner_start inner_extents shape_is start_is extents_is same can =
    let extents_now : extents ≡ e ∷ inner = extents_is ∙ ap (λ l. e ∷ l) same in
    let first = subst (λ l. CanReadBox bytes may_read size offset len l start extents) shape_is can in
    let second = subst (λ l. CanReadBox bytes may_read size offset len (n ∷ inner) l extents) start_is first in
    let third = subst (λ l. CanReadBox bytes may_read size offset len (n ∷ inner) (s ∷ inner_start) l) extents_now second in
    let run = readable_run bytes may_read size offset len n s e inner inner_start third in
    record {
      inside = run.inside;
      allowed = run.allowed;
      bytes_are =
          ap (λ l. box_bytes size l start extents bytes offset) shape_is
          ∙ ap (λ l. box_bytes size (n ∷ inner) l extents bytes offset) start_is
          ∙ ap (λ l. box_bytes size (n ∷ inner) (s ∷ inner_start) l bytes offset) extents_now
          ∙ run_bytes bytes may_read size offset len n s e inner inner_start third;
    }

-- the rows of a box, by the first dimension
pub record AreRows (bytes : List ℕ) (may_read : ℕ → Bool) (size offset len n s e : ℕ) (shape start extents inner inner_start inner_extents : List ℕ) : Type 0 where
  pub shorter : length inner < length shape
  pub row : (i : ℕ) → s ≤ i → i < s + e → CanReadBox bytes may_read size (offset + i * (len / n)) (len / n) inner inner_start inner_extents
  pub all : flat_map (λ i. box_bytes size inner inner_start inner_extents bytes (offset + i * (len / n))) (range_with_len s e) ≡ box_bytes size shape start extents bytes offset

pub rows_at : (bytes : List ℕ) (may_read : ℕ → Bool) (size offset len n s e : ℕ) (shape start extents inner inner_start inner_extents : List ℕ)
    → shape ≡ n ∷ inner → start ≡ s ∷ inner_start → extents ≡ e ∷ inner_extents
    → CanReadBox bytes may_read size offset len shape start extents → AreRows bytes may_read size offset len n s e shape start extents inner inner_start inner_extents
rows_at bytes may_read size offset len n s e shape start extents inner inner_start inner_extents shape_is start_is extents_is can =
    let first = subst (λ l. CanReadBox bytes may_read size offset len l start extents) shape_is can in
    let second = subst (λ l. CanReadBox bytes may_read size offset len (n ∷ inner) l extents) start_is first in
    let third = subst (λ l. CanReadBox bytes may_read size offset len (n ∷ inner) (s ∷ inner_start) l) extents_is second in
    record {
      shorter = omega (arith, ap length shape_is);
      row = λ i from below. readable_row bytes may_read size offset len n s e i inner inner_start inner_extents from below third;
      all =
          rows_bytes bytes may_read size offset len n s e inner inner_start inner_extents third
          ∙ sym
          (ap (λ l. box_bytes size l start extents bytes offset) shape_is
          ∙ ap (λ l. box_bytes size (n ∷ inner) l extents bytes offset) start_is
          ∙ ap (λ l. box_bytes size (n ∷ inner) (s ∷ inner_start) l bytes offset) extents_is);
    }

joined : (a b c : List ℕ) → (a ++ b) ++ c ≡ a ++ (b ++ c)
joined a b c = rw append_assoc refl

-- one row more
pub more_rows : (f : ℕ → List ℕ) (s n : ℕ) (old mid new : List ℕ) → mid ≡ old ++ flat_map f (range_with_len s n) → new ≡ mid ++ f (s + n) → new ≡ old ++ flat_map f (range_with_len s (n + 1))
more_rows f s n old mid new before more =
    more ∙ ap (λ l. l ++ f (s + n)) before ∙ joined old (flat_map f (range_with_len s n)) (f (s + n))
    ∙ ap (λ l. old ++ l) (sym (texts_more f s n (s + n) refl))

-- all rows
pub last_row : (f : ℕ → List ℕ) (s e n : ℕ) (old new all : List ℕ) → n ≡ e → new ≡ old ++ flat_map f (range_with_len s n) → flat_map f (range_with_len s e) ≡ all → new ≡ old ++ all
last_row f s e n old new all is before whole = before ∙ ap (λ k. old ++ flat_map f (range_with_len s k)) is ∙ ap (λ l. old ++ l) whole

-- ---- boxes in arrays

pub count_fits : (start extents shape : List ℕ) → BoxFits start extents shape → position_count extents ≤ position_count shape
count_fits [] [] [] fits = omega arith
count_fits [] [] (n ∷ shape) fits = absurd fits
count_fits [] (e ∷ extents) shape fits = absurd fits
count_fits (s ∷ start) [] shape fits = absurd fits
count_fits (s ∷ start) (e ∷ extents) [] fits = absurd fits
count_fits (s ∷ start) (e ∷ extents) (n ∷ shape) fits =
    let inner = count_fits start extents shape fits.1 in
    let first : s + e ≤ n = fits.0 in
    let less : e ≤ n = omega arith in
    omega (arith, mul-le-mul_left e inner, mul-le-mul_right {m = e} {n = n} (position_count shape) less)

-- the bytes of the cells of a box are no more than those of the array
pub bytes_fit : (start extents shape : List ℕ) (size len : ℕ) → BoxFits start extents shape → 0 < size → len ≡ position_count shape * size
    → (position_count extents * size ≤ len) × (position_count extents ≤ len)
bytes_fit start extents shape size len fits some is =
    let fewer = count_fits start extents shape fits in
    let one : 1 ≤ size = some in
    let more = mul-le-mul_right {m = position_count extents} {n = position_count shape} size fewer in
    let each = mul-le-mul_left (position_count extents) one in
    (omega arith, omega arith)

nothing : {X : Type 0} (xs : List X) → length xs ≡ 0 → xs ≡ []
nothing [] none = refl
nothing (x ∷ xs) none = absurd (omega arith)

-- a box without cells
pub no_bytes : (size : ℕ) (shape start extents bytes : List ℕ) (offset k : ℕ) → BoxFits start extents shape → k < length extents → slice_index extents k ≡ 0
    → box_bytes size shape start extents bytes offset ≡ []
no_bytes size shape start extents bytes offset k fits below zero_is =
    ap (flat_map (cell_from size shape bytes offset))
    (nothing (positions_from start extents)
    (length-positions start extents (length_fits start extents shape fits) ∙ count_zero extents k below zero_is))

pub can_read : (bytes : List ℕ) (may_read : ℕ → Bool) (size offset len : ℕ) (shape start extents : List ℕ) → length bytes < 2 ^ 64 → offset + len ≤ length bytes → 0 < size
    → len ≡ position_count shape * size → BoxFits start extents shape → MayReadBox may_read size shape start extents offset → AllSome extents
    → CanReadBox bytes may_read size offset len shape start extents
can_read bytes may_read size offset len shape start extents small inside positive counted fits allowed full =
    let some = count_some extents full in
    let room = bytes_fit start extents shape size len fits positive counted in
    record { small = small; inside = inside; some = (let h = room.1 in omega arith); counted = counted; fits = fits; allowed = allowed }
