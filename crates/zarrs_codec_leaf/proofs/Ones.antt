-- Boxes without the dimensions of extent 1.
use Rattle.std.proofs.Common.{◌≡◌, ℕ, zero, suc, ◌+◌, ◌*◌, ◌<◌, ◌≤◌, Bool, true, false, cond, eqb, List, [], ◌∷◌, ◌++◌, length}
use Rattle.std.proofs.Common.{refl, sym, ap, subst, ◌∙◌, arith}
use Rattle.std.specs.Prelude.{nat_le, nat_lt}
use Rattle.std.specs.List.{flat_map, range_with_len}
use Rattle.std.proofs.lemmas.List.{append-nil}
use Rattle.std.proofs.lemmas.Bool.{eqb-true, and_parts, leb-true, ltb-true, false≢true}
use Rattle.zarrs_subset.specs.Boxes.{position_count, place, BoxFits, in_range, is_within, without_ones}
use Rattle.zarrs_subset.proofs.Ones.{count-without_ones}
use Rattle.zarrs_subset.proofs.Overlaps.{AllSome}
use Rattle.zarrs_codec_leaf.specs.BoxReads.{box_bytes, MayReadBox, CanReadBox}
use Rattle.zarrs_codec_leaf.proofs.RowReads.{flat_map-same, first_place, box_first, may_read_inner}

-- ---- the array without them

pub length-shape : (start extents shape : List ℕ) → BoxFits start extents shape → (length shape ≡ length start) × (length shape ≡ length extents)
length-shape [] [] [] fits = (refl, refl)
length-shape [] [] (n ∷ shape) fits = absurd fits
length-shape [] (e ∷ extents) shape fits = absurd fits
length-shape (s ∷ start) [] shape fits = absurd fits
length-shape (s ∷ start) (e ∷ extents) [] fits = absurd fits
length-shape (s ∷ start) (e ∷ extents) (n ∷ shape) fits =
    let rest = length-shape start extents shape fits.1 in
    (ap suc rest.0, ap suc rest.1)

-- ---- a box of it

fits_step : (n s e : ℕ) (shape start extents : List ℕ) (b : Bool) → s + e ≤ n → BoxFits start extents shape
    → BoxFits (cond b start (s ∷ start)) (cond b extents (e ∷ extents)) (cond b shape (n ∷ shape))
fits_step n s e shape start extents true first rest = rest
fits_step n s e shape start extents false first rest = (first, rest)

fits-without_ones : (start extents shape : List ℕ) → BoxFits start extents shape → BoxFits (without_ones shape start) (without_ones shape extents) (without_ones shape shape)
fits-without_ones [] [] [] fits = fits
fits-without_ones [] [] (n ∷ shape) fits = absurd fits
fits-without_ones [] (e ∷ extents) shape fits = absurd fits
fits-without_ones (s ∷ start) [] shape fits = absurd fits
fits-without_ones (s ∷ start) (e ∷ extents) [] fits = absurd fits
fits-without_ones (s ∷ start) (e ∷ extents) (n ∷ shape) fits =
    fits_step n s e (without_ones shape shape) (without_ones shape start) (without_ones shape extents) (eqb n 1) fits.0 (fits-without_ones start extents shape fits.1)

pub first_some : (e : ℕ) (extents : List ℕ) → AllSome (e ∷ extents) → 0 < e
first_some e extents some = let here : e ≡ 0 → ⊥ = some zero (omega arith) in omega arith

pub rest_some : (e : ℕ) (extents : List ℕ) → AllSome (e ∷ extents) → AllSome extents
rest_some e extents some k below none = some (suc k) (omega arith) none

-- the only index of a dimension of extent 1
only : (n s e : ℕ) → n ≡ 1 → s + e ≤ n → 0 < e → (s ≡ 0) × (e ≡ 1)
only n s e one fits some = (omega arith, omega arith)

-- the cells, where `W`, `S` and `X` are what is left of the inner dimensions
bytes_step : (size n s e : ℕ) (shape start extents W S X bytes : List ℕ) (offset : ℕ) (b : Bool) → eqb n 1 ≡ b → s + e ≤ n → 0 < e → position_count W ≡ position_count shape
    → ((at : ℕ) → box_bytes size W S X bytes at ≡ box_bytes size shape start extents bytes at)
    → box_bytes size (cond b W (n ∷ W)) (cond b S (s ∷ S)) (cond b X (e ∷ X)) bytes offset ≡ box_bytes size (n ∷ shape) (s ∷ start) (e ∷ extents) bytes offset
bytes_step size n s e shape start extents W S X bytes offset true is fits some count rows =
    let block = position_count shape * size in
    let index = only n s e (eqb-true n 1 is) fits some in
    let at : offset ≡ offset + 0 * block = omega arith in
    rows offset
    ∙ ap (λ o. box_bytes size shape start extents bytes o) at
    ∙ sym (append-nil (box_bytes size shape start extents bytes (offset + 0 * block)))
    ∙ ap (λ c. flat_map (λ i. box_bytes size shape start extents bytes (offset + i * block)) (range_with_len 0 c)) (sym index.1)
    ∙ ap (λ from. flat_map (λ i. box_bytes size shape start extents bytes (offset + i * block)) (range_with_len from e)) (sym index.0)
    ∙ sym (box_first size n s e shape start extents bytes offset)
bytes_step size n s e shape start extents W S X bytes offset false is fits some count rows =
    let kept = position_count W * size in
    box_first size n s e W S X bytes offset
    ∙ flat_map-same (λ i. box_bytes size W S X bytes (offset + i * kept)) (λ i. box_bytes size shape start extents bytes (offset + i * kept)) (range_with_len s e)
    (λ i. rows (offset + i * kept))
    ∙ ap (λ c. flat_map (λ i. box_bytes size shape start extents bytes (offset + i * (c * size))) (range_with_len s e)) count
    ∙ sym (box_first size n s e shape start extents bytes offset)

pub bytes-without_ones : (size : ℕ) (start extents shape bytes : List ℕ) (offset : ℕ) → BoxFits start extents shape → AllSome extents
    → box_bytes size (without_ones shape shape) (without_ones shape start) (without_ones shape extents) bytes offset ≡ box_bytes size shape start extents bytes offset
bytes-without_ones size [] [] [] bytes offset fits some = refl
bytes-without_ones size [] [] (n ∷ shape) bytes offset fits some = absurd fits
bytes-without_ones size [] (e ∷ extents) shape bytes offset fits some = absurd fits
bytes-without_ones size (s ∷ start) [] shape bytes offset fits some = absurd fits
bytes-without_ones size (s ∷ start) (e ∷ extents) [] bytes offset fits some = absurd fits
bytes-without_ones size (s ∷ start) (e ∷ extents) (n ∷ shape) bytes offset fits some =
    bytes_step size n s e shape start extents (without_ones shape shape) (without_ones shape start) (without_ones shape extents) bytes offset (eqb n 1) refl fits.0
    (first_some e extents some) (count-without_ones shape)
    (λ at. bytes-without_ones size start extents shape bytes at fits.1 (rest_some e extents some))

-- the places that may be read, where the dimension is kept
may_kept : (may_read : ℕ → Bool) (size n s e : ℕ) (shape start extents W S X : List ℕ) (offset : ℕ) → position_count W ≡ position_count shape
    → ((at : ℕ) → MayReadBox may_read size shape start extents at → MayReadBox may_read size W S X at)
    → MayReadBox may_read size (n ∷ shape) (s ∷ start) (e ∷ extents) offset
    → MayReadBox may_read size (n ∷ W) (s ∷ S) (e ∷ X) offset
may_kept may_read size n s e shape start extents W S X offset count rows may [] k inside lt = absurd (false≢true inside)
may_kept may_read size n s e shape start extents W S X offset count rows may (i ∷ q) k inside lt =
    let kept = position_count W * size in
    let both = and_parts (in_range s e i) (is_within S X q) inside in
    let ends = and_parts (nat_le s i) (nat_lt i (s + e)) both.0 in
    let from : s ≤ i = leb-true s i ends.0 in
    let below : i < s + e = ltb-true i (s + e) ends.1 in
    let at : offset + (i * position_count W + place W q) * size + k ≡ offset + i * kept + place W q * size + k = omega (arith, first_place i (position_count W) (place W q) size offset) in
    ap may_read at
    ∙ rows (offset + i * kept)
    (may_read_inner may_read size n s e i shape start extents offset kept from below (ap (λ c. c * size) count) may)
    q k both.1 lt

-- the places that may be read
may_step : (may_read : ℕ → Bool) (size n s e : ℕ) (shape start extents W S X : List ℕ) (offset : ℕ) (b : Bool) → eqb n 1 ≡ b → s + e ≤ n → 0 < e
    → position_count W ≡ position_count shape
    → ((at : ℕ) → MayReadBox may_read size shape start extents at → MayReadBox may_read size W S X at)
    → MayReadBox may_read size (n ∷ shape) (s ∷ start) (e ∷ extents) offset
    → MayReadBox may_read size (cond b W (n ∷ W)) (cond b S (s ∷ S)) (cond b X (e ∷ X)) offset
may_step may_read size n s e shape start extents W S X offset true is fits some count rows may =
    let block = position_count shape * size in
    let index = only n s e (eqb-true n 1 is) fits some in
    let at : offset + s * block ≡ offset = omega (arith, ap (λ i. i * block) index.0) in
    rows offset
    (subst (λ o. MayReadBox may_read size shape start extents o) at
    (may_read_inner may_read size n s e s shape start extents offset block (omega arith) (omega arith) refl may))
may_step may_read size n s e shape start extents W S X offset false is fits some count rows may =
    may_kept may_read size n s e shape start extents W S X offset count rows may

may-without_ones : (may_read : ℕ → Bool) (size : ℕ) (start extents shape : List ℕ) (offset : ℕ) → BoxFits start extents shape → AllSome extents
    → MayReadBox may_read size shape start extents offset
    → MayReadBox may_read size (without_ones shape shape) (without_ones shape start) (without_ones shape extents) offset
may-without_ones may_read size [] [] [] offset fits some may = may
may-without_ones may_read size [] [] (n ∷ shape) offset fits some may = absurd fits
may-without_ones may_read size [] (e ∷ extents) shape offset fits some may = absurd fits
may-without_ones may_read size (s ∷ start) [] shape offset fits some may = absurd fits
may-without_ones may_read size (s ∷ start) (e ∷ extents) [] offset fits some may = absurd fits
may-without_ones may_read size (s ∷ start) (e ∷ extents) (n ∷ shape) offset fits some may =
    may_step may_read size n s e shape start extents (without_ones shape shape) (without_ones shape start) (without_ones shape extents) offset (eqb n 1) refl fits.0
    (first_some e extents some) (count-without_ones shape)
    (λ at. may-without_ones may_read size start extents shape at fits.1 (rest_some e extents some)) may

-- the box can be read without them
pub can-without_ones : (bytes : List ℕ) (may_read : ℕ → Bool) (size offset len : ℕ) (shape start extents : List ℕ) → AllSome extents
    → CanReadBox bytes may_read size offset len shape start extents
    → CanReadBox bytes may_read size offset len (without_ones shape shape) (without_ones shape start) (without_ones shape extents)
can-without_ones bytes may_read size offset len shape start extents some can = record {
  small = can.small;
  inside = can.inside;
  some = can.some;
  counted = can.counted ∙ ap (λ c. c * size) (sym (count-without_ones shape));
  fits = fits-without_ones start extents shape can.fits;
  allowed = may-without_ones may_read size start extents shape offset can.fits some can.allowed;
}

pub can_read_kept : (bytes : List ℕ) (may_read : ℕ → Bool) (size offset len : ℕ) (shape start extents W S X : List ℕ)
    → W ≡ without_ones shape shape → S ≡ without_ones shape start → X ≡ without_ones shape extents → AllSome extents
    → CanReadBox bytes may_read size offset len shape start extents → CanReadBox bytes may_read size offset len W S X
can_read_kept bytes may_read size offset len shape start extents W S X shape_is start_is extents_is some can =
    let all = can-without_ones bytes may_read size offset len shape start extents some can in
    let first = subst (λ l. CanReadBox bytes may_read size offset len l (without_ones shape start) (without_ones shape extents)) (sym shape_is) all in
    let second = subst (λ l. CanReadBox bytes may_read size offset len W l (without_ones shape extents)) (sym start_is) first in
    subst (λ l. CanReadBox bytes may_read size offset len W S l) (sym extents_is) second

-- what was made of the box without them
pub bytes_kept : (size offset : ℕ) (shape start extents W S X bytes old made : List ℕ)
    → W ≡ without_ones shape shape → S ≡ without_ones shape start → X ≡ without_ones shape extents → BoxFits start extents shape → AllSome extents
    → old ≡ [] → made ≡ old ++ box_bytes size W S X bytes offset → made ≡ box_bytes size shape start extents bytes offset
bytes_kept size offset shape start extents W S X bytes old made shape_is start_is extents_is fits some none is =
    is
    ∙ ap (λ l. l ++ box_bytes size W S X bytes offset) none
    ∙ ap (λ l. box_bytes size l S X bytes offset) shape_is
    ∙ ap (λ l. box_bytes size (without_ones shape shape) l X bytes offset) start_is
    ∙ ap (λ l. box_bytes size (without_ones shape shape) (without_ones shape start) l bytes offset) extents_is
    ∙ bytes-without_ones size start extents shape bytes offset fits some
