-- The byte strings of a box, row by row.
use Rattle.std.proofs.Common.{◌≡◌, ℕ, zero, suc, ◌+◌, ◌-◌, ◌*◌, ◌/◌, ◌<◌, ◌≤◌, Ok, Err, List, [], ◌∷◌, ◌++◌, length, map, drop, get_or}
use Rattle.std.proofs.Common.{refl, sym, ap, ◌∙◌, arith}
use Rattle.std.specs.Prelude.{slice_index, slice_range, OnOk, Result}
use Rattle.std.specs.List.{flat_map, range_with_len}
use Rattle.std.proofs.Math.Nat.{mul-le-mul_right, add-mul, mul-div_cancel_left}
use Rattle.std.proofs.lemmas.Grind.{flat_map-append, get_or_after_one}
use Rattle.std.proofs.lemmas.List.{ext_get_or, get_or-drop, get_or-take, length-drop, length-take-le, append-nil, append_assoc, map-append}
use Rattle.std.proofs.lemmas.List.Concat.{flat_map_single}
use Rattle.std.proofs.lemmas.List.FromFn.{length-map-range_with_len, get_or-map-range_with_len}
use Rattle.std.proofs.lemmas.Simd.{map-map}
use Rattle.zarrs_subset.specs.Boxes.{position_count, positions_from, place, offset_from}
use Rattle.zarrs_subset.specs.Regions.{Box, box_from, LiesInBox}
use Rattle.zarrs_data_type_bytes.specs.StringParts.{string_at, string_from}

-- numbers from `a` on, one more
range_more : (a n : ℕ) → range_with_len a (n + 1) ≡ range_with_len a n ++ (a + n) ∷ []
range_more a n = let one : n + 1 ≡ suc n = omega arith in ap (range_with_len a) one ∙ last a n
  where
    last : (b m : ℕ) → range_with_len b (suc m) ≡ range_with_len b m ++ (b + m) ∷ []
    last b zero = let here : b ≡ b + zero = omega arith in ap (λ x. x ∷ []) here
    last b (suc m) =
        let next : b + 1 + m ≡ b + suc m = omega arith in
        ap (λ l. b ∷ l) (last (b + 1) m ∙ ap (λ x. range_with_len (b + 1) m ++ x ∷ []) next)

-- functions that agree
map_agree : {X Y : Type 0} (f g : X → Y) → ((x : X) → f x ≡ g x) → (xs : List X) → map f xs ≡ map g xs
map_agree f g same [] = refl
map_agree f g same (x ∷ xs) = ap (λ y. y ∷ map f xs) (same x) ∙ ap (λ l. g x ∷ l) (map_agree f g same xs)

-- the only row of a box of one dimension
pub row_is : (strings : List (List ℕ)) (from s e h n : ℕ) → h ≤ s → from + (s - h) + e ≤ length strings
    → slice_range strings (from + (s - h)) (from + (s - h) + e) ≡ map (string_from strings from (h ∷ []) (n ∷ [])) (positions_from (s ∷ []) (e ∷ []))
row_is strings from s e h n le room =
    let f : ℕ → List ℕ = λ i. string_from strings from (h ∷ []) (n ∷ []) (i ∷ []) in
    let a = from + (s - h) in
    let len : (a + e) - a ≡ e = omega arith in
    let row = slice_range strings a (a + e) in
    let long : length row ≡ e = length-take-le ((a + e) - a) (drop a strings) (omega (arith, length-drop a strings)) ∙ len in
    ext_get_or [] row (map f (range_with_len s e)) (long ∙ sym (length-map-range_with_len f s e))
    (λ i lt.
    let below : i < e = omega (arith, long) in
    let at : from + ((s + i - h) * 1 + 0) ≡ a + i = omega arith in
    get_or-take ((a + e) - a) (drop a strings) i [] (omega arith)
    ∙ get_or-drop a strings i []
    ∙ ap (λ k. get_or strings k []) (sym at)
    ∙ sym (get_or-map-range_with_len f s e i (s + i) [] below refl))
    ∙ sym (map-map (string_from strings from (h ∷ []) (n ∷ [])) (λ i. i ∷ []) (range_with_len s e))
    ∙ ap (map (string_from strings from (h ∷ []) (n ∷ []))) (sym (flat_map_single (λ i. i ∷ []) (range_with_len s e)))

-- the part of a box that has the first index `i`
slab_is : (strings : List (List ℕ)) (from i h n block : ℕ) (hs ns : List ℕ) → block ≡ position_count ns → (ps : List (List ℕ))
    → map (string_from strings from (h ∷ hs) (n ∷ ns)) (map (λ p. i ∷ p) ps) ≡ map (string_from strings (from + (i - h) * block) hs ns) ps
slab_is strings from i h n block hs ns is ps =
    map-map (string_from strings from (h ∷ hs) (n ∷ ns)) (λ p. i ∷ p) ps
    ∙ map_agree (λ p. string_from strings from (h ∷ hs) (n ∷ ns) (i ∷ p)) (string_from strings (from + (i - h) * block) hs ns)
    (λ p.
    let at : from + ((i - h) * position_count ns + place ns (offset_from hs p)) ≡ from + (i - h) * block + place ns (offset_from hs p) =
    ap (λ c. from + ((i - h) * c + place ns (offset_from hs p))) (sym is) ∙ omega arith in
    ap (λ k. get_or strings k []) at) ps

-- one slab more
pub slab_more : (strings : List (List ℕ)) (from s h n k block number : ℕ) (hs ns : List ℕ) (ps : List (List ℕ)) (old made next : List (List ℕ))
    → h ≤ s → block ≡ position_count ns → number ≡ from + (s - h + k) * block
    → made ≡ old ++ map (string_from strings from (h ∷ hs) (n ∷ ns)) (flat_map (λ i. map (λ p. i ∷ p) ps) (range_with_len s k))
    → next ≡ made ++ map (string_from strings number hs ns) ps
    → next ≡ old ++ map (string_from strings from (h ∷ hs) (n ∷ ns)) (flat_map (λ i. map (λ p. i ∷ p) ps) (range_with_len s (k + 1)))
slab_more strings from s h n k block number hs ns ps old made next le is at kept pushed =
    let f = string_from strings from (h ∷ hs) (n ∷ ns) in
    let slab : ℕ → List (List ℕ) = λ i. map (λ p. i ∷ p) ps in
    let index : s + k - h ≡ s - h + k = omega arith in
    let number_is : from + (s + k - h) * block ≡ number = ap (λ j. from + j * block) index ∙ sym at in
    pushed
    ∙ ap (λ m. m ++ map (string_from strings number hs ns) ps) kept
    ∙ ap (λ j. (old ++ map f (flat_map slab (range_with_len s k))) ++ map (string_from strings j hs ns) ps) (sym number_is)
    ∙ ap (λ l. (old ++ map f (flat_map slab (range_with_len s k))) ++ l) (sym (slab_is strings from (s + k) h n block hs ns is ps))
    ∙ append_assoc old (map f (flat_map slab (range_with_len s k))) (map f (slab (s + k)))
    ∙ ap (λ l. old ++ l) (sym (map-append f (flat_map slab (range_with_len s k)) (slab (s + k))))
    ∙ ap (λ l. old ++ map f (flat_map slab (range_with_len s k) ++ l)) (sym (append-nil (slab (s + k))))
    ∙ ap (λ l. old ++ map f l) (sym (flat_map-append slab (range_with_len s k) ((s + k) ∷ [])))
    ∙ ap (λ l. old ++ map f (flat_map slab l)) (sym (range_more s k))

-- ---- a box, dimension by dimension

-- the same of lists of one number each
pub row_of : (strings : List (List ℕ)) (from : ℕ) (hs ns ss es : List ℕ) → length hs ≡ length ns → length ss ≡ length es → length ss ≡ length hs → length es ≡ 1
    → slice_index hs 0 ≤ slice_index ss 0 → from + (slice_index ss 0 - slice_index hs 0) + slice_index es 0 ≤ length strings
    → slice_range strings (from + (slice_index ss 0 - slice_index hs 0)) (from + (slice_index ss 0 - slice_index hs 0) + slice_index es 0) ≡ map (string_from strings from hs ns) (positions_from ss es)
row_of strings from (h ∷ []) (n ∷ []) (s ∷ []) (e ∷ []) held_long part_long same one le room = row_is strings from s e h n le room
row_of strings from hs ns ss [] held_long part_long same one le room = absurd (omega arith)
row_of strings from hs ns ss (e ∷ d ∷ es) held_long part_long same one le room = absurd (omega arith)
row_of strings from hs ns [] (e ∷ []) held_long part_long same one le room = absurd (omega arith)
row_of strings from hs ns (s ∷ t ∷ ss) (e ∷ []) held_long part_long same one le room = absurd (omega arith)
row_of strings from [] ns (s ∷ []) (e ∷ []) held_long part_long same one le room = absurd (omega arith)
row_of strings from (h ∷ g ∷ hs) ns (s ∷ []) (e ∷ []) held_long part_long same one le room = absurd (omega arith)
row_of strings from (h ∷ []) [] (s ∷ []) (e ∷ []) held_long part_long same one le room = absurd (omega arith)
row_of strings from (h ∷ []) (n ∷ m ∷ ns) (s ∷ []) (e ∷ []) held_long part_long same one le room = absurd (omega arith)

-- one slab more
pub slab_next : (strings : List (List ℕ)) (from : ℕ) (hs ns ss es : List ℕ) (k block number : ℕ) (old made next : List (List ℕ))
    → 0 < length hs → 0 < length ns → slice_index hs 0 ≤ slice_index ss 0 → block ≡ position_count (drop 1 ns) → number ≡ from + (slice_index ss 0 - slice_index hs 0 + k) * block
    → made ≡ old ++ map (string_from strings from hs ns) (flat_map (λ i. map (λ p. i ∷ p) (positions_from (drop 1 ss) (drop 1 es))) (range_with_len (slice_index ss 0) k))
    → next ≡ made ++ map (string_from strings number (drop 1 hs) (drop 1 ns)) (positions_from (drop 1 ss) (drop 1 es))
    → next ≡ old ++ map (string_from strings from hs ns) (flat_map (λ i. map (λ p. i ∷ p) (positions_from (drop 1 ss) (drop 1 es))) (range_with_len (slice_index ss 0) (k + 1)))
slab_next strings from (h ∷ hs) (n ∷ ns) ss es k block number old made next some_h some_n le is at kept pushed =
    slab_more strings from (slice_index ss 0) h n k block number hs ns (positions_from (drop 1 ss) (drop 1 es)) old made next le is at kept pushed
slab_next strings from [] ns ss es k block number old made next some_h some_n le is at kept pushed = absurd (omega arith)
slab_next strings from (h ∷ hs) [] ss es k block number old made next some_h some_n le is at kept pushed = absurd (omega arith)

-- all slabs
pub all_slabs : (ss es : List ℕ) → 0 < length ss → 0 < length es
    → flat_map (λ i. map (λ p. i ∷ p) (positions_from (drop 1 ss) (drop 1 es))) (range_with_len (slice_index ss 0) (slice_index es 0)) ≡ positions_from ss es
all_slabs (s ∷ ss) (e ∷ es) some_s some_e = refl
all_slabs [] es some_s some_e = absurd (omega arith)
all_slabs (s ∷ ss) [] some_s some_e = absurd (omega arith)

-- the dimensions behind the first one
pub inside_rest : (hs ns ss es : List ℕ) → LiesInBox (box_from ss es) (box_from hs ns) → LiesInBox (box_from (drop 1 ss) (drop 1 es)) (box_from (drop 1 hs) (drop 1 ns))
inside_rest hs ns ss es inside = record {
  same_length = omega (arith, length-drop 1 ss, length-drop 1 hs, inside.same_length);
  starts = λ k lt.
      let here : 1 + k < length hs = omega (arith, length-drop 1 hs) in
      omega (arith, inside.starts (1 + k) here, get_or_after_one hs k 0, get_or_after_one ss k 0);
  ends = λ k lt.
      let here : 1 + k < length hs = omega (arith, length-drop 1 hs) in
      omega (arith, inside.ends (1 + k) here, get_or_after_one hs k 0, get_or_after_one ss k 0, get_or_after_one ns k 0, get_or_after_one es k 0);
}

-- the positions of one index of the first dimension
pub block_is : (count : ℕ) (ns : List ℕ) → 0 < length ns → 0 < slice_index ns 0 → count ≡ position_count ns
    → (count ≡ slice_index ns 0 * position_count (drop 1 ns)) × (count / slice_index ns 0 ≡ position_count (drop 1 ns))
block_is count [] some positive is = absurd (omega arith)
block_is count (n ∷ ns) some positive is = (is, ap (λ c. c / n) is ∙ mul-div_cancel_left (position_count ns) positive)

-- one index of the first dimension leaves room for its positions
pub block_room : (from first index n block count total : ℕ) → first + index < n → count ≡ n * block → from + count ≤ total → from + (first + index) * block + block ≤ total
block_room from first index n block count total lt is room =
    let le : first + index + 1 ≤ n = omega arith in
    omega (arith, mul-le-mul_right block le, add-mul (first + index) 1 block)

-- a whole array begins with number 0
pub strings_at_box : (strings : List (List ℕ)) (box : Box) (ps : List (List ℕ)) → map (string_from strings 0 box.start box.shape) ps ≡ map (string_at box strings) ps
strings_at_box strings box ps =
    map_agree (string_from strings 0 box.start box.shape) (string_at box strings)
    (λ p. let none : 0 + place box.shape (offset_from box.start p) ≡ place box.shape (offset_from box.start p) = omega arith in ap (λ k. get_or strings k []) none) ps

pub on_ok : {T E : Type 0} (r : Result T E) (P Q : Type 0) → (P → Q) → OnOk r P → OnOk r Q
on_ok (Ok x) P Q f h = f h
on_ok (Err e) P Q f h = tt

-- a list with a number that is not 0 has numbers
pub filled : (es : List ℕ) → ¬ (slice_index es 0 ≡ 0) → 0 < length es
filled [] some = absurd (some refl)
filled (e ∷ es) some = omega arith

pub one_count : (ns : List ℕ) → length ns ≡ 1 → position_count ns ≡ slice_index ns 0
one_count [] one = absurd (omega arith)
one_count (n ∷ []) one = omega arith
one_count (n ∷ m ∷ ns) one = absurd (omega arith)
