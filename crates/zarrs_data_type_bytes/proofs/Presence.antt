-- The cells of optional data that are some.
use Rattle.std.proofs.Common.{◌≡◌, ◌==◌, ℕ, zero, suc, ◌+◌, ◌<◌, ◌≤◌, Bool, true, false, cond, eqb, not, List, [], ◌∷◌}
use Rattle.std.proofs.Common.{◌++◌, length, map, take, get_or, Option, None, Some, IsTrue, refl, sym, ap, ◌∙◌, subst}
use Rattle.std.proofs.Common.{append-nil, arith}
use Rattle.std.specs.Prelude.{All, IsSome, IfSome, filter, count_by, slice_index}
use Rattle.std.specs.List.{range_with_len}
use Rattle.std.proofs.lemmas.Bool.{and_parts, eq-eqb, eqb-true, false_from_ne_true, and_from}
use Rattle.std.proofs.lemmas.List.{length-map, get_or-map, length_push, get_or_push, get_or_append_left}
use borrow.Author.Count.{below_more}
use Rattle.std.proofs.lemmas.List.FromFn.{length-map-range_with_len, get_or-map-range_with_len, map-range_with_len_more}
use Rattle.std.proofs.lemmas.List.FromFn.{filter_of_map_range_with_len_more}
use Rattle.std.proofs.lemmas.List.Sums.{AllPass-from_list_all, sum_by-cons, sum_by-take-le, count_by_more_yes}
use Rattle.zarrs_data_type_kinds.specs.declared.data_type.DataType.{DataType}
use Rattle.zarrs_data_type_kinds.specs.Kind.{Kind, kind, element_size}
use Rattle.zarrs_data_type_kinds.specs.Kind as type
use Rattle.zarrs_data_type_kinds.specs.Cell.{Cell, bytes, none, some, is_value, are_values}
use Rattle.zarrs_data_type_kinds.proofs.Sizes.{element_size-positive}
use Rattle.zarrs_data_type_bytes.specs.ArrayData.{ArrayData, optional}
use Rattle.zarrs_data_type_bytes.specs.Cells.{fits, cell_at, cells, HasCells, CanSelect, IsSelection}
use Rattle.zarrs_data_type_bytes.specs.Present.{flag_set, ranks_set, present_cells, spread_cells}
use Rattle.zarrs_data_type_bytes.proofs.Cells.{cells-parts, cells-values, cells-as, count_of-fits, HasCells-cells, HasCells-parts}
use Rattle.zarrs_data_type_bytes.proofs.Filled.{fits-optional}
use Rattle.zarrs_data_type_bytes.proofs.Places.{places_set}

-- ---- the cells that are some, taken out

map-same : (xs : List ℕ) → map (λ i. i) xs ≡ xs
map-same [] = refl
map-same (x ∷ xs) = ap (λ l. x ∷ l) (map-same xs)

-- of cells by number, those at the places of the set flags
present-map : (mask : List ℕ) (g : ℕ → Cell) (is : List ℕ) → present_cells (map (λ i. cond (slice_index mask i == 0) none (some (g i))) is) ≡ map g (filter (λ i. flag_set (slice_index mask i)) is)
present-map mask g [] = refl
present-map mask g (i ∷ is) = go (slice_index mask i == 0) (present-map mask g is)
  where
    go : (b : Bool) → present_cells (map (λ j. cond (slice_index mask j == 0) none (some (g j))) is) ≡ map g (filter (λ j. flag_set (slice_index mask j)) is)
        → present_cells (cond b none (some (g i)) ∷ map (λ j. cond (slice_index mask j == 0) none (some (g j))) is) ≡ map g (cond (not b) (i ∷ filter (λ j. flag_set (slice_index mask j)) is) (filter (λ j. flag_set (slice_index mask j)) is))
    go true rest = rest
    go false rest = ap (λ l. g i ∷ l) rest

-- values of an optional type hold values of the inner type
present-values : (u : Kind) (cs : List Cell) → are_values (type.optional u) cs ≡ true → are_values u (present_cells cs) ≡ true
present-values u [] is = refl
present-values u (bytes b ∷ cs) is = present-values u cs (and_parts (is_value (type.optional u) (bytes b)) (are_values (type.optional u) cs) is).1
present-values u (none ∷ cs) is = present-values u cs is
present-values u (some c ∷ cs) is =
    let both = and_parts (is_value u c) (are_values (type.optional u) cs) is in
    and_from (is_value u c) (are_values u (present_cells cs)) both.0 (present-values u cs both.1)

pub CanSelect-places : (u : Kind) (mask : List ℕ) (d : ArrayData) (places : List ℕ) → IsSome (cells (type.optional u) (optional mask d)) → All (λ p. p < length mask) places → CanSelect u d places
CanSelect-places u mask d places there within = go (cells (type.optional u) (optional mask d)) refl there
  where
    go : (o : Option (List Cell)) → cells (type.optional u) (optional mask d) ≡ o → IsSome o → CanSelect u d places
    go None is h = let nothing : IsSome {T = List Cell} None = h in cc
    go (Some cs) is h =
        let at = fits-optional (type.optional u) mask d (length cs) (cells-parts (type.optional u) (optional mask d) cs is).0 in
        let same : at.0 ≡ u = cc in
        (length mask, subst (λ m. fits u d m ≡ true) (sym at.2) (subst (λ v. fits v d (length cs) ≡ true) same at.3), within)

-- the cells of what was taken
pub cells-present : (t : DataType) (mask : List ℕ) (d new : ArrayData) (places : List ℕ) → places ≡ places_set mask (length mask) → IsSelection (kind t) new d places
    → IfSome (cells (type.optional (kind t)) (optional mask d)) (λ cs. cells (kind t) new ≡ Some (present_cells cs))
cells-present t mask d new places are selected = go (cells (type.optional (kind t)) (optional mask d)) refl
  where
    taken : (cs : List Cell) → cells (type.optional (kind t)) (optional mask d) ≡ Some cs → cells (kind t) new ≡ Some (present_cells cs)
    taken cs is =
        let u = kind t in
        let k = type.optional u in
        let parts = cells-parts k (optional mask d) cs is in
        let len = (fits-optional k mask d (length cs) parts.0).2 in
        let g : ℕ → Cell = λ i. cell_at u d i in
        let listed : present_cells cs ≡ map g places =
        ap present_cells (parts.2 ∙ ap (λ n. map (λ i. cell_at k (optional mask d) i) (range_with_len 0 n)) (sym len))
        ∙ present-map mask g (range_with_len 0 (length mask))
        ∙ ap (λ l. map g (filter (λ i. flag_set (slice_index mask i)) l)) (sym (map-same (range_with_len 0 (length mask))))
        ∙ ap (map g) (sym are) in
        let count : length (present_cells cs) ≡ length places = ap length listed ∙ length-map places g in
        let at : (i : ℕ) → i < length (present_cells cs) → get_or (present_cells cs) i none ≡ g (slice_index places i) =
        λ i lt. ap (λ l. get_or l i none) listed ∙ get_or-map g places i 0 none (omega arith) in
        cells-as u new (present_cells cs) (element_size-positive t) (subst (λ m. fits u new m ≡ true) (sym count) selected.has_kind)
        (λ i lt. selected.each_cell i (omega arith) ∙ sym (at i lt))
        (λ i lt. AllPass-from_list_all (λ c. is_value u c) (present_cells cs) (present-values u cs (cells-values k (optional mask d) cs is)) i none lt)

    go : (o : Option (List Cell)) → cells (type.optional (kind t)) (optional mask d) ≡ o → IfSome o (λ cs. cells (kind t) new ≡ Some (present_cells cs))
    go None is = tt
    go (Some cs) is = taken cs is

-- ---- the places of the flags that are set, one flag more

pub places-set : (mask : List ℕ) (n : ℕ) → (slice_index mask n ≡ 0 → ⊥) → places_set mask (n + 1) ≡ places_set mask n ++ n ∷ []
places-set mask n there =
    filter_of_map_range_with_len_more (λ i. flag_set (slice_index mask i)) (λ i. i) 0 n n (omega arith)
    ∙ ap (λ b. places_set mask n ++ cond (not b) (n ∷ []) []) (false_from_ne_true (slice_index mask n == 0) (λ is. there (eqb-true (slice_index mask n) 0 is)))

pub places-unset : (mask : List ℕ) (n : ℕ) → slice_index mask n ≡ 0 → places_set mask (n + 1) ≡ places_set mask n
places-unset mask n is =
    filter_of_map_range_with_len_more (λ i. flag_set (slice_index mask i)) (λ i. i) 0 n n (omega arith)
    ∙ ap (λ b. places_set mask n ++ cond (not b) (n ∷ []) []) (eq-eqb (slice_index mask n) 0 is)
    ∙ append-nil (places_set mask n)

pub All-pushed : (n : ℕ) (xs : List ℕ) (x : ℕ) → All (λ p. p < n) xs → x < n → All (λ p. p < n) (xs ++ x ∷ [])
All-pushed n xs x all lt k d below =
    below_more (λ j. get_or (xs ++ x ∷ []) j d < n) (length xs)
    (λ j b. subst (λ v. v < n) (sym (get_or_append_left xs (x ∷ []) d j b)) (all j d b))
    (subst (λ v. v < n) (sym (get_or_push xs x d (length xs) refl)) lt)
    k (omega (arith, length_push xs x))

-- ---- how many flags are set before each, one flag more

pub ranks-set : (mask : List ℕ) (n : ℕ) → (slice_index mask n ≡ 0 → ⊥) → ranks_set mask (n + 1) ≡ ranks_set mask n ++ count_by flag_set (take n mask) ∷ []
ranks-set mask n there =
    map-range_with_len_more (λ i. cond (slice_index mask i == 0) 0 (count_by flag_set (take i mask))) 0 n n (omega arith)
    ∙ ap (λ b. ranks_set mask n ++ cond b 0 (count_by flag_set (take n mask)) ∷ []) (false_from_ne_true (slice_index mask n == 0) (λ is. there (eqb-true (slice_index mask n) 0 is)))

pub ranks-unset : (mask : List ℕ) (n : ℕ) → slice_index mask n ≡ 0 → ranks_set mask (n + 1) ≡ ranks_set mask n ++ 0 ∷ []
ranks-unset mask n is =
    map-range_with_len_more (λ i. cond (slice_index mask i == 0) 0 (count_by flag_set (take i mask))) 0 n n (omega arith)
    ∙ ap (λ b. ranks_set mask n ++ cond b 0 (count_by flag_set (take n mask)) ∷ []) (eq-eqb (slice_index mask n) 0 is)

pub set-flag : (mask : List ℕ) (n : ℕ) → (slice_index mask n ≡ 0 → ⊥) → flag_set (slice_index mask n) ≡ true
set-flag mask n there = ap not (false_from_ne_true (slice_index mask n == 0) (λ is. there (eqb-true (slice_index mask n) 0 is)))

pub unset-flag : (mask : List ℕ) (n : ℕ) → slice_index mask n ≡ 0 → flag_set (slice_index mask n) ≡ false
unset-flag mask n is = ap not (eq-eqb (slice_index mask n) 0 is)

-- ---- data made of the cells that are some

-- data has one number of cells
pub not_both : (t : DataType) (d : ArrayData) (n : ℕ) → fits (kind t) d 0 ≡ true → fits (kind t) d n ≡ true → 0 < n → ⊥
not_both t d n none_there is some_there =
    let zero_count = count_of-fits (kind t) d 0 (element_size-positive t) none_there in
    let count = count_of-fits (kind t) d n (element_size-positive t) is in
    omega arith

length-spread : (mask : List ℕ) (ds : List Cell) → length (spread_cells mask ds) ≡ length mask
length-spread [] ds = refl
length-spread (flag ∷ mask) [] = ap suc (length-spread mask [])
length-spread (flag ∷ mask) (d ∷ ds) = go (flag == 0) (length-spread mask (d ∷ ds)) (length-spread mask ds)
  where
    go : (b : Bool) → length (spread_cells mask (d ∷ ds)) ≡ length mask → length (spread_cells mask ds) ≡ length mask → length (cond b (none ∷ spread_cells mask (d ∷ ds)) (some d ∷ spread_cells mask ds)) ≡ suc (length mask)
    go true here there = ap suc here
    go false here there = ap suc there

count-cons : (flag : ℕ) (mask : List ℕ) → count_by flag_set (flag ∷ mask) ≡ cond (flag_set flag) 1 0 + count_by flag_set mask
count-cons flag mask = sum_by-cons (λ x. cond (flag_set x) 1 0) flag mask

-- the cell of number i: none, or some of the cell after as many as flags are set before
spread-at : (mask : List ℕ) (ds : List Cell) (i : ℕ) → i < length mask → count_by flag_set mask ≤ length ds
    → get_or (spread_cells mask ds) i none ≡ cond (slice_index mask i == 0) none (some (get_or ds (count_by flag_set (take i mask)) none))
spread-at [] ds i lt enough = absurd (omega arith)
spread-at (flag ∷ mask) [] zero lt enough = go (flag == 0) refl
  where
    go : (b : Bool) → (flag == 0) ≡ b → none ≡ cond b none (some none)
    go true e = refl
    go false e =
        let set : count_by flag_set (flag ∷ mask) ≡ 1 + count_by flag_set mask = count-cons flag mask ∙ ap (λ b. cond (not b) 1 0 + count_by flag_set mask) e in
        absurd (omega (arith, set, enough))
spread-at (flag ∷ mask) [] (suc i) lt enough =
    spread-at mask [] i (omega arith) (omega (arith, count-cons flag mask))
    ∙ ap (λ c. cond (slice_index mask i == 0) none (some c)) refl
spread-at (flag ∷ mask) (d ∷ ds) zero lt enough = go (flag == 0)
  where
    go : (b : Bool) → get_or (cond b (none ∷ spread_cells mask (d ∷ ds)) (some d ∷ spread_cells mask ds)) 0 none ≡ cond b none (some d)
    go true = refl
    go false = refl
spread-at (flag ∷ mask) (d ∷ ds) (suc i) lt enough = go (flag == 0) refl (λ e. spread-at mask (d ∷ ds) i (omega arith) e) (λ e. spread-at mask ds i (omega arith) e)
  where
    rank : (b : Bool) → (flag == 0) ≡ b → count_by flag_set (flag ∷ take i mask) ≡ cond (not b) 1 0 + count_by flag_set (take i mask)
    rank b e = count-cons flag (take i mask) ∙ ap (λ x. cond (not x) 1 0 + count_by flag_set (take i mask)) e

    left : (b : Bool) → (flag == 0) ≡ b → count_by flag_set (flag ∷ mask) ≡ cond (not b) 1 0 + count_by flag_set mask
    left b e = count-cons flag mask ∙ ap (λ x. cond (not x) 1 0 + count_by flag_set mask) e

    go : (b : Bool) → (flag == 0) ≡ b
        → (count_by flag_set mask ≤ length (d ∷ ds) → get_or (spread_cells mask (d ∷ ds)) i none ≡ cond (slice_index mask i == 0) none (some (get_or (d ∷ ds) (count_by flag_set (take i mask)) none)))
        → (count_by flag_set mask ≤ length ds → get_or (spread_cells mask ds) i none ≡ cond (slice_index mask i == 0) none (some (get_or ds (count_by flag_set (take i mask)) none)))
        → get_or (cond b (none ∷ spread_cells mask (d ∷ ds)) (some d ∷ spread_cells mask ds)) (suc i) none ≡ cond (slice_index mask i == 0) none (some (get_or (d ∷ ds) (count_by flag_set (flag ∷ take i mask)) none))
    go true e here there =
        here (omega (arith, left true e))
        ∙ ap (λ n. cond (slice_index mask i == 0) none (some (get_or (d ∷ ds) n none))) (let same : count_by flag_set (take i mask) ≡ count_by flag_set (flag ∷ take i mask) = omega (arith, rank true e) in same)
    go false e here there =
        there (omega (arith, left false e))
        ∙ ap (λ n. cond (slice_index mask i == 0) none (some (get_or (d ∷ ds) n none))) (let same : suc (count_by flag_set (take i mask)) ≡ count_by flag_set (flag ∷ take i mask) = omega (arith, rank false e) in same)

pub rank_below : (mask : List ℕ) (i : ℕ) → i < length mask → (slice_index mask i == 0) ≡ false → count_by flag_set (take i mask) < count_by flag_set mask
rank_below mask i lt there =
    let more = count_by_more_yes flag_set mask i 0 lt (ap not there) in
    let within = sum_by-take-le (λ x. cond (flag_set x) 1 0) mask (i + 1) in
    omega arith

pub ranks_within : (mask : List ℕ) → 0 < count_by flag_set mask → All (λ p. p < count_by flag_set mask) (ranks_set mask (length mask))
ranks_within mask some_there k d lt =
    let f : ℕ → ℕ = λ i. cond (slice_index mask i == 0) 0 (count_by flag_set (take i mask)) in
    let here : k < length mask = omega (arith, length-map-range_with_len f 0 (length mask)) in
    subst (λ p. p < count_by flag_set mask) (sym (get_or-map-range_with_len f 0 (length mask) k k d here (omega arith))) (go (slice_index mask k == 0) refl here)
  where
    go : (b : Bool) → (slice_index mask k == 0) ≡ b → k < length mask → cond b 0 (count_by flag_set (take k mask)) < count_by flag_set mask
    go true e here = some_there
    go false e here = rank_below mask k here e

pub length-ranks : (mask : List ℕ) → length (ranks_set mask (length mask)) ≡ length mask
length-ranks mask = length-map-range_with_len (λ i. cond (slice_index mask i == 0) 0 (count_by flag_set (take i mask))) 0 (length mask)

pub spread-within : (u : Kind) (dense : ArrayData) (mask ranks : List ℕ) → HasCells u dense (count_by flag_set mask) → ranks ≡ ranks_set mask (length mask)
    → (n : ℕ) × IsTrue (fits u dense n) × (0 < n → All (λ p. p < n) ranks)
spread-within u dense mask ranks has are =
    (count_by flag_set mask, (HasCells-parts u dense (count_by flag_set mask) has).0, λ some_there. subst (λ l. All (λ p. p < count_by flag_set mask) l) (sym are) (ranks_within mask some_there))

-- the cells of optional data that was made
pub cells-spread : (t : DataType) (dense made : ArrayData) (mask ranks : List ℕ) → All (λ flag. flag < 2) mask → HasCells (kind t) dense (count_by flag_set mask)
    → ranks ≡ ranks_set mask (length mask) → fits (kind t) made (length ranks) ≡ true
    → ((n : ℕ) → fits (kind t) dense n ≡ true → 0 < n → IsSelection (kind t) made dense ranks)
    → IfSome (cells (kind t) dense) (λ ds. cells (type.optional (kind t)) (optional mask made) ≡ Some (spread_cells mask ds))
cells-spread t dense made mask ranks flags has are fit selected = go (cells (kind t) dense) refl
  where
    u : Kind
    u = kind t

    ones : ℕ
    ones = count_by flag_set mask

    count : length ranks ≡ length mask
    count = ap length are ∙ length-ranks mask

    listed : (ds : List Cell) → cells u dense ≡ Some ds → length ds ≡ ones
    listed ds is = let other = HasCells-cells u dense ones has in let same : other.0 ≡ ds = cc in ap length (sym same) ∙ other.2

    at_set : (ds : List Cell) → cells u dense ≡ Some ds → (i : ℕ) → i < length mask → (slice_index mask i == 0) ≡ false
        → (cell_at u made i ≡ get_or ds (count_by flag_set (take i mask)) none) × (is_value u (get_or ds (count_by flag_set (take i mask)) none) ≡ true)
    at_set ds is i lt there =
        let rank = count_by flag_set (take i mask) in
        let below : rank < ones = rank_below mask i lt there in
        let len = listed ds is in
        let parts = cells-parts u dense ds is in
        let from = selected (length ds) parts.0 (omega arith) in
        let f : ℕ → ℕ = λ j. cond (slice_index mask j == 0) 0 (count_by flag_set (take j mask)) in
        let place : slice_index ranks i ≡ rank =
        ap (λ l. slice_index l i) are ∙ get_or-map-range_with_len f 0 (length mask) i i 0 lt (omega arith) ∙ ap (λ b. cond b 0 rank) there in
        let cell : get_or ds rank none ≡ cell_at u dense rank =
        ap (λ l. get_or l rank none) parts.2 ∙ get_or-map-range_with_len (λ j. cell_at u dense j) 0 (length ds) rank rank none (omega arith) (omega arith) in
        (from.each_cell i (omega (arith, count)) ∙ ap (cell_at u dense) place ∙ sym cell, subst (λ c. is_value u c ≡ true) (sym cell) (parts.1 rank (omega arith)))

    same_at : (ds : List Cell) → cells u dense ≡ Some ds → (i : ℕ) → i < length mask
        → (cond (slice_index mask i == 0) none (some (cell_at u made i)) ≡ cond (slice_index mask i == 0) none (some (get_or ds (count_by flag_set (take i mask)) none)))
        × (is_value (type.optional u) (cond (slice_index mask i == 0) none (some (get_or ds (count_by flag_set (take i mask)) none))) ≡ true)
    same_at ds is i lt = by (slice_index mask i == 0) refl
      where
        by : (b : Bool) → (slice_index mask i == 0) ≡ b
            → (cond b none (some (cell_at u made i)) ≡ cond b none (some (get_or ds (count_by flag_set (take i mask)) none)))
            × (is_value (type.optional u) (cond b none (some (get_or ds (count_by flag_set (take i mask)) none))) ≡ true)
        by true e = (refl, refl)
        by false e = let at = at_set ds is i lt e in (ap some at.0, at.1)

    all : (ds : List Cell) → cells u dense ≡ Some ds → cells (type.optional u) (optional mask made) ≡ Some (spread_cells mask ds)
    all ds is =
        let cs = spread_cells mask ds in
        let len = length-spread mask ds in
        let at : (i : ℕ) → i < length cs → get_or cs i none ≡ cond (slice_index mask i == 0) none (some (get_or ds (count_by flag_set (take i mask)) none)) =
        λ i lt. spread-at mask ds i (omega arith) (omega (arith, listed ds is)) in
        let no_size : (size : ℕ) → element_size (type.optional u) ≡ Some size → 0 < size = λ size e. cc in
        cells-as (type.optional u) (optional mask made) cs no_size
        (and_from (eqb (length mask) (length cs)) (fits u made (length cs)) (eq-eqb (length mask) (length cs) (sym len)) (subst (λ m. fits u made m ≡ true) (count ∙ sym len) fit))
        (λ i lt. (same_at ds is i (omega arith)).0 ∙ sym (at i lt))
        (λ i lt. subst (λ c. is_value (type.optional u) c ≡ true) (sym (at i lt)) (same_at ds is i (omega arith)).1)

    go : (o : Option (List Cell)) → cells u dense ≡ o → IfSome o (λ ds. cells (type.optional u) (optional mask made) ≡ Some (spread_cells mask ds))
    go None is = tt
    go (Some ds) is = all ds is
