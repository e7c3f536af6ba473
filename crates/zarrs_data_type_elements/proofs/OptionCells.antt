-- Optional values and the cells that they stand for.
use Rattle.std.proofs.Common.{◌≡◌, ◌==◌, ℕ, zero, suc, ◌+◌, ◌<◌, Bool, true, false, cond, List, [], ◌∷◌, ◌++◌, length}
use Rattle.std.proofs.Common.{map, take, get_or, Option, None, Some, refl, sym, ap, ◌∙◌, subst, append-nil, arith}
use Rattle.std.specs.Prelude.{All, IfSome, IsSomeAnd, is_some, count_by, slice_index}
use Rattle.std.specs.Int.{from_bool}
use Rattle.std.specs.List.{cons_option, filter_map}
use Rattle.std.proofs.lemmas.List.{take_more, map-append}
use Rattle.std.proofs.lemmas.List.Elements.{filter_map-append}
use Rattle.std.proofs.lemmas.List.FromFn.{get_or-map-range_with_len}
use Rattle.std.proofs.lemmas.List.Sums.{sum_by-cons}
use Rattle.zarrs_data_type_kinds.specs.Kind.{Kind, inner_of}
use Rattle.zarrs_data_type_kinds.specs.Kind as type
use Rattle.zarrs_data_type_kinds.specs.Cell.{Cell, none, some}
use Rattle.zarrs_data_type_bytes.specs.ArrayData.{ArrayData, optional}
use Rattle.zarrs_data_type_bytes.specs.Cells.{cell_at, cells, HasCells}
use Rattle.zarrs_data_type_bytes.specs.Present.{flag_set, present_cells, spread_cells}
use Rattle.zarrs_data_type_bytes.proofs.Cells.{cells-parts, HasCells-cells}
use Rattle.zarrs_data_type_bytes.proofs.Filled.{fits-optional}
use Rattle.zarrs_data_type_elements.specs.Elements.{option_cell}

-- a type with an inner type is the optional type of it
pub inner_is : (k u : Kind) → inner_of k ≡ Some u → k ≡ type.optional u
inner_is (type.optional inner) u is = cc
inner_is type.bool u is = cc
inner_is type.int8 u is = cc
inner_is type.int16 u is = cc
inner_is type.int32 u is = cc
inner_is type.int64 u is = cc
inner_is type.uint8 u is = cc
inner_is type.uint16 u is = cc
inner_is type.uint32 u is = cc
inner_is type.uint64 u is = cc
inner_is (type.raw size) u is = cc
inner_is type.string u is = cc
inner_is type.bytes u is = cc

-- ---- flags and values of a list of optional values

abbrev flag_of : {X : Type 0} → Option X → ℕ
flag_of o = from_bool (is_some o)

pub flags-below : {E X : Type 0} (v : E → Option X) (es : List E) → All (λ flag. flag < 2) (map (λ e. from_bool (is_some (v e))) es)
flags-below v [] k d lt = absurd (omega arith)
flags-below {X = X} v (e ∷ es) zero d lt = go (v e)
  where
    go : (o : Option X) → flag_of o < 2
    go None = omega arith
    go (Some x) = omega arith
flags-below v (e ∷ es) (suc k) d lt = flags-below v es k d (omega arith)

pub values-counted : {E X : Type 0} (v : E → Option X) (cell : X → Cell) (es : List E)
    → length (map cell (filter_map v es)) ≡ count_by flag_set (map (λ e. from_bool (is_some (v e))) es)
values-counted v cell [] = refl
values-counted {X = X} v cell (e ∷ es) = go (v e) (values-counted v cell es)
  where
    mask : List ℕ
    mask = map (λ y. from_bool (is_some (v y))) es

    go : (o : Option X) → length (map cell (filter_map v es)) ≡ count_by flag_set mask
        → length (map cell (cons_option o (filter_map v es))) ≡ count_by flag_set (flag_of o ∷ mask)
    go None rest = let more : count_by flag_set (0 ∷ mask) ≡ 0 + count_by flag_set mask = sum_by-cons (λ x. cond (flag_set x) 1 0) 0 mask in omega arith
    go (Some x) rest = let more : count_by flag_set (1 ∷ mask) ≡ 1 + count_by flag_set mask = sum_by-cons (λ x. cond (flag_set x) 1 0) 1 mask in omega arith

-- ---- cells under flags

spread-unset : (flag : ℕ) (mask : List ℕ) (ds : List Cell) → (flag == 0) ≡ true → spread_cells (flag ∷ mask) ds ≡ none ∷ spread_cells mask ds
spread-unset flag mask [] is = refl
spread-unset flag mask (d ∷ ds) is = ap (λ b. cond b (none ∷ spread_cells mask (d ∷ ds)) (some d ∷ spread_cells mask ds)) is

spread-set : (flag : ℕ) (mask : List ℕ) (d : Cell) (ds : List Cell) → (flag == 0) ≡ false → spread_cells (flag ∷ mask) (d ∷ ds) ≡ some d ∷ spread_cells mask ds
spread-set flag mask d ds is = ap (λ b. cond b (none ∷ spread_cells mask (d ∷ ds)) (some d ∷ spread_cells mask ds)) is

-- the cells of optional values
spread-values : {E X : Type 0} (v : E → Option X) (cell : X → Cell) (es : List E)
    → spread_cells (map (λ e. from_bool (is_some (v e))) es) (map cell (filter_map v es)) ≡ map (option_cell cell) (map v es)
spread-values v cell [] = refl
spread-values {X = X} v cell (e ∷ es) = go (v e) (spread-values v cell es)
  where
    mask : List ℕ
    mask = map (λ y. from_bool (is_some (v y))) es

    go : (o : Option X) → spread_cells mask (map cell (filter_map v es)) ≡ map (option_cell cell) (map v es)
        → spread_cells (flag_of o ∷ mask) (map cell (cons_option o (filter_map v es))) ≡ option_cell cell o ∷ map (option_cell cell) (map v es)
    go None rest = spread-unset 0 mask (map cell (filter_map v es)) refl ∙ ap (λ l. none ∷ l) rest
    go (Some x) rest = spread-set 1 mask (cell x) (map cell (filter_map v es)) refl ∙ ap (λ l. some (cell x) ∷ l) rest

-- data that was made of optional values
pub values-present : {E X : Type 0} (v : E → Option X) (cell : X → Cell) (u : Kind) (es : List E) (mask : List ℕ) (present : ArrayData)
    → mask ≡ map (λ e. from_bool (is_some (v e))) es → cells u present ≡ Some (map cell (filter_map v es)) → HasCells u present (count_by flag_set mask)
values-present v cell u es mask present flags are = go (cells u present) are
  where
    go : (o : Option (List Cell)) → o ≡ Some (map cell (filter_map v es)) → IsSomeAnd o (λ cs. length cs ≡ count_by flag_set mask)
    go None is = cc
    go (Some cs) is =
        let same : cs ≡ map cell (filter_map v es) = cc in
        ap length same ∙ values-counted v cell es ∙ ap (count_by flag_set) (sym flags)

pub values-written : {E X : Type 0} (v : E → Option X) (cell : X → Cell) (k u : Kind) (es : List E) (mask : List ℕ) (present made : ArrayData) → inner_of k ≡ Some u
    → mask ≡ map (λ e. from_bool (is_some (v e))) es → cells u present ≡ Some (map cell (filter_map v es))
    → IfSome (cells u present) (λ ds. cells (type.optional u) made ≡ Some (spread_cells mask ds)) → cells k made ≡ Some (map (option_cell cell) (map v es))
values-written v cell k u es mask present made is flags are spread =
    ap (λ j. cells j made) (inner_is k u is)
    ∙ subst (λ o. IfSome o (λ ds. cells (type.optional u) made ≡ Some (spread_cells mask ds))) are spread
    ∙ ap (λ m. Some (spread_cells m (map cell (filter_map v es)))) flags
    ∙ ap Some (spread-values v cell es)

-- ---- data that is read

-- the inner cells under the flags are the cells again
spread-present : (mask : List ℕ) (cs : List Cell) (g : ℕ → Cell) → length mask ≡ length cs
    → ((i : ℕ) → i < length cs → get_or cs i none ≡ cond (slice_index mask i == 0) none (some (g i))) → spread_cells mask (present_cells cs) ≡ cs
spread-present [] [] g len at = refl
spread-present [] (c ∷ cs) g len at = absurd (omega arith)
spread-present (flag ∷ mask) [] g len at = absurd (omega arith)
spread-present (flag ∷ mask) (c ∷ cs) g len at = go (flag == 0) refl (at 0 (omega arith)) (spread-present mask cs (λ i. g (suc i)) (omega arith) (λ i lt. at (suc i) (omega arith)))
  where
    go : (b : Bool) → (flag == 0) ≡ b → c ≡ cond b none (some (g 0)) → spread_cells mask (present_cells cs) ≡ cs → spread_cells (flag ∷ mask) (present_cells (c ∷ cs)) ≡ c ∷ cs
    go true e is rest =
        subst (λ x. spread_cells (flag ∷ mask) (present_cells (x ∷ cs)) ≡ x ∷ cs) (sym is) (spread-unset flag mask (present_cells cs) e ∙ ap (λ l. none ∷ l) rest)
    go false e is rest =
        subst (λ x. spread_cells (flag ∷ mask) (present_cells (x ∷ cs)) ≡ x ∷ cs) (sym is) (spread-set flag mask (g 0) (present_cells cs) e ∙ ap (λ l. some (g 0) ∷ l) rest)

spread-again : (u : Kind) (mask : List ℕ) (d : ArrayData) (cs : List Cell) → cells (type.optional u) (optional mask d) ≡ Some cs → spread_cells mask (present_cells cs) ≡ cs
spread-again u mask d cs is =
    let k = type.optional u in
    let parts = cells-parts k (optional mask d) cs is in
    let len = (fits-optional k mask d (length cs) parts.0).2 in
    spread-present mask cs (λ i. cell_at u d i) len
    (λ i lt. ap (λ l. get_or l i none) parts.2 ∙ get_or-map-range_with_len (λ j. cell_at k (optional mask d) j) 0 (length cs) i i none lt (omega arith))

pub values-read : (k u : Kind) (mask : List ℕ) (d present : ArrayData) (ds os : List Cell) → inner_of k ≡ Some u → HasCells k (optional mask d) (length mask)
    → IfSome (cells (type.optional u) (optional mask d)) (λ cs. cells u present ≡ Some (present_cells cs)) → cells u present ≡ Some ds → os ≡ spread_cells mask ds
    → cells k (optional mask d) ≡ Some os
values-read k u mask d present ds os is has taken are spread =
    let same = inner_is k u is in
    let held = HasCells-cells (type.optional u) (optional mask d) (length mask) (subst (λ j. HasCells j (optional mask d) (length mask)) same has) in
    let cs = held.0 in
    let inner : cells u present ≡ Some (present_cells cs) = subst (λ o. IfSome o (λ l. cells u present ≡ Some (present_cells l))) held.1 taken in
    let listed : ds ≡ present_cells cs = cc in
    ap (λ j. cells j (optional mask d)) same
    ∙ held.1
    ∙ ap Some (sym (spread-again u mask d cs held.1))
    ∙ ap (λ l. Some (spread_cells mask l)) (sym listed)
    ∙ ap Some (sym spread)

-- data that is not as many cells as it has flags has no cells
pub values-unread : (k : Kind) (mask : List ℕ) (d : ArrayData) → ¬ (HasCells k (optional mask d) (length mask)) → cells k (optional mask d) ≡ None
values-unread k mask d other = go (cells k (optional mask d)) refl
  where
    go : (o : Option (List Cell)) → cells k (optional mask d) ≡ o → o ≡ None
    go None is = refl
    go (Some cs) is =
        let parts = cells-parts k (optional mask d) cs is in
        let len = (fits-optional k mask d (length cs) parts.0).2 in
        absurd (other (subst (λ o. IsSomeAnd o (λ l. length l ≡ length mask)) (sym is) (sym len)))

-- ---- a step of the loop that takes the values

filter_map-more : {E X : Type 0} (v : E → Option X) (es : List E) (i : ℕ) (e : E) → i < length es → get_or es i e ≡ e
    → filter_map v (take (i + 1) es) ≡ filter_map v (take i es) ++ cons_option (v e) []
filter_map-more v es i e below item =
    ap (filter_map v) (take_more es i e below ∙ ap (λ x. take i es ++ x ∷ []) item) ∙ filter_map-append v (take i es) (e ∷ [])

-- one more value is present
pub present-more : {E X B : Type 0} (v : E → Option X) (w : B → X) (es : List E) (i : ℕ) (e : E) (old new : List B) (b : B) → i < length es → get_or es i e ≡ e → v e ≡ Some (w b)
    → map w old ≡ filter_map v (take i es) → new ≡ old ++ b ∷ [] → map w new ≡ filter_map v (take (i + 1) es)
present-more v w es i e old new b below item is kept pushed =
    ap (map w) pushed
    ∙ map-append w old (b ∷ [])
    ∙ ap (λ l. l ++ w b ∷ []) kept
    ∙ ap (λ o. filter_map v (take i es) ++ cons_option o []) (sym is)
    ∙ sym (filter_map-more v es i e below item)

-- one more is none
pub none-more : {E X : Type 0} (v : E → Option X) (es : List E) (i : ℕ) (e : E) → i < length es → get_or es i e ≡ e → v e ≡ None → filter_map v (take i es) ≡ filter_map v (take (i + 1) es)
none-more v es i e below item is =
    sym (append-nil (filter_map v (take i es)))
    ∙ ap (λ o. filter_map v (take i es) ++ cons_option o []) (sym is)
    ∙ sym (filter_map-more v es i e below item)
