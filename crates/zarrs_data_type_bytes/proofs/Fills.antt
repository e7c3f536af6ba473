-- Fill values of types that are fixed and not optional.
use Rattle.std.proofs.Common.{◌≡◌, ℕ, zero, suc, ◌∷◌, ◌*◌, ◌/◌, ◌<◌, Bool, true, false, cond, List, length, map}
use Rattle.std.proofs.Common.{replicate, Option, None, Some, refl, sym, ap, ◌∙◌, subst, arith}
use Rattle.std.specs.Prelude.{IsSome, IfSome, unwrap_or, is_some}
use Rattle.std.specs.Str.{bytes_eq}
use Rattle.std.specs.List.{list_all, repeat}
use Rattle.std.proofs.lemmas.List.Folds.{list_all-map}
use Rattle.zarrs_data_type_kinds.specs.declared.data_type.DataType.{DataType}
use Rattle.zarrs_data_type_kinds.specs.Kind.{Kind, kind, element_size}
use Rattle.zarrs_data_type_kinds.specs.Kind as type
use Rattle.zarrs_data_type_kinds.specs.Cell.{Cell, bytes, none, is_element, is_value, are_values, cell_eq, fill_cell, fill_of}
use Rattle.zarrs_data_type_bytes.specs.ArrayData.{fixed}
use Rattle.zarrs_data_type_bytes.specs.Cells.{cells, HasCells}
use Rattle.zarrs_subset.specs.Pieces.{pieces}
use Rattle.zarrs_data_type_kinds.proofs.Sizes.{element_len, element_size-positive}
use Rattle.zarrs_data_type_bytes.proofs.Pieces.{pieces-repeat, length-repeat}
use Rattle.zarrs_data_type_bytes.proofs.Fixed.{cells-fixed, cells-of, sized_cells, whole_cells}

fill_cell-element : (k : Kind) (size : ℕ) (f : List ℕ) → element_size k ≡ Some size → fill_cell k f ≡ cond (is_element k f) (Some (bytes f)) None
fill_cell-element (type.optional inner) size f is = cc
fill_cell-element k size f is = refl

-- a fill value is an element, and its cell is of its bytes
pub fill_parts : (k : Kind) (size : ℕ) (f : List ℕ) → element_size k ≡ Some size → IsSome (fill_cell k f) → (is_element k f ≡ true) × (fill_of k f ≡ bytes f) × (length f ≡ size)
fill_parts k size f is some = go (is_element k f) refl
  where
    go : (x : Bool) → is_element k f ≡ x → (is_element k f ≡ true) × (fill_of k f ≡ bytes f) × (length f ≡ size)
    go false e =
        let made : fill_cell k f ≡ None = fill_cell-element k size f is ∙ ap (λ x. cond x (Some (bytes f)) None) e in
        let no : IsSome {T = Cell} None = subst IsSome made some in
        cc
    go true e =
        let made : fill_cell k f ≡ Some (bytes f) = fill_cell-element k size f is ∙ ap (λ x. cond x (Some (bytes f)) None) e in
        (e, ap (λ o. unwrap_or o none) made, element_len k size f is e)

replicated_values : (k : Kind) (n : ℕ) (c : Cell) → is_value k c ≡ true → are_values k (replicate n c) ≡ true
replicated_values k zero c is = refl
replicated_values k (suc n) c is = rw is (replicated_values k n c is)

map-replicate : (n : ℕ) (p : List ℕ) → map bytes (replicate n p) ≡ replicate n (bytes p)
map-replicate zero p = refl
map-replicate (suc n) p = ap (λ l. bytes p ∷ l) (map-replicate n p)

-- the fill value's bytes, repeated n times, stand for n cells of fill
pub cells-repeat : (k : Kind) (size n : ℕ) (f : List ℕ) → element_size k ≡ Some size → 0 < size → IsSome (fill_cell k f) → cells k (fixed (repeat n f)) ≡ Some (replicate n (fill_of k f))
cells-repeat k size n f is positive some =
    let fill = fill_parts k size f is some in
    let len : length (repeat n f) ≡ n * size = length-repeat f n ∙ ap (λ s. n * s) fill.2 in
    cells-fixed k size is (repeat n f) n positive len
    ∙ ap (λ ps. cond (are_values k (map bytes ps)) (Some (map bytes ps)) None) (ap (λ s. pieces s n (repeat n f)) (sym fill.2) ∙ pieces-repeat f n)
    ∙ ap (λ cs. cond (are_values k cs) (Some cs) None) (map-replicate n f)
    ∙ ap (λ x. cond x (Some (replicate n (bytes f))) None) (replicated_values k n (bytes f) fill.0)
    ∙ ap (λ c. Some (replicate n c)) (sym fill.1)

-- the test of the pieces is that of the cells
pub all-pieces : (k : Kind) (size n : ℕ) (b f : List ℕ) → element_size k ≡ Some size → 0 < size → IsSome (fill_cell k f) → HasCells k (fixed b) n
    → IfSome (cells k (fixed b)) (λ cs. list_all (λ p. bytes_eq p f) (pieces size n b) ≡ list_all (λ c. cell_eq c (fill_of k f)) cs)
all-pieces k size n b f is positive some has =
    let fill = fill_parts k size f is some in
    subst (λ o. IfSome o (λ cs. list_all (λ p. bytes_eq p f) (pieces size n b) ≡ list_all (λ c. cell_eq c (fill_of k f)) cs)) (sym (cells-of k size is b n positive has))
    (sym (list_all-map (λ c. cell_eq c (bytes f)) bytes (pieces size n b))
    ∙ ap (λ g. list_all (λ c. cell_eq c g) (map bytes (pieces size n b))) (sym fill.1))

-- the fill value of a type whose data has cells is not empty
pub fill_positive : (t : DataType) (b f g : List ℕ) → IsSome (cells (kind t) (fixed b)) → IsSome (fill_cell (kind t) f) → g ≡ f → 0 < length g
fill_positive t b f g some filled same =
    let sized = sized_cells (kind t) b some in
    let fill = fill_parts (kind t) sized.0 f sized.1 filled in
    omega (arith, ap length same, fill.2, element_size-positive t sized.0 sized.1)

-- what a test of the pieces by the fill value's bytes says of the cells
pub fill_test : (t : DataType) (b f g : List ℕ) (result : Bool) → IsSome (cells (kind t) (fixed b)) → IsSome (fill_cell (kind t) f) → g ≡ f
    → result ≡ list_all (λ p. bytes_eq p g) (pieces (length g) (length b / length g) b)
    → IfSome (cells (kind t) (fixed b)) (λ cs. result ≡ list_all (λ c. cell_eq c (fill_of (kind t) f)) cs)
fill_test t b f g result some filled same tested =
    let k = kind t in
    let sized = sized_cells k b some in
    let size = sized.0 in
    let fill = fill_parts k size f sized.1 filled in
    let positive = element_size-positive t size sized.1 in
    let n = length b / size in
    let len : length g ≡ size = ap length same ∙ fill.2 in
    let by_fill : result ≡ list_all (λ p. bytes_eq p f) (pieces size n b) =
    tested ∙ ap (λ s. list_all (λ p. bytes_eq p g) (pieces s (length b / s) b)) len ∙ ap (λ h. list_all (λ p. bytes_eq p h) (pieces size n b)) same in
    subst (λ r. IfSome (cells k (fixed b)) (λ cs. r ≡ list_all (λ c. cell_eq c (fill_of k f)) cs)) (sym by_fill)
    (all-pieces k size n b f sized.1 positive filled (whole_cells k size b sized.1 positive some))

-- what was made of a fill value
pub cells-made : (t : DataType) (o : Option ℕ) (n : ℕ) (f g made : List ℕ) → o ≡ element_size (kind t) → is_some o ≡ true → IsSome (fill_cell (kind t) f) → g ≡ f
    → made ≡ repeat n g → cells (kind t) (fixed made) ≡ Some (replicate n (fill_of (kind t) f))
cells-made t None n f g made size there filled same is = cc
cells-made t (Some size) n f g made sized there filled same is =
    ap (λ b. cells (kind t) (fixed b)) (is ∙ ap (repeat n) same)
    ∙ cells-repeat (kind t) size n f (sym sized) (element_size-positive t size (sym sized)) filled
