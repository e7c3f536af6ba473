-- What `cells` says, cell by cell.
use Rattle.std.proofs.Common.{◌≡◌, ℕ, ◌*◌, ◌/◌, ◌<◌, Bool, true, false, cond, eqb, List, length, map, get_or, Option}
use Rattle.std.proofs.Common.{None, Some, ◌&&◌, refl, sym, ap, ◌∙◌, subst, arith}
use Rattle.std.specs.Prelude.{IsSomeAnd, IsSome, is_some}
use Rattle.std.specs.List.{range_with_len}
use Rattle.std.proofs.Math.Nat.{mul-div_cancel}
use Rattle.std.proofs.lemmas.Bool.{eqb-true, eq-eqb, and_parts}
use Rattle.std.proofs.lemmas.List.{ext_get_or}
use Rattle.std.proofs.lemmas.List.FromFn.{length-map-range_with_len, get_or-map-range_with_len}
use Rattle.std.proofs.lemmas.List.Sums.{AllPass-from_list_all, list_all-from_AllPass}
use Rattle.zarrs_data_type_kinds.specs.Kind.{Kind, element_size, is_variable, inner_of}
use Rattle.zarrs_data_type_kinds.specs.Cell.{Cell, none, is_value, are_values}
use Rattle.zarrs_data_type_bytes.specs.ArrayData.{ArrayData, fixed, variable, optional}
use Rattle.zarrs_data_type_bytes.specs.Cells.{fits, count_of, cell_at, cells, HasCells}

-- each of the first n cells is a value of the type
abbrev pub AllValues : Kind → ArrayData → ℕ → Type 0
AllValues k d n = (i : ℕ) → i < n → is_value k (cell_at k d i) ≡ true

-- a cell of the type has a byte at least
abbrev pub IsSized : Kind → Type 0
IsSized k = (size : ℕ) → element_size k ≡ Some size → 0 < size

fixed_count : (o : Option ℕ) (b : List ℕ) (n : ℕ) → ((size : ℕ) → o ≡ Some size → 0 < size) → elim o [ None ↦ false | Some size ↦ eqb (length b) (n * size) ] ≡ true → elim o [ None ↦ 0 | Some size ↦ length b / size ] ≡ n
fixed_count None b n positive is = cc
fixed_count (Some size) b n positive is =
    ap (λ x. x / size) (eqb-true (length b) (n * size) is) ∙ mul-div_cancel n (positive size refl)

optional_count : (o : Option Kind) (mask : List ℕ) (inner : ArrayData) (n : ℕ) → elim o [ None ↦ false | Some u ↦ eqb (length mask) n && fits u inner n ] ≡ true → length mask ≡ n
optional_count None mask inner n is = cc
optional_count (Some u) mask inner n is = eqb-true (length mask) n (and_parts (eqb (length mask) n) (fits u inner n) is).0

-- data fits at one number of cells alone
pub count_of-fits : (k : Kind) (d : ArrayData) (n : ℕ) → IsSized k → fits k d n ≡ true → count_of k d ≡ n
count_of-fits k (fixed b) n sized is = fixed_count (element_size k) b n sized is
count_of-fits k (variable texts) n sized is = eqb-true (length texts) n (and_parts (is_variable k) (eqb (length texts) n) is).1
count_of-fits k (optional mask inner) n sized is = optional_count (inner_of k) mask inner n is

cond_some : {A : Type 0} (b : Bool) (x y : A) → cond b (Some x) None ≡ Some y → (b ≡ true) × (x ≡ y)
cond_some true x y is = (refl, cc)
cond_some false x y is = cc

-- data that fits, of values alone, has its cells
pub cells-from : (k : Kind) (d : ArrayData) (n : ℕ) → IsSized k → fits k d n ≡ true → AllValues k d n → cells k d ≡ Some (map (λ i. cell_at k d i) (range_with_len 0 n))
cells-from k d n sized is values =
    let e = count_of-fits k d n sized is in
    let all : are_values k (map (λ i. cell_at k d i) (range_with_len 0 n)) ≡ true =
    list_all-from_AllPass (λ c. is_value k c) (map (λ i. cell_at k d i) (range_with_len 0 n)) (λ i x lt.
    let here : i < n = omega (arith, length-map-range_with_len (λ j. cell_at k d j) 0 n) in
    rw (get_or-map-range_with_len (λ j. cell_at k d j) 0 n i i x here (omega arith)) (values i here)) in
    rw e (rw is (rw all refl))

-- and the other way round
pub cells-parts : (k : Kind) (d : ArrayData) (cs : List Cell) → cells k d ≡ Some cs → (fits k d (length cs) ≡ true) × AllValues k d (length cs) × (cs ≡ map (λ i. cell_at k d i) (range_with_len 0 (length cs)))
cells-parts k d cs is =
    let n = count_of k d in
    let made = map (λ i. cell_at k d i) (range_with_len 0 n) in
    let both = cond_some (fits k d n && are_values k made) made cs is in
    let parts = and_parts (fits k d n) (are_values k made) both.0 in
    let len : n ≡ length cs = sym (length-map-range_with_len (λ i. cell_at k d i) 0 n) ∙ ap length both.1 in
    let pass = AllPass-from_list_all (λ c. is_value k c) made parts.1 in (
      subst (λ m. fits k d m ≡ true) len parts.0,
      (λ i lt.
          let here : i < n = omega arith in
          let e = get_or-map-range_with_len (λ j. cell_at k d j) 0 n i i none here (omega arith) in
          subst (λ c. is_value k c ≡ true) e (pass i none (omega (arith, length-map-range_with_len (λ j. cell_at k d j) 0 n)))),
      sym both.1 ∙ ap (λ m. map (λ i. cell_at k d i) (range_with_len 0 m)) len,
    )

-- the cells of data are values
pub cells-values : (k : Kind) (d : ArrayData) (cs : List Cell) → cells k d ≡ Some cs → are_values k cs ≡ true
cells-values k d cs is =
    let n = count_of k d in
    let made = map (λ i. cell_at k d i) (range_with_len 0 n) in
    let both = cond_some (fits k d n && are_values k made) made cs is in
    subst (λ x. are_values k x ≡ true) both.1 (and_parts (fits k d n) (are_values k made) both.0).1

-- data that fits, cell by cell
pub cells-as : (k : Kind) (d : ArrayData) (cs : List Cell) → IsSized k → fits k d (length cs) ≡ true → ((i : ℕ) → i < length cs → cell_at k d i ≡ get_or cs i none) → ((i : ℕ) → i < length cs → is_value k (get_or cs i none) ≡ true) → cells k d ≡ Some cs
cells-as k d cs sized is same values =
    let n = length cs in
    cells-from k d n sized is (λ i lt. subst (λ c. is_value k c ≡ true) (sym (same i lt)) (values i lt))
    ∙ ap Some (ext_get_or none (map (λ i. cell_at k d i) (range_with_len 0 n)) cs (length-map-range_with_len (λ i. cell_at k d i) 0 n) (λ i lt.
    let here : i < n = omega (arith, length-map-range_with_len (λ j. cell_at k d j) 0 n) in
    get_or-map-range_with_len (λ j. cell_at k d j) 0 n i i none here (omega arith) ∙ same i here))

-- the same, with the number of cells alone
pub HasCells-from : (k : Kind) (d : ArrayData) (n : ℕ) → IsSized k → fits k d n ≡ true → AllValues k d n → HasCells k d n
HasCells-from k d n sized is values = rw (cells-from k d n sized is values) (length-map-range_with_len (λ i. cell_at k d i) 0 n)

pub HasCells-parts : (k : Kind) (d : ArrayData) (n : ℕ) → HasCells k d n → (fits k d n ≡ true) × AllValues k d n
HasCells-parts k d n has = go (cells k d) refl has
  where
    go : (o : Option (List Cell)) → cells k d ≡ o → IsSomeAnd o (λ cs. length cs ≡ n) → (fits k d n ≡ true) × AllValues k d n
    go None is h = absurd h
    go (Some cs) is h =
        let parts = cells-parts k d cs is in
        (subst (λ m. fits k d m ≡ true) h parts.0, subst (λ m. AllValues k d m) h parts.1)

-- the cells themselves
pub HasCells-cells : (k : Kind) (d : ArrayData) (n : ℕ) → HasCells k d n → (cs : List Cell) × (cells k d ≡ Some cs) × (length cs ≡ n)
HasCells-cells k d n has = go (cells k d) refl has
  where
    go : (o : Option (List Cell)) → cells k d ≡ o → IsSomeAnd o (λ cs. length cs ≡ n) → (cs : List Cell) × (cells k d ≡ Some cs) × (length cs ≡ n)
    go None is h = absurd h
    go (Some cs) is h = (cs, is, h)

-- cells that are some, and the same number of them
pub HasCells-some : (k : Kind) (d : ArrayData) (cs : List Cell) → cells k d ≡ Some cs → HasCells k d (length cs)
HasCells-some k d cs is = subst (λ o. IsSomeAnd o (λ x. length x ≡ length cs)) (sym is) refl

pub HasCells-IsSome : (k : Kind) (d : ArrayData) (n : ℕ) → HasCells k d n → IsSome (cells k d)
HasCells-IsSome k d n has = let made = HasCells-cells k d n has in ap is_some made.1

fitting_size : (o : Option ℕ) (size n : ℕ) (b : List ℕ) → o ≡ Some size → length b ≡ n * size → elim o [ None ↦ false | Some s ↦ eqb (length b) (n * s) ] ≡ true
fitting_size None size n b is len = cc
fitting_size (Some s) size n b is len = let e : s ≡ size = cc in eq-eqb (length b) (n * s) (len ∙ ap (λ m. n * m) (sym e))

-- bytes of the right length fit
pub fitting-fixed : (k : Kind) (size : ℕ) (b : List ℕ) (n : ℕ) → element_size k ≡ Some size → length b ≡ n * size → fits k (fixed b) n ≡ true
fitting-fixed k size b n is len = fitting_size (element_size k) size n b is len
