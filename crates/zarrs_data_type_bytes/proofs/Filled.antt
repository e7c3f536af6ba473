-- Data whose cells are all that of a fill value, level by level.
use Rattle.std.proofs.Common.{◌≡◌, ◌==◌, ℕ, ◌+◌, ◌*◌, ◌/◌, ◌<◌, Bool, true, false, cond, eqb, ◌&&◌, List, [], length}
use Rattle.std.proofs.Common.{get_or, Option, None, Some, IsTrue, ◌↔◌, refl, sym, ap, ◌∙◌, subst, arith}
use Rattle.std.specs.Prelude.{All, IsSome, IfSome, slice_index, slice_range}
use Rattle.std.specs.Bool.{Decides}
use Rattle.std.specs.List.{list_all}
use Rattle.std.specs.Str.{bytes_eq}
use Rattle.std.proofs.lemmas.Bool.{eqb-true, eq-eqb, and_parts, false≢true}
use Rattle.std.proofs.lemmas.List.{get_or_default}
use Rattle.std.proofs.lemmas.List.FromFn.{get_or-map-range_with_len}
use Rattle.std.proofs.lemmas.List.Sums.{AllPass-from_list_all, list_all-from_AllPass}
use Rattle.std.proofs.lemmas.Slice.Eq.{bytes_eq-Decides}
use Rattle.std.proofs.Math.Nat.{mul-div_cancel}
use Rattle.zarrs_data_type_kinds.specs.declared.data_type.DataType.{DataType}
use Rattle.zarrs_data_type_kinds.specs.Kind.{Kind, kind, element_size, is_variable, inner_of}
use Rattle.zarrs_data_type_kinds.specs.Cell.{Cell, bytes, none, some, cell_eq, fill_cell, fill_of, inner_fill}
use Rattle.zarrs_data_type_kinds.proofs.Same.{cell_eq-true, eq-cell_eq}
use Rattle.zarrs_data_type_kinds.proofs.Sizes.{element_size-positive}
use Rattle.zarrs_data_type_kinds.proofs.Values.{fill-none, fill-some, fill-variable}
use Rattle.zarrs_data_type_bytes.specs.ArrayData.{ArrayData, fixed, variable, optional}
use Rattle.zarrs_data_type_bytes.specs.Cells.{fits, cell_at, cells, AreAllCells, AreAllStrings}
use Rattle.zarrs_subset.specs.Pieces.{pieces}
use Rattle.zarrs_data_type_bytes.proofs.Cells.{cells-parts}
use Rattle.zarrs_data_type_bytes.proofs.Fills.{fill_parts}
use Rattle.zarrs_data_type_bytes.proofs.Pieces.{length-pieces}

-- ---- what data that fits is

size_at : (o : Option ℕ) (b : List ℕ) (n : ℕ) → elim o [ None ↦ false | Some size ↦ eqb (length b) (n * size) ] ≡ true → (size : ℕ) × (o ≡ Some size) × (length b ≡ n * size)
size_at None b n is = cc
size_at (Some size) b n is = (size, refl, eqb-true (length b) (n * size) is)

pub fits-fixed : (k : Kind) (b : List ℕ) (n : ℕ) → fits k (fixed b) n ≡ true → (size : ℕ) × (element_size k ≡ Some size) × (length b ≡ n * size)
fits-fixed k b n is = size_at (element_size k) b n is

pub fits-variable : (k : Kind) (strings : List (List ℕ)) (n : ℕ) → fits k (variable strings) n ≡ true → (is_variable k ≡ true) × (length strings ≡ n)
fits-variable k strings n is =
    let both = and_parts (is_variable k) (eqb (length strings) n) is in
    (both.0, eqb-true (length strings) n both.1)

inner_at : (o : Option Kind) (mask : List ℕ) (inner : ArrayData) (n : ℕ) → elim o [ None ↦ false | Some u ↦ eqb (length mask) n && fits u inner n ] ≡ true → (u : Kind) × (o ≡ Some u) × (length mask ≡ n) × (fits u inner n ≡ true)
inner_at None mask inner n is = cc
inner_at (Some u) mask inner n is =
    let both = and_parts (eqb (length mask) n) (fits u inner n) is in
    (u, refl, eqb-true (length mask) n both.0, both.1)

pub fits-optional : (k : Kind) (mask : List ℕ) (inner : ArrayData) (n : ℕ) → fits k (optional mask inner) n ≡ true → (u : Kind) × (inner_of k ≡ Some u) × (length mask ≡ n) × (fits u inner n ≡ true)
fits-optional k mask inner n is = inner_at (inner_of k) mask inner n is

-- ---- cells of data that fits

pub cell_at-fixed : (k : Kind) (size : ℕ) (b : List ℕ) (i : ℕ) → element_size k ≡ Some size → cell_at k (fixed b) i ≡ bytes (slice_range b (i * size) (i * size + size))
cell_at-fixed k size b i is = ap (λ o. elim o [ None ↦ none | Some s ↦ bytes (slice_range b (i * s) (i * s + s)) ]) is

-- a cell whose flag is 0
pub cell_at-none : (k : Kind) (mask : List ℕ) (inner : ArrayData) (i : ℕ) → slice_index mask i ≡ 0 → cell_at k (optional mask inner) i ≡ none
cell_at-none k mask inner i is = rw is refl

-- a cell whose flag is not
pub cell_at-some : (k u : Kind) (mask : List ℕ) (inner : ArrayData) (i : ℕ) → inner_of k ≡ Some u → slice_index mask i ≡ 1 → cell_at k (optional mask inner) i ≡ some (cell_at u inner i)
cell_at-some k u mask inner i is_inner is =
    ap (λ flag. cond (flag == 0) none (elim (inner_of k) [ None ↦ none | Some v ↦ some (cell_at v inner i) ])) is
    ∙ ap (λ o. elim o [ None ↦ none | Some v ↦ some (cell_at v inner i) ]) is_inner

-- ---- tests of all bytes

-- whether each byte is this one
pub all-Decides : (mask : List ℕ) (x : ℕ) → Decides (list_all (λ b. b == x) mask) ((i : ℕ) → i < length mask → slice_index mask i ≡ x)
all-Decides mask x = (
  λ is i lt. eqb-true (slice_index mask i) x (AllPass-from_list_all (λ b. b == x) mask is i 0 lt),
  λ each. list_all-from_AllPass (λ b. b == x) mask (λ i d lt. eq-eqb (get_or mask i d) x (get_or_default mask i d 0 lt ∙ each i lt)),
)

bytes-injective : {a b : List ℕ} → bytes a ≡ bytes b → a ≡ b
bytes-injective e = cc

some-injective : {a b : Cell} → some a ≡ some b → a ≡ b
some-injective e = cc

none-some : {c : Cell} → none ≡ some c → ⊥
none-some e = cc

-- a flag is 0 or 1
flag_cases : (mask : List ℕ) → All (λ b. b < 2) mask → (i : ℕ) → i < length mask → (slice_index mask i ≡ 0 → ⊥) → slice_index mask i ≡ 1
flag_cases mask flags i lt some_there = let below = flags i 0 lt in omega arith

-- ---- the three levels

module _ (k : Kind) (f : List ℕ) (there : IsSome (fill_cell k f)) where
  pub filled-fixed : (b : List ℕ) (r : Bool) → ((size : ℕ) → element_size k ≡ Some size → 0 < size) → r ≡ list_all (λ p. bytes_eq p f) (pieces (length f) (length b / length f) b)
      → (n : ℕ) → fits k (fixed b) n ≡ true → IsTrue r ↔ AreAllCells k (fixed b) n (fill_of k f)
  filled-fixed b r sized tested n is =
      let at = fits-fixed k b n is in
      let size = at.0 in
      let fill = fill_parts k size f at.1 there in
      let cut : ℕ → List ℕ = λ i. slice_range b (i * size) (i * size + size) in
      let count : length b / length f ≡ n = ap (λ s. length b / s) fill.2 ∙ ap (λ m. m / size) at.2 ∙ mul-div_cancel n (sized size at.1) in
      let test : r ≡ list_all (λ p. bytes_eq p f) (pieces size n b) =
      tested ∙ ap (λ m. list_all (λ p. bytes_eq p f) (pieces (length f) m b)) count ∙ ap (λ s. list_all (λ p. bytes_eq p f) (pieces s n b)) fill.2 in
      let piece : (i : ℕ) (d : List ℕ) → i < n → get_or (pieces size n b) i d ≡ cut i = λ i d lt. get_or-map-range_with_len cut 0 n i i d lt (omega arith) in (
        λ yes i lt.
            let passed = AllPass-from_list_all (λ p. bytes_eq p f) (pieces size n b) (sym test ∙ yes) i [] (omega (arith, length-pieces size n b)) in
            cell_at-fixed k size b i at.1
            ∙ ap bytes (sym (piece i [] lt) ∙ (bytes_eq-Decides (get_or (pieces size n b) i []) f).0 passed)
            ∙ sym fill.1,
        λ each. test ∙ list_all-from_AllPass (λ p. bytes_eq p f) (pieces size n b) (λ i d lt.
            let here : i < n = omega (arith, length-pieces size n b) in
            let same : cut i ≡ f = bytes-injective (sym (cell_at-fixed k size b i at.1) ∙ each i here ∙ fill.1) in
            (bytes_eq-Decides (get_or (pieces size n b) i d) f).1 (piece i d here ∙ same)),
      )

  pub filled-variable : (strings : List (List ℕ)) (r : Bool) → (IsTrue r ↔ AreAllStrings strings f)
      → (n : ℕ) → fits k (variable strings) n ≡ true → IsTrue r ↔ AreAllCells k (variable strings) n (fill_of k f)
  filled-variable strings r tested n is =
      let at = fits-variable k strings n is in
      let fill = (fill-variable k f at.0 there).1 in (
        λ yes i lt. ap bytes (tested.0 yes i (omega (arith, at.1))) ∙ sym fill,
        λ each. tested.1 (λ i lt. bytes-injective (each i (omega (arith, at.1)) ∙ fill)),
      )

  module _ (u : Kind) (is_inner : inner_of k ≡ Some u) (mask : List ℕ) (inner : ArrayData) (flags : All (λ b. b < 2) mask) where
    mask_len : (n : ℕ) → fits k (optional mask inner) n ≡ true → length mask ≡ n
    mask_len n is = (fits-optional k mask inner n is).2

    pub filled-none : (r : Bool) → inner_fill f ≡ None → r ≡ list_all (λ b. b == 0) mask
        → (n : ℕ) → fits k (optional mask inner) n ≡ true → IsTrue r ↔ AreAllCells k (optional mask inner) n (fill_of k f)
    filled-none r front tested n is =
        let len = mask_len n is in
        let fill = fill-none k u f is_inner front in (
          λ yes i lt. cell_at-none k mask inner i ((all-Decides mask 0).0 (sym tested ∙ yes) i (omega (arith, len))) ∙ sym fill,
          λ each. tested ∙ (all-Decides mask 0).1 (λ i lt. zero_flag i lt (each i (omega (arith, len)) ∙ fill)),
        )
      where
        zero_flag : (i : ℕ) → i < length mask → cell_at k (optional mask inner) i ≡ none → slice_index mask i ≡ 0
        zero_flag i lt is_none = go (slice_index mask i == 0) refl
          where
            go : (t : Bool) → (slice_index mask i == 0) ≡ t → slice_index mask i ≡ 0
            go true e = eqb-true (slice_index mask i) 0 e
            go false e =
                let one = flag_cases mask flags i lt (λ z. false≢true (sym e ∙ eq-eqb (slice_index mask i) 0 z)) in
                absurd (none-some (sym is_none ∙ cell_at-some k u mask inner i is_inner one))

    pub filled-some : (r : Bool) (front : List ℕ) → inner_fill f ≡ Some front → list_all (λ b. b == 1) mask ≡ true
        → ((n : ℕ) → fits u inner n ≡ true → IsTrue r ↔ AreAllCells u inner n (fill_of u front))
        → (n : ℕ) → fits k (optional mask inner) n ≡ true → IsTrue r ↔ AreAllCells k (optional mask inner) n (fill_of k f)
    filled-some r front is_front ones tested n is =
        let at = fits-optional k mask inner n is in
        let same_inner : at.0 ≡ u = inner_same at.1 in
        let inner_fits : fits u inner n ≡ true = subst (λ v. fits v inner n ≡ true) same_inner at.3 in
        let fill = (fill-some k u f front is_inner is_front there).1 in
        let test = tested n inner_fits in
        let cell : (i : ℕ) → i < n → cell_at k (optional mask inner) i ≡ some (cell_at u inner i) =
        λ i lt. cell_at-some k u mask inner i is_inner ((all-Decides mask 1).0 ones i (omega (arith, at.2))) in (
          λ yes i lt. cell i lt ∙ ap some (test.0 yes i lt) ∙ sym fill,
          λ each. test.1 (λ i lt. some-injective (sym (cell i lt) ∙ each i lt ∙ fill)),
        )
      where
        inner_same : {v : Kind} → inner_of k ≡ Some v → v ≡ u
        inner_same {v} other = let e : Some v ≡ Some u = sym other ∙ is_inner in cc

    pub filled-not_some : (r : Bool) (front : List ℕ) → inner_fill f ≡ Some front → r ≡ list_all (λ b. b == 1) mask → r ≡ false
        → (n : ℕ) → fits k (optional mask inner) n ≡ true → IsTrue r ↔ AreAllCells k (optional mask inner) n (fill_of k f)
    filled-not_some r front is_front tested differs n is =
        let len = mask_len n is in
        let fill = (fill-some k u f front is_inner is_front there).1 in (
          λ yes. absurd (false≢true (sym differs ∙ yes)),
          λ each. tested ∙ (all-Decides mask 1).1 (λ i lt. flag_cases mask flags i lt (λ z.
              none-some (sym (cell_at-none k mask inner i z) ∙ each i (omega (arith, len)) ∙ fill))),
        )

-- what the cells being all this one says of the list of the cells
pub all_cells-from : (k : Kind) (d : ArrayData) (cs : List Cell) (c : Cell) (r : Bool) → cells k d ≡ Some cs
    → ((n : ℕ) → fits k d n ≡ true → IsTrue r ↔ AreAllCells k d n c) → r ≡ list_all (λ e. cell_eq e c) cs
all_cells-from k d cs c r is tested =
    let parts = cells-parts k d cs is in
    let n = length cs in
    let test = tested n parts.0 in
    let at : (i : ℕ) (e : Cell) → i < n → get_or cs i e ≡ cell_at k d i =
    λ i e lt. ap (λ l. get_or l i e) parts.2 ∙ get_or-map-range_with_len (λ j. cell_at k d j) 0 n i i e lt (omega arith) in
    same_answer r (list_all (λ e. cell_eq e c) cs) (
      λ yes. list_all-from_AllPass (λ e. cell_eq e c) cs (λ i e lt. eq-cell_eq (get_or cs i e) c (at i e lt ∙ test.0 yes i lt)),
      λ all. test.1 (λ i lt. sym (at i none lt) ∙ cell_eq-true (get_or cs i none) c (AllPass-from_list_all (λ e. cell_eq e c) cs all i none lt)),
    )
  where
    same_answer : (a b : Bool) → (a ≡ true → b ≡ true) × (b ≡ true → a ≡ true) → a ≡ b
    same_answer true b both = sym (both.0 refl)
    same_answer false true both = both.1 refl
    same_answer false false both = refl

pub is_fill-cells : (k : Kind) (d : ArrayData) (c : Cell) (r : Bool)
    → ((n : ℕ) → fits k d n ≡ true → IsTrue r ↔ AreAllCells k d n c) → IfSome (cells k d) (λ cs. r ≡ list_all (λ e. cell_eq e c) cs)
is_fill-cells k d c r tested = go (cells k d) refl
  where
    go : (o : Option (List Cell)) → cells k d ≡ o → IfSome o (λ cs. r ≡ list_all (λ e. cell_eq e c) cs)
    go None is = tt
    go (Some cs) is = all_cells-from k d cs c r is tested

pub fits-cells : (k : Kind) (d : ArrayData) → IsSome (cells k d) → (n : ℕ) × IsTrue (fits k d n)
fits-cells k d there = go (cells k d) refl there
  where
    go : (o : Option (List Cell)) → cells k d ≡ o → IsSome o → (n : ℕ) × IsTrue (fits k d n)
    go None is h = let nothing : IsSome {T = List Cell} None = h in cc
    go (Some cs) is h = (length cs, (cells-parts k d cs is).0)

-- the fill value of a type whose data fits is not empty
pub fill_positive-fits : (t : DataType) (b f : List ℕ) → (n : ℕ) × IsTrue (fits (kind t) (fixed b) n) → IsSome (fill_cell (kind t) f) → 0 < length f
fill_positive-fits t b f at there =
    let size = fits-fixed (kind t) b at.0 at.1 in
    let fill = fill_parts (kind t) size.0 f size.1 there in
    omega (arith, fill.2, element_size-positive t size.0 size.1)
