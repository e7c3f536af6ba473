-- Whether data is a number of cells of a type, level by level.
use Rattle.std.proofs.Common.{◌≡◌, ◌==◌, ℕ, ◌<◌, Bool, true, false, cond, List, [], map, get_or, None, Some, IsTrue}
use Rattle.std.proofs.Common.{◌↔◌, refl, sym, ap, ◌∙◌, subst, arith}
use Rattle.std.specs.Prelude.{All, nat_lt, slice_index, is_some, slice_index_or}
use Rattle.std.specs.List.{list_all}
use Rattle.std.specs.Str.{is_utf8}
use Rattle.std.proofs.lemmas.Bool.{false≢true, lt-ltb}
use Rattle.std.proofs.lemmas.List.{length-map, get_or-map, get_or_default}
use Rattle.std.proofs.lemmas.List.FromFn.{get_or-map-range_with_len}
use Rattle.std.proofs.lemmas.List.Sums.{AllPass-from_list_all, list_all-from_AllPass}
use Rattle.zarrs_data_type_kinds.specs.declared.data_type.DataType.{DataType}
use Rattle.zarrs_data_type_kinds.specs.Kind.{Kind, kind, is_variable, inner_of}
use Rattle.zarrs_data_type_kinds.specs.Kind as type
use Rattle.zarrs_data_type_kinds.specs.Cell.{bytes, none, some, is_element, is_value, may_hold, takes_any_bytes}
use Rattle.zarrs_data_type_kinds.proofs.Sizes.{element_size-positive}
use Rattle.zarrs_data_type_bytes.specs.ArrayData.{ArrayData, fixed, variable, optional}
use Rattle.zarrs_data_type_bytes.specs.Cells.{fits, cell_at, HasCells}
use Rattle.zarrs_subset.specs.Pieces.{pieces, piece_at}
use Rattle.zarrs_data_type_bytes.proofs.Cells.{AllValues, HasCells-from, HasCells-parts}
use Rattle.zarrs_data_type_bytes.proofs.Filled.{fits-fixed, fits-variable, fits-optional, cell_at-fixed}
use Rattle.zarrs_data_type_bytes.proofs.Fixed.{held-values}
use Rattle.zarrs_data_type_bytes.proofs.Pieces.{length-pieces}

pub any_held : (k : Kind) (b : List ℕ) → takes_any_bytes k ≡ true → may_hold k b ≡ true
any_held type.bool b any = cc
any_held k b any = refl

any_string : (k : Kind) (string : List ℕ) → is_variable k ≡ true → takes_any_bytes k ≡ true → is_element k string ≡ true
any_string type.string string is any = cc
any_string type.bytes string is any = refl
any_string k string is any = cc

any_inner : (k u : Kind) → inner_of k ≡ Some u → takes_any_bytes k ≡ true → takes_any_bytes u ≡ true
any_inner (type.optional v) u is any = let e : v ≡ u = cc in subst (λ w. takes_any_bytes w ≡ true) e any
any_inner k u is any = cc

fixed_values : (k : Kind) (b : List ℕ) (n : ℕ) → takes_any_bytes k ≡ true → fits k (fixed b) n ≡ true → AllValues k (fixed b) n
fixed_values k b n any is i lt =
    let at = fits-fixed k b n is in
    let size = at.0 in
    let cs = map bytes (pieces size n b) in
    let count = length-map (pieces size n b) bytes in
    let passed = AllPass-from_list_all (λ c. is_value k c) cs (sym (held-values k size at.1 n b at.2) ∙ any_held k b any) i none
    (omega (arith, count, length-pieces size n b)) in
    let same : get_or cs i none ≡ cell_at k (fixed b) i =
    get_or-map bytes (pieces size n b) i [] none (omega (arith, length-pieces size n b))
    ∙ ap bytes (get_or-map-range_with_len (piece_at size b) 0 n i i [] lt (omega arith))
    ∙ sym (cell_at-fixed k size b i at.1) in
    subst (λ c. is_value k c ≡ true) same passed

-- a cell of an optional type is a value if it is none, or some of a value
pub optional-value : (k u : Kind) (mask : List ℕ) (inner : ArrayData) (i : ℕ) → inner_of k ≡ Some u → is_value u (cell_at u inner i) ≡ true → is_value k (cell_at k (optional mask inner) i) ≡ true
optional-value k u mask inner i is value = go (slice_index mask i == 0)
  where
    go : (flag : Bool) → is_value k (cond flag none (elim (inner_of k) [ None ↦ none | Some v ↦ some (cell_at v inner i) ])) ≡ true
    go true = ap is_some is
    go false =
        ap (λ o. is_value k (elim o [ None ↦ none | Some v ↦ some (cell_at v inner i) ])) is
        ∙ ap (λ o. elim o [ None ↦ false | Some v ↦ is_value v (cell_at u inner i) ]) is
        ∙ value

-- data that fits has values alone, if any bytes are values
pub any_values : (k : Kind) (d : ArrayData) (n : ℕ) → takes_any_bytes k ≡ true → fits k d n ≡ true → AllValues k d n
any_values k (fixed b) n any is = fixed_values k b n any is
any_values k (variable strings) n any is = λ i lt. any_string k (slice_index_or strings i []) (fits-variable k strings n is).0 any
any_values k (optional mask inner) n any is =
    let at = fits-optional k mask inner n is in
    let below = any_values at.0 inner n (any_inner k at.0 at.1 any) at.3 in
    λ i lt. optional-value k at.0 mask inner i at.1 (below i lt)

-- ---- what the tests say

pub HasCells-any : (t : DataType) (d : ArrayData) (n : ℕ) → takes_any_bytes (kind t) ≡ true → fits (kind t) d n ≡ true → HasCells (kind t) d n
HasCells-any t d n any is = HasCells-from (kind t) d n (element_size-positive t) is (any_values (kind t) d n any is)

pub HasCells-fits : (k : Kind) (d : ArrayData) (n : ℕ) → fits k d n ≡ false → HasCells k d n → ⊥
HasCells-fits k d n differs has = false≢true (sym differs ∙ (HasCells-parts k d n has).0)

pub HasCells-values : (k : Kind) (d : ArrayData) (n i : ℕ) → i < n → is_value k (cell_at k d i) ≡ false → HasCells k d n → ⊥
HasCells-values k d n i lt differs has = false≢true (sym differs ∙ (HasCells-parts k d n has).1 i lt)

-- the two results of a test
pub tested_true : {P : Type 0} → P → IsTrue true ↔ P
tested_true p = (λ _. p, λ _. refl)

pub tested_false : {P : Type 0} → (P → ⊥) → IsTrue false ↔ P
tested_false fails = (λ is. absurd (false≢true is), λ p. absurd (fails p))

-- a list with a byte above 1 is no mask
pub no_flags : (mask : List ℕ) → list_all (λ byte. nat_lt byte 2) mask ≡ false → All (λ byte. byte < 2) mask → ⊥
no_flags mask differs flags =
    false≢true (sym differs ∙ list_all-from_AllPass (λ byte. nat_lt byte 2) mask (λ i d lt. lt-ltb (get_or mask i d) 2 (flags i d lt)))

-- a byte string of a type that does not take any bytes is a value if it is a text
text_value : (k : Kind) (string : List ℕ) → is_variable k ≡ true → takes_any_bytes k ≡ false → is_element k string ≡ is_utf8 string
text_value type.string string is any = refl
text_value type.bytes string is any = absurd (false≢true (sym any))
text_value k string is any = absurd (false≢true is)

-- byte strings of such a type are values if all of them are texts
pub HasCells-texts : (t : DataType) (strings : List (List ℕ)) (n : ℕ) (test : Bool) → takes_any_bytes (kind t) ≡ false → fits (kind t) (variable strings) n ≡ true
    → test ≡ list_all is_utf8 strings → IsTrue test ↔ HasCells (kind t) (variable strings) n
HasCells-texts t strings n true any is tested =
    let k = kind t in
    let at = fits-variable k strings n is in
    tested_true (HasCells-from k (variable strings) n (element_size-positive t) is
    (λ i lt. text_value k (slice_index_or strings i []) at.0 any ∙ AllPass-from_list_all is_utf8 strings (sym tested) i [] (omega (arith, at.1))))
HasCells-texts t strings n false any is tested =
    let k = kind t in
    let at = fits-variable k strings n is in
    tested_false (λ has. false≢true (tested ∙ list_all-from_AllPass is_utf8 strings (λ i d lt.
    ap is_utf8 (get_or_default strings i d [] lt)
    ∙ sym (text_value k (slice_index_or strings i []) at.0 any)
    ∙ (HasCells-parts k (variable strings) n has).1 i (omega (arith, at.1)))))
