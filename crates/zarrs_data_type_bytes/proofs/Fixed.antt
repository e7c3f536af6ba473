-- The cells of bytes of one size.
use Rattle.std.proofs.Common.{◌≡◌, ℕ, ◌+◌, ◌*◌, ◌/◌, ◌<◌, Bool, true, false, cond, eqb, List, [], ◌∷◌, length, map}
use Rattle.std.proofs.Common.{get_or, Option, None, Some, ◌&&◌, IsTrue, ◌↔◌, refl, sym, ap, ◌∙◌, subst, arith}
use Rattle.std.specs.Prelude.{slice_range, IsSomeAnd, IsSome, is_some}
use Rattle.std.specs.List.{range_with_len, list_all}
use Rattle.std.proofs.lemmas.Bool.{eqb-true, eq-eqb, false≢true}
use Rattle.std.proofs.Math.Nat.{mul-div_cancel}
use Rattle.std.proofs.lemmas.Simd.{map-map}
use Rattle.std.proofs.lemmas.List.{length-map}
use Rattle.std.proofs.lemmas.List.Folds.{list_all-map}
use Rattle.std.proofs.lemmas.List.Sums.{list_all-from_AllPass}
use Rattle.zarrs_data_type_kinds.specs.Kind.{Kind, element_size}
use Rattle.zarrs_data_type_kinds.specs.Kind as type
use Rattle.zarrs_data_type_kinds.specs.Cell.{Cell, bytes, none, is_element, is_value, are_values, values_only, may_hold}
use Rattle.zarrs_data_type_bytes.specs.ArrayData.{fixed}
use Rattle.zarrs_data_type_bytes.specs.Cells.{fits, count_of, cell_at, cells, HasCells}
use Rattle.zarrs_subset.specs.Pieces.{pieces}
use Rattle.zarrs_data_type_bytes.proofs.Cells.{IsSized, count_of-fits, HasCells-parts, HasCells-some}
use Rattle.zarrs_data_type_bytes.proofs.Pieces.{length-pieces, length-piece, pieces-one}

some_is : {A : Type 0} {x y : A} → Some x ≡ Some y → x ≡ y
some_is e = cc

-- each of these byte strings is an element of the type
abbrev are_elements : Kind → List (List ℕ) → Bool
are_elements k ps = list_all (λ p. is_element k p) ps

-- pieces of the exact size are elements of a type that any byte fits
all_elements : (k : Kind) (size n : ℕ) (b : List ℕ) → length b ≡ n * size → ((p : List ℕ) → length p ≡ size → is_element k p ≡ true) → true ≡ are_elements k (pieces size n b)
all_elements k size n b len each =
    sym (list_all-from_AllPass (λ p. is_element k p) (pieces size n b) (λ i d lt. each (get_or (pieces size n b) i d) (length-piece size n b len i d (omega (arith, length-pieces size n b)))))

-- a bool is one byte below 2
bool_elements : (size n : ℕ) (b : List ℕ) → 1 ≡ size → length b ≡ n * size → may_hold type.bool b ≡ are_elements type.bool (pieces size n b)
bool_elements size n b is len =
    let count : length b ≡ n = len ∙ ap (λ s. n * s) (sym is) ∙ (let e : n * 1 ≡ n = omega arith in e) in
    sym
    (ap (λ s. are_elements type.bool (pieces s n b)) (sym is)
    ∙ ap (λ m. are_elements type.bool (pieces 1 m b)) (sym count)
    ∙ ap (are_elements type.bool) (pieces-one b)
    ∙ list_all-map (λ p. is_element type.bool p) (λ x. x ∷ []) b)

-- the test of the bytes is that of the elements
held_elements : (k : Kind) (size n : ℕ) (b : List ℕ) → element_size k ≡ Some size → length b ≡ n * size → may_hold k b ≡ are_elements k (pieces size n b)
held_elements (type.optional inner) size n b is len = cc
held_elements type.bool size n b is len = bool_elements size n b (some_is is) len
held_elements type.int8 size n b is len = all_elements type.int8 size n b len (λ p l. eq-eqb (length p) 1 (l ∙ sym (some_is is)))
held_elements type.int16 size n b is len = all_elements type.int16 size n b len (λ p l. eq-eqb (length p) 2 (l ∙ sym (some_is is)))
held_elements type.int32 size n b is len = all_elements type.int32 size n b len (λ p l. eq-eqb (length p) 4 (l ∙ sym (some_is is)))
held_elements type.int64 size n b is len = all_elements type.int64 size n b len (λ p l. eq-eqb (length p) 8 (l ∙ sym (some_is is)))
held_elements type.uint8 size n b is len = all_elements type.uint8 size n b len (λ p l. eq-eqb (length p) 1 (l ∙ sym (some_is is)))
held_elements type.uint16 size n b is len = all_elements type.uint16 size n b len (λ p l. eq-eqb (length p) 2 (l ∙ sym (some_is is)))
held_elements type.uint32 size n b is len = all_elements type.uint32 size n b len (λ p l. eq-eqb (length p) 4 (l ∙ sym (some_is is)))
held_elements type.uint64 size n b is len = all_elements type.uint64 size n b len (λ p l. eq-eqb (length p) 8 (l ∙ sym (some_is is)))
held_elements (type.raw s) size n b is len = all_elements (type.raw s) size n b len (λ p l. eq-eqb (length p) s (l ∙ sym (some_is is)))
held_elements type.string size n b is len = cc
held_elements type.bytes size n b is len = cc

module _ (k : Kind) (size : ℕ) (is : element_size k ≡ Some size) where
  -- the cells of fixed bytes
  abbrev pub piece_cells : ℕ → List ℕ → List Cell
  piece_cells n b = map bytes (pieces size n b)

  pub held-values : (n : ℕ) (b : List ℕ) → length b ≡ n * size → may_hold k b ≡ are_values k (map bytes (pieces size n b))
  held-values n b len = held_elements k size n b is len ∙ sym (list_all-map (λ c. is_value k c) bytes (pieces size n b))

  size_of_fitting : (o : Option ℕ) (b : List ℕ) (n : ℕ) → o ≡ Some size → elim o [ None ↦ false | Some s ↦ eqb (length b) (n * s) ] ≡ true → length b ≡ n * size
  size_of_fitting None b n some fit = cc
  size_of_fitting (Some s) b n some fit = let e : s ≡ size = cc in eqb-true (length b) (n * s) fit ∙ ap (λ m. n * m) e

  -- fixed data of n cells has n elements
  pub length-fixed : (b : List ℕ) (n : ℕ) → HasCells k (fixed b) n → length b ≡ n * size
  length-fixed b n has = size_of_fitting (element_size k) b n is (HasCells-parts k (fixed b) n has).0

  fitting : (o : Option ℕ) (b : List ℕ) (n : ℕ) → o ≡ Some size → length b ≡ n * size → elim o [ None ↦ false | Some s ↦ eqb (length b) (n * s) ] ≡ true
  fitting None b n some len = cc
  fitting (Some s) b n some len = let e : s ≡ size = cc in eq-eqb (length b) (n * s) (len ∙ ap (λ m. n * m) (sym e))

  -- the cells of fixed data are its pieces
  pub cells-fixed : (b : List ℕ) (n : ℕ) → 0 < size → length b ≡ n * size → cells k (fixed b) ≡ values_only k (map bytes (pieces size n b))
  cells-fixed b n positive len =
      let sized : IsSized k = λ s other. let e : size ≡ s = some_is (sym is ∙ other) in subst (λ m. 0 < m) e positive in
      let fit : fits k (fixed b) n ≡ true = fitting (element_size k) b n is len in
      let counted = count_of-fits k (fixed b) n sized fit in
      let at : (λ i. cell_at k (fixed b) i) ≡ (λ i. bytes (slice_range b (i * size) (i * size + size))) =
      ap (λ o i. elim o [ None ↦ none | Some s ↦ bytes (slice_range b (i * s) (i * s + s)) ]) is in
      let cs : ℕ → List Cell = λ m. map (λ i. cell_at k (fixed b) i) (range_with_len 0 m) in
      ap (λ m. cond (fits k (fixed b) m && are_values k (cs m)) (Some (cs m)) None) counted
      ∙ ap (λ x. cond (x && are_values k (cs n)) (Some (cs n)) None) fit
      ∙ ap (values_only k) (ap (λ f. map f (range_with_len 0 n)) at ∙ sym (map-map bytes (λ i. slice_range b (i * size) (i * size + size)) (range_with_len 0 n)))

  -- data whose bytes may all stand in a cell has its pieces for cells
  pub cells-held : (b : List ℕ) (n : ℕ) → 0 < size → length b ≡ n * size → may_hold k b ≡ true → cells k (fixed b) ≡ Some (map bytes (pieces size n b))
  cells-held b n positive len held =
      cells-fixed b n positive len
      ∙ ap (λ x. cond x (Some (map bytes (pieces size n b))) None) (sym (held-values n b len) ∙ held)

  -- and else it has none
  pub cells-not_held : (b : List ℕ) (n : ℕ) → 0 < size → length b ≡ n * size → may_hold k b ≡ false → cells k (fixed b) ≡ None
  cells-not_held b n positive len held =
      cells-fixed b n positive len
      ∙ ap (λ x. cond x (Some (map bytes (pieces size n b))) None) (sym (held-values n b len) ∙ held)

  length-piece_cells : (b : List ℕ) (n : ℕ) → length (map bytes (pieces size n b)) ≡ n
  length-piece_cells b n = length-map (pieces size n b) bytes ∙ length-pieces size n b

  -- the test of the length and of the bytes is that of the cells
  pub HasCells-fixed : (b : List ℕ) (n : ℕ) → 0 < size → length b ≡ n * size → IsTrue (may_hold k b) ↔ HasCells k (fixed b) n
  HasCells-fixed b n positive len = (
    (λ held. subst (λ o. IsSomeAnd o (λ x. length x ≡ n)) (sym (cells-held b n positive len held)) (length-piece_cells b n)),
    (λ has. go (may_hold k b) refl has),
  )
    where
      go : (x : Bool) → may_hold k b ≡ x → HasCells k (fixed b) n → may_hold k b ≡ true
      go true e has = e
      go false e has = absurd (subst (λ o. IsSomeAnd o (λ x. length x ≡ n)) (cells-not_held b n positive len e) has)

  -- fixed data that has cells has its pieces for cells
  pub cells-of : (b : List ℕ) (n : ℕ) → 0 < size → HasCells k (fixed b) n → cells k (fixed b) ≡ Some (map bytes (pieces size n b))
  cells-of b n positive has =
      let len = length-fixed b n has in
      cells-held b n positive len ((HasCells-fixed b n positive len).1 has)

-- a type of no fixed size has no fixed data
pub unsized_cells : (k : Kind) (b : List ℕ) → element_size k ≡ None → cells k (fixed b) ≡ None
unsized_cells k b is =
    let n = count_of k (fixed b) in
    let cs = map (λ i. cell_at k (fixed b) i) (range_with_len 0 n) in
    let fit : fits k (fixed b) n ≡ false = ap (λ o. elim o [ None ↦ false | Some s ↦ eqb (length b) (n * s) ]) is in
    ap (λ x. cond (x && are_values k cs) (Some cs) None) fit

-- data that has cells is of a fixed size
pub sized_cells : (k : Kind) (b : List ℕ) → IsSome (cells k (fixed b)) → (size : ℕ) × (element_size k ≡ Some size)
sized_cells k b some = go (element_size k) refl
  where
    go : (o : Option ℕ) → element_size k ≡ o → (size : ℕ) × (element_size k ≡ Some size)
    go (Some size) is = (size, is)
    go None is = absurd (false≢true (sym (ap is_some (unsized_cells k b is)) ∙ some))

-- and has as many cells as the size goes into the bytes
pub whole_cells : (k : Kind) (size : ℕ) (b : List ℕ) → element_size k ≡ Some size → 0 < size → IsSome (cells k (fixed b)) → HasCells k (fixed b) (length b / size)
whole_cells k size b is positive some = go (cells k (fixed b)) refl some
  where
    go : (o : Option (List Cell)) → cells k (fixed b) ≡ o → IsSome o → HasCells k (fixed b) (length b / size)
    go None made h = cc
    go (Some cs) made h =
        let has = HasCells-some k (fixed b) cs made in
        let count : length b / size ≡ length cs = ap (λ x. x / size) (length-fixed k size is b (length cs) has) ∙ mul-div_cancel (length cs) positive in
        subst (λ n. HasCells k (fixed b) n) (sym count) has
