-- Numbers and the cells that they stand for.
use Rattle.std.proofs.Common.{◌≡◌, ℕ, true, List, [], ◌∷◌, length, map, get_or, Some, refl, ap, ◌∙◌}
use Rattle.std.specs.List.{flat_map}
use Rattle.std.proofs.lemmas.Simd.{map-map}
use Rattle.zarrs_data_type_kinds.specs.declared.data_type.DataType.{DataType}
use Rattle.zarrs_data_type_kinds.specs.Kind.{Kind, kind, element_size}
use Rattle.zarrs_data_type_kinds.specs.Cell.{bytes, takes_any_bytes}
use Rattle.zarrs_data_type_kinds.specs.Same.{kind_eq, kind_eq-Decides}
use Rattle.zarrs_data_type_kinds.proofs.Sizes.{element_size-positive}
use Rattle.zarrs_data_type_bytes.specs.ArrayData.{fixed}
use Rattle.zarrs_data_type_bytes.specs.Cells.{cells}
use Rattle.zarrs_data_type_bytes.proofs.Fixed.{cells-held}
use Rattle.zarrs_data_type_bytes.proofs.Pieces.{length-flat_map_same, pieces-flat_map}
use Rattle.zarrs_data_type_bytes.proofs.Validity.{any_held}

-- any bytes are values of a type that is this one
same_any : (k l : Kind) → kind_eq k l ≡ true → takes_any_bytes l ≡ true → takes_any_bytes k ≡ true
same_any k l is any = ap takes_any_bytes ((kind_eq-Decides k l).0 is) ∙ any

-- the cells of pieces of the size of such a type
pub cells-numbers : {X : Type 0} (f : X → List ℕ) (t : DataType) (l : Kind) (size : ℕ) (xs : List X) → kind_eq (kind t) l ≡ true → element_size l ≡ Some size → takes_any_bytes l ≡ true
    → ((x : X) → length (f x) ≡ size) → cells (kind t) (fixed (flat_map f xs)) ≡ Some (map (λ x. bytes (f x)) xs)
cells-numbers f t l size xs same sized any each =
    let k = kind t in
    let is : element_size k ≡ Some size = ap element_size ((kind_eq-Decides k l).0 same) ∙ sized in
    cells-held k size is (flat_map f xs) (length xs) (element_size-positive t size is) (length-flat_map_same f size xs (λ i d lt. each (get_or xs i d))) (any_held k (flat_map f xs) (same_any k l same any))
    ∙ ap (λ ps. Some (map bytes ps)) (pieces-flat_map f size xs (λ i d lt. each (get_or xs i d)))
    ∙ ap Some (map-map bytes f xs)

-- bytes are their own pieces of one
pub singles : (xs : List ℕ) → flat_map (λ x. x ∷ []) xs ≡ xs
singles [] = refl
singles (x ∷ xs) = ap (λ l. x ∷ l) (singles xs)
