-- What is left of a region that is cut into bands.
use Rattle.std.proofs.Common.{◌≡◌, ℕ, ◌<◌, List, [], ◌∷◌, ◌++◌, length, sym, subst, ap, ◌∙◌, append-nil, append_assoc, length-append, arith}
use Rattle.std.specs.Prelude.{Option, Some}
use Rattle.std.specs.Option.{option_to_list}
use Rattle.std.specs.List.{All}
use Rattle.std.proofs.lemmas.List.Elements.{All-head, All-tail}
use Rattle.zarrs_subset.specs.Regions.{Box, IsLong, box_of, positions}
use Rattle.zarrs_subset.specs.declared.subset.ArraySubset.{ArraySubset}
use Rattle.zarrs_subset.proofs.WalkLemmas.{length-positions-some}
use Rattle.zarr_cells.specs.Rows.{IsFull}
use Rattle.zarr_arrays.specs.Bands.{places_of}

-- the last region comes first
places_push : (regions : List ArraySubset) (region : ArraySubset) → places_of (regions ++ region ∷ []) ≡ positions (box_of region) ++ places_of regions
places_push [] region = sym (append-nil (positions (box_of region)))
places_push (first ∷ regions) region =
    ap (λ (l : List (List ℕ)). l ++ positions (box_of first)) (places_push regions region) ∙ append_assoc (positions (box_of region)) (places_of regions) (positions (box_of first))

pub places_one : (none all : List ArraySubset) (region : ArraySubset) → none ≡ [] → all ≡ none ++ region ∷ [] → places_of all ≡ positions (box_of region)
places_one none all region empty items =
    ap places_of (items ∙ ap (λ (l : List ArraySubset). l ++ region ∷ []) empty)

-- the last region is taken
pub places_pop : (old new : List ArraySubset) (found : Option ArraySubset) (region : ArraySubset) → old ≡ new ++ option_to_list found → found ≡ Some region
    → positions (box_of region) ++ places_of new ≡ places_of old
places_pop old new found region items is =
    sym (places_push new region) ∙ ap (λ (f : Option ArraySubset). places_of (new ++ option_to_list f)) (sym is) ∙ ap places_of (sym items)

-- and it is not empty
pub full_pop : (old new : List ArraySubset) (found : Option ArraySubset) (region : ArraySubset) → old ≡ new ++ option_to_list found → found ≡ Some region
    → All (λ (r : ArraySubset). IsFull (box_of r)) old → IsFull (box_of region)
full_pop old new found region items is full =
    let all : old ≡ new ++ region ∷ [] = items ∙ ap (λ (f : Option ArraySubset). new ++ option_to_list f) is in
    last new region (subst (All (λ (r : ArraySubset). IsFull (box_of r))) all full)
  where
    last : (regions : List ArraySubset) (region : ArraySubset) → All (λ (r : ArraySubset). IsFull (box_of r)) (regions ++ region ∷ []) → IsFull (box_of region)
    last [] region full = All-head (λ (r : ArraySubset). IsFull (box_of r)) region [] full
    last (first ∷ regions) region full = last regions region (All-tail (λ (r : ArraySubset). IsFull (box_of r)) first (regions ++ region ∷ []) full)

-- a part of a region is put back
pub places_cut : (band region : Box) (put : ArraySubset) (old new : List ArraySubset) → positions band ++ positions (box_of put) ≡ positions region → new ≡ old ++ put ∷ []
    → positions band ++ places_of new ≡ positions region ++ places_of old
places_cut band region put old new split items =
    ap (λ (l : List ArraySubset). positions band ++ places_of l) items ∙ ap (λ (l : List (List ℕ)). positions band ++ l) (places_push old put)
    ∙ sym (append_assoc (positions band) (positions (box_of put)) (places_of old)) ∙ ap (λ (l : List (List ℕ)). l ++ places_of old) split

-- what is left of it has fewer positions
pub fewer_cut : (band region : Box) (put : ArraySubset) → positions band ++ positions (box_of put) ≡ positions region → IsLong (box_of put) → IsFull (box_of put)
    → length (positions band) < length (positions region)
fewer_cut band region put split long full =
    let some : 0 < length (positions (box_of put)) = length-positions-some (box_of put) long full in
    let all = length-append (positions band) (positions (box_of put)) in
    let same = ap (λ (l : List (List ℕ)). length l) split in
    omega (arith, all, same)

-- a band is taken off
pub fewer_left : (band : Box) (left all : List (List ℕ)) → positions band ++ left ≡ all → IsLong band → IsFull band → length left < length all
fewer_left band left all split long full =
    let some : 0 < length (positions band) = length-positions-some band long full in
    let both = length-append (positions band) left in
    let same = ap (λ (l : List (List ℕ)). length l) split in
    omega (arith, both, same)
