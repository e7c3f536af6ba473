-- Regions that words write.
use Rattle.std.proofs.Common.{◌≡◌, ◌&&◌, ℕ, zero, suc, ◌+◌, ◌^◌, ◌<◌, ◌≤◌, Bool, true, false, nat_lt, List, [], ◌∷◌}
use Rattle.std.proofs.Common.{length, get_or, Some, None, refl, lt-ltb, le-ltb, arith}
use Rattle.std.specs.Cmp.Lexicographic.{unequal}
use Rattle.zarrs_subset.specs.Regions.{IsBox, box_from}
use Rattle.zarrs_subset.specs.Refusals.{RefusesStartShape}
use Rattle.zarrs_subset.specs.declared.error.ArraySubsetError.{ArraySubsetError}
use Rattle.zarrs_subset.specs.declared.error.ArraySubsetError.TheVariants.{IncompatibleDimensionality, EndOverflow}
use Rattle.zarrs_subset.specs.declared.error.ArraySubsetError.TheVariants.{EndBelowStart, StartBelowOffset, OutOfMemory}
use Rattle.zarrs_script.specs.Words.{numbers_in_word, is_region, region_of}

-- each end fits: there is such a region
ends_fit : (start shape : List ℕ) → length shape ≡ length start → ((k : ℕ) → k < length start → get_or start k 0 + get_or shape k 0 < 2 ^ 64) → is_region start shape ≡ true
ends_fit [] [] long fits = refl
ends_fit [] (extent ∷ shape) long fits = absurd (cc long)
ends_fit (first ∷ start) [] long fits = absurd (cc long)
ends_fit (first ∷ start) (extent ∷ shape) long fits =
    let here : first + extent < 2 ^ 64 = fits 0 (omega arith) in
    rw (lt-ltb _ _ here) (ends_fit start shape (omega arith) (λ k lt. fits (suc k) (omega arith)))

and_false : (b : Bool) → (b && false) ≡ false
and_false true = refl
and_false false = refl

-- an end does not fit: there is none
past_end : (start shape : List ℕ) (k : ℕ) → k < length start → 2 ^ 64 ≤ get_or start k 0 + get_or shape k 0 → is_region start shape ≡ false
past_end [] shape k lt past = absurd (omega arith)
past_end (first ∷ start) [] k lt past = refl
past_end (first ∷ start) (extent ∷ shape) zero lt past = rw (le-ltb _ _ past) refl
past_end (first ∷ start) (extent ∷ shape) (suc k) lt past =
    let rest = past_end start shape k (omega arith) past in
    rw rest (and_false (nat_lt (first + extent) (2 ^ 64)))

refused : (start shape : List ℕ) (error : ArraySubsetError) → RefusesStartShape start shape error → is_region start shape ≡ false
refused start shape (IncompatibleDimensionality error) h = unequal (λ first extent. nat_lt (first + extent) (2 ^ 64)) start shape h.0
refused start shape EndOverflow h = past_end start shape h.1.0 h.1.1 h.1.2
refused start shape EndBelowStart h = absurd h
refused start shape StartBelowOffset h = absurd h
refused start shape OutOfMemory h = absurd h

-- the words of a region
pub region_made : (start shape first extents : List ℕ) → numbers_in_word start ≡ Some first → numbers_in_word shape ≡ Some extents → IsBox (box_from first extents)
    → region_of start shape ≡ Some (box_from first extents)
region_made start shape first extents starts ends is_box =
    let made = ends_fit first extents is_box.same_length is_box.ends_fit in
    rw (starts, ends, made) refl

-- the words of no region
pub no_region : (start shape first extents : List ℕ) (error : ArraySubsetError) → numbers_in_word start ≡ Some first → numbers_in_word shape ≡ Some extents → RefusesStartShape first extents error
    → region_of start shape ≡ None
no_region start shape first extents error starts ends refuses =
    let none = refused first extents error refuses in
    rw (starts, ends, none) refl
