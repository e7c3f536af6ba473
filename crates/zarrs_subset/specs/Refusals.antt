-- Why a call that makes a box is refused. Out of memory comes only if nothing that the arguments say is refused.
use Rattle.std.specs.Prelude.{◌≡◌, ◌≢◌, ℕ, ◌+◌, ◌<◌, ◌≤◌, ◌^◌, List, length, slice_index, SomeIndex, EachIndex}
use Rattle.zarrs_subset.specs.declared.error.IncompatibleDimensionalityError.{IncompatibleDimensionalityError}
use Rattle.zarrs_subset.specs.declared.error.ArraySubsetError.{ArraySubsetError}
use Rattle.zarrs_subset.specs.declared.error.ArraySubsetError.TheVariants.{IncompatibleDimensionality, EndOverflow}
use Rattle.zarrs_subset.specs.declared.error.ArraySubsetError.TheVariants.{EndBelowStart, StartBelowOffset, OutOfMemory}

-- the two lengths differ, and the error holds them
abbrev pub IsMismatch : ℕ → ℕ → IncompatibleDimensionalityError → Type 0
IsMismatch got expected error = (got ≢ expected) × (error.got ≡ got) × (error.expected ≡ expected)

-- no box has this start and this shape
abbrev pub RefusesStartShape : List ℕ → List ℕ → ArraySubsetError → Type 0
RefusesStartShape start shape (IncompatibleDimensionality error) = IsMismatch (length start) (length shape) error
RefusesStartShape start shape EndOverflow =
    (length start ≡ length shape) × SomeIndex start (λ k. 2 ^ 64 ≤ slice_index start k + slice_index shape k)
RefusesStartShape start shape EndBelowStart = ⊥
RefusesStartShape start shape StartBelowOffset = ⊥
RefusesStartShape start shape OutOfMemory = ⊥

-- no box has this start and this end
abbrev pub RefusesStartEnd : List ℕ → List ℕ → ArraySubsetError → Type 0
RefusesStartEnd start end (IncompatibleDimensionality error) = IsMismatch (length start) (length end) error
RefusesStartEnd start end EndOverflow = ⊥
RefusesStartEnd start end EndBelowStart =
    (length start ≡ length end) × SomeIndex start (λ k. slice_index end k < slice_index start k)
RefusesStartEnd start end StartBelowOffset = ⊥
RefusesStartEnd start end OutOfMemory = ⊥

-- a list of length `got` does not serve a box of `expected` dimensions
abbrev pub RefusesLength : ℕ → ℕ → ArraySubsetError → Type 0
RefusesLength got expected (IncompatibleDimensionality error) = IsMismatch got expected error
RefusesLength got expected EndOverflow = ⊥
RefusesLength got expected EndBelowStart = ⊥
RefusesLength got expected StartBelowOffset = ⊥
RefusesLength got expected OutOfMemory = got ≡ expected

-- a box of this start cannot be seen from this offset
abbrev pub RefusesOffset : List ℕ → List ℕ → ArraySubsetError → Type 0
RefusesOffset start offset (IncompatibleDimensionality error) = IsMismatch (length offset) (length start) error
RefusesOffset start offset EndOverflow = ⊥
RefusesOffset start offset EndBelowStart = ⊥
RefusesOffset start offset StartBelowOffset =
    (length offset ≡ length start) × SomeIndex offset (λ k. slice_index start k < slice_index offset k)
RefusesOffset start offset OutOfMemory =
    (length offset ≡ length start) × EachIndex offset (λ k. slice_index offset k ≤ slice_index start k)

-- a box of this start and shape cannot be shifted by this offset
abbrev pub RefusesShift : List ℕ → List ℕ → List ℕ → ArraySubsetError → Type 0
RefusesShift start shape offset (IncompatibleDimensionality error) = IsMismatch (length offset) (length start) error
RefusesShift start shape offset EndOverflow =
    (length offset ≡ length start)
    × SomeIndex offset (λ k. 2 ^ 64 ≤ slice_index start k + slice_index shape k + slice_index offset k)
RefusesShift start shape offset EndBelowStart = ⊥
RefusesShift start shape offset StartBelowOffset = ⊥
RefusesShift start shape offset OutOfMemory =
    (length offset ≡ length start)
    × EachIndex offset (λ k. slice_index start k + slice_index shape k + slice_index offset k < 2 ^ 64)
