-- What the words of a command line say.
use Rattle.std.specs.Prelude.{◌≡◌, ◌⊎◌, ◌==◌, ℕ, List, [], false, Some, None, Any, map, bytes_eq, codes}
use Rattle.std.specs.Bool.{MatchBool}
use Rattle.std.specs.List.{slice_split}
use Rattle.zarrs_subset.specs.Refusals.{RefusesStartShape}
use Rattle.zarrs_subset.specs.declared.error.ArraySubsetError.{ArraySubsetError}
use Rattle.zarr_cells.specs.Numbers.{number_in}
use Rattle.zarr_cells.specs.declared.error.CellsError.{CellsError}
use Rattle.zarr_cells.specs.declared.error.CellsError.TheVariants.{Subset, OutOfMemory}

-- the parts of a word between its commas
abbrev pub parts_between : List ℕ → List (List ℕ)
parts_between word = slice_split (λ byte. byte == 44) word

-- the numbers are those that the word has between its commas; none for `-`
abbrev pub SaysNumbers : List ℕ → List ℕ → Type 0
SaysNumbers word numbers = MatchBool (bytes_eq word (codes "-")) (numbers ≡ []) (map (λ number. Some number) numbers ≡ map number_in (parts_between word))

-- a part of the word between its commas is no number, and the word is not `-`
abbrev pub SaysNoNumbers : List ℕ → Type 0
SaysNoNumbers word = (bytes_eq word (codes "-") ≡ false) × Any (λ part. number_in part ≡ None) (parts_between word)

-- no box has the start and the shape that the words say
pub record SaysNoBox (start shape : List ℕ) (e : CellsError) : Type 0 where
  pub starts : List ℕ
  pub extents : List ℕ
  pub start_said : SaysNumbers start starts
  pub shape_said : SaysNumbers shape extents
  pub why : ArraySubsetError
  pub is : e ≡ Subset why
  pub refused : RefusesStartShape starts extents why

-- why there is no region of this start and this shape
abbrev pub RefusesRegion : List ℕ → List ℕ → CellsError → Type 0
RefusesRegion start shape e = (e ≡ OutOfMemory) ⊎ (SaysNoNumbers start ⊎ (SaysNoNumbers shape ⊎ SaysNoBox start shape e))
