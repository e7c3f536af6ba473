-- An array that a setter lends whole, and what it is once the borrow ends.
use Rattle.std.specs.Prelude.{◌≡◌, Result, Ok, Err}
use Rattle.std.specs.Borrow.{Fml, GName, MutBor, RattleType, RestsIfErr}
use Rattle.zarrs_options.specs.declared.error.ArrayCreateError.{ArrayCreateError}
use Rattle.zarrs.specs.Arrays.{metadata_of_array, KeepsArray, KeepsAllButGrid, KeepsAllButMetadata}
use Rattle.zarrs.specs.declared.array.Array.{Array}
use Rattle.zarrs.specs.declared.array.setters.ArrayLoan.{ArrayLoan}
use Rattle.zarrs.specs.contracts.array.Array.{the_row}

module _ {S : Type 0} where
  -- the name of a loan in its struct, and of one by itself
  abbrev pub name_of_loan : ArrayLoan S → GName
  name_of_loan loan = loan.array.ghost_name

  -- the name of an array's loan
  abbrev pub name_of_array : MutBor (Array S) → GName
  name_of_array array = array.ghost_name

  -- the array is the one of the loan, or there is the same error
  abbrev pub IsArrayOf : {E : Type 0} → Result (ArrayLoan S) E → Result (MutBor (Array S)) E → Type 0
  IsArrayOf (Ok loan) (Ok array) = (array.ghost_name ≡ loan.array.ghost_name) × (array.now ≡ loan.array.now)
  IsArrayOf (Ok loan) (Err e) = ⊥
  IsArrayOf (Err e) (Ok array) = ⊥
  IsArrayOf (Err e) (Err e') = e' ≡ e

  -- its metadata stays, and all else
  abbrev pub IsStillNamed : Array S → Array S → Type 0
  IsStillNamed old last = (metadata_of_array last ≡ metadata_of_array old) × KeepsAllButMetadata old last

  -- its metadata and its parts stay, with its store, and all else
  abbrev pub IsStillShaped : Array S → Array S → Type 0
  IsStillShaped old last = KeepsArray old last × KeepsAllButGrid old last

-- once the borrow ends, the array is what was left behind the result's loan, and if there is none it is as before
module _ (S : RattleType) (array : MutBor (Array S.Denot)) {L : Type 0} (name : L → GName) (r : Result L ArrayCreateError) where
  abbrev pub RestsUnlessNamed : Fml
  RestsUnlessNamed = RestsIfErr (the_row S) array name r (IsStillNamed array.now)

  abbrev pub RestsUnlessShaped : Fml
  RestsUnlessShaped = RestsIfErr (the_row S) array name r (IsStillShaped array.now)
