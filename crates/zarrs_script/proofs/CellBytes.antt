-- The bytes that words of cells say are values of their type.
use Rattle.std.proofs.Common.{◌≡◌, ℕ, ◌-◌, ◌+◌, ◌^◌, ◌%◌, ◌<◌, ◌≤◌, ◌==◌, ◌&&◌, List, [], ◌∷◌, ◌++◌, Bool, true, false}
use Rattle.std.proofs.Common.{cond, nat_le, nat_lt, Option, Some, None, IsSome, refl, subst, rules, arith}
use Rattle.std.proofs.lemmas.Bool.Decides.{nat_tests}
use Rattle.zarrs_data_type.specs.Cell.{fill_cell}
use Rattle.zarrs_metadata_parts.specs.Extension.{◌>>=◌}
use Rattle.zarrs_script.specs.declared.cell_type.CellType.{CellType}
use Rattle.zarrs_script.specs.declared.cell_type.CellType.TheVariants as cell
use Rattle.zarrs_script.specs.Words.{number_of}
use Rattle.zarrs_script.specs.CellTypes.{kind_of_cells, cell_type_size, greatest, is_signed}
use Rattle.zarrs_script.specs.CellTexts.{low_bytes, positive, negative, cell_of}

-- a `bool` has the byte 0 or 1
one_bit : (n : ℕ) → nat_le n 1 ≡ true → IsSome (fill_cell (kind_of_cells cell.Bool) (n % 256 ∷ []))
one_bit n h =
    let small : n ≤ 1 = grind (arith, nat_tests) in
    let same : n % 256 < 2 = omega arith in
    let test : nat_lt (n % 256) 2 ≡ true = grind (arith, nat_tests) in
    rw test (search rules)

abbrev Whole : CellType → Option (List ℕ) → Type 0
Whole cell_type None = Unit {0}
Whole cell_type (Some bytes) = IsSome (fill_cell (kind_of_cells cell_type) bytes)

when : (cell_type : CellType) (test : Bool) (bytes : List ℕ) → (test ≡ true → IsSome (fill_cell (kind_of_cells cell_type) bytes)) → Whole cell_type (cond test (Some bytes) None)
when cell_type true bytes h = h refl
when cell_type false bytes h = tt

-- the lowest bytes of a number, as many as a cell has, are a cell
low_is_cell : (cell_type : CellType) (n : ℕ) → nat_le n (greatest cell_type) ≡ true → IsSome (fill_cell (kind_of_cells cell_type) (low_bytes (cell_type_size cell_type) n))
low_is_cell cell.Bool n h = one_bit n h
low_is_cell cell.Int8 n h = search rules
low_is_cell cell.Int16 n h = search rules
low_is_cell cell.Int32 n h = search rules
low_is_cell cell.Int64 n h = search rules
low_is_cell cell.UInt8 n h = search rules
low_is_cell cell.UInt16 n h = search rules
low_is_cell cell.UInt32 n h = search rules
low_is_cell cell.UInt64 n h = search rules

signed_is_cell : (cell_type : CellType) (n : ℕ) (test : Bool) → (is_signed cell_type && test) ≡ true → IsSome (fill_cell (kind_of_cells cell_type) (low_bytes (cell_type_size cell_type) n))
signed_is_cell cell.Bool n test h = absurd (cc)
signed_is_cell cell.Int8 n test h = search rules
signed_is_cell cell.Int16 n test h = search rules
signed_is_cell cell.Int32 n test h = search rules
signed_is_cell cell.Int64 n test h = search rules
signed_is_cell cell.UInt8 n test h = absurd (cc)
signed_is_cell cell.UInt16 n test h = absurd (cc)
signed_is_cell cell.UInt32 n test h = absurd (cc)
signed_is_cell cell.UInt64 n test h = absurd (cc)

positive_whole : (cell_type : CellType) (n : ℕ) → Whole cell_type (positive cell_type n)
positive_whole cell_type n = when cell_type (nat_le n (greatest cell_type)) (low_bytes (cell_type_size cell_type) n) (low_is_cell cell_type n)

negative_whole : (cell_type : CellType) (n : ℕ) → Whole cell_type (negative cell_type n)
negative_whole cell_type n = when cell_type (is_signed cell_type && nat_le n (greatest cell_type + 1)) (low_bytes (cell_type_size cell_type) (2 ^ 64 - n)) (signed_is_cell cell_type (2 ^ 64 - n) (nat_le n (greatest cell_type + 1)))

bound_whole : (cell_type : CellType) (said : Option ℕ) (f : ℕ → Option (List ℕ)) → ((n : ℕ) → Whole cell_type (f n)) → Whole cell_type (said >>= f)
bound_whole cell_type None f h = tt
bound_whole cell_type (Some n) f h = h n

either_whole : (cell_type : CellType) (test : Bool) (a b : Option (List ℕ)) → Whole cell_type a → Whole cell_type b → Whole cell_type (cond test a b)
either_whole cell_type true a b ha hb = ha
either_whole cell_type false a b ha hb = hb

-- the cell that a word writes is a value of its type
word_whole : (cell_type : CellType) (word : List ℕ) → Whole cell_type (cell_of cell_type word)
unfolding cell_of
word_whole cell_type [] = tt
word_whole cell_type (b ∷ word) =
    either_whole cell_type (b == 45) _ _ (bound_whole cell_type (number_of word) (negative cell_type) (negative_whole cell_type)) (bound_whole cell_type (number_of (b ∷ word)) (positive cell_type) (positive_whole cell_type))

from_nothing : (said : Option (List ℕ)) (old new : List ℕ) → old ≡ [] → (said >>= λ more. Some (old ++ more)) ≡ Some new → said ≡ Some new
from_nothing None old new empty h = absurd (cc)
from_nothing (Some more) old new empty h = rw empty at h

-- the cell that was added to none is a value of its type
pub first_cell_is_value : (cell_type : CellType) (word old new : List ℕ) → old ≡ [] → (cell_of cell_type word >>= λ more. Some (old ++ more)) ≡ Some new → IsSome (fill_cell (kind_of_cells cell_type) new)
first_cell_is_value cell_type word old new empty h =
    let said = from_nothing (cell_of cell_type word) old new empty h in
    subst (Whole cell_type) said (word_whole cell_type word)
