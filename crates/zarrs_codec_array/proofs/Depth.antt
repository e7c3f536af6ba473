-- How many masks data has.
use Rattle.std.proofs.Common.{ℕ, zero, suc}
use Rattle.zarrs_data_type.specs.ArrayData.{ArrayData, fixed, variable, optional}

abbrev pub depth : ArrayData → ℕ
depth (fixed b) = zero
depth (variable strings) = zero
depth (optional mask inner) = suc (depth inner)
