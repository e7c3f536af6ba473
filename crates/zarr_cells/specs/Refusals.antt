-- Why words, lines or bytes are refused.
use Rattle.std.specs.Prelude.{◌≡◌, ℕ, List, string_bytes}
use Rattle.zarr_cells.specs.declared.error.CellsError.{CellsError}
use Rattle.zarr_cells.specs.declared.error.CellsError.TheVariants.{Subset, SizeOverflow, Io, Said, OutOfMemory}

-- the refusal with this text, or out of memory
abbrev pub SaysText : List ℕ → CellsError → Type 0
SaysText text (Subset error) = ⊥
SaysText text SizeOverflow = ⊥
SaysText text (Io error) = ⊥
SaysText text (Said said) = string_bytes said ≡ text
SaysText text OutOfMemory = Unit {0}
