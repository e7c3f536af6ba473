-- What is read of what was written.
use Rattle.std.specs.Prelude.{◌≡◌, ℕ, List, [], ◌++◌, Option, Some, length}
use Rattle.zarrs_data_type.specs.ArrayData.{ArrayData}
use Rattle.zarr_cells.specs.declared.form.Form.{Form}
use Rattle.zarr_cells.specs.Lines.{WritesCells, ReadsCells}
use Rattle.zarr_cells.specs.Raw.{WritesRaw, ReadsRaw}

-- Cells that were written raw are read as they were, whatever follows, and that is left.
abbrev pub RawIsReadBack : Type 0
RawIsReadBack =
    (held got : ArrayData) (text more : List ℕ) (new : Option (List ℕ)) → WritesRaw held (Some []) (Some text)
    → ReadsRaw (length text) got (Some (text ++ more)) new → (got ≡ held) × (new ≡ Some more)

-- Cells that were written as lines are read as they were, if as many are read, whatever follows, and that is left.
abbrev pub LinesAreReadBack : Type 0
LinesAreReadBack =
    (form : Form) (size width column after : ℕ) (cells got text more : List ℕ) (new : Option (List ℕ))
    → (writes : WritesCells form size width column after cells (Some []) (Some text))
    → ReadsCells form size width writes.count column (Some (text ++ more)) new [] got → (got ≡ cells) × (new ≡ Some more)
