-- What is stored of what was written.
use Rattle.std.specs.Prelude.{◌≡◌, ◌<◌, ℕ, List, [], ◌++◌, Option, Some, length}
use Rattle.zarrs_data_type.specs.Kind.{element_size}
use Rattle.zarrs_subset.specs.Regions.{Box, positions}
use Rattle.zarrs_engine_calls.specs.Layout.{Layout}
use Rattle.zarrs_directory.specs.declared.files.Directory.{Directory}
use Rattle.zarrs_directory.specs.declared.store.DirectoryStore.{DirectoryStore}
use Rattle.zarr_cells.specs.declared.form.Form.{Form}
use Rattle.zarr_cells.specs.declared.form.Width.{Width}
use Rattle.zarr_regions.specs.Cells.{WritesBytes, WritesLines, StoresBytes, StoresLines}
use Rattle.zarr_regions.specs.Texts.{WritesNpy, StoresNpy}

module _ {R : Type 0} (directory : Directory R) (old new : DirectoryStore R) where
  -- Cells whose bytes were written are stored with the same bytes, at as many places of an array of their type, whatever
  -- follows, and that is left.
  abbrev pub BytesArePutBack : Type 0
  BytesArePutBack =
      (layout other : Layout) (size : ℕ) (places targets : List (List ℕ)) (text more : List ℕ) (left : Option (List ℕ)) → other.kind ≡ layout.kind
      → element_size layout.kind ≡ Some size → length targets ≡ length places → (writes : WritesBytes layout directory places (Some []) (Some text))
      → (stores : StoresBytes other targets (Some (text ++ more)) left old new) → (stores.bytes ≡ writes.bytes) × (left ≡ Some more)

  -- So are cells that were written as lines.
  abbrev pub LinesArePutBack : Type 0
  LinesArePutBack =
      (layout other : Layout) (form : Form) (size width after ending : ℕ) (places targets : List (List ℕ)) (text more : List ℕ) (left : Option (List ℕ))
      → other.kind ≡ layout.kind → element_size layout.kind ≡ Some size → 0 < size → length targets ≡ length places
      → (writes : WritesLines layout directory form size width 0 after places (Some []) (Some text))
      → (stores : StoresLines other form size width 0 ending targets (Some (text ++ more)) left old new) → (stores.bytes ≡ writes.bytes) × (left ≡ Some more)

  -- So are cells that were written in numpy's format.
  abbrev pub NpyIsPutBack : Type 0
  NpyIsPutBack =
      (layout other : Layout) (floats seen : Option Width) (region target : Box) (text more : List ℕ) (left : Option (List ℕ)) → other.kind ≡ layout.kind
      → length (positions target) ≡ length (positions region)
      → (writes : WritesNpy layout directory floats region (Some []) (Some text)) → (stores : StoresNpy other seen target (Some (text ++ more)) left old new)
      → (stores.cells.bytes ≡ writes.cells.bytes) × (left ≡ Some more)
