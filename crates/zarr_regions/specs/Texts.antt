-- Regions in the forms that are written and read: lines, bytes, and bytes behind numpy's header.
use Rattle.std.specs.Prelude.{◌≡◌, ◌==◌, ℕ, ◌-◌, List, Option, Some, IfSome, length, slice_index, if◌then◌else◌}
use Rattle.std.specs.Io.KnownBytes.{Appends}
use Rattle.zarrs_data_type.specs.Kind.{Kind, element_size}
use Rattle.zarrs_subset.specs.Regions.{Box, positions}
use Rattle.zarrs_engine_calls.specs.Layout.{Layout}
use Rattle.zarrs_directory.specs.declared.files.Directory.{Directory}
use Rattle.zarrs_directory.specs.declared.store.DirectoryStore.{DirectoryStore}
use Rattle.zarr_cells.specs.Forms.{form_of, rows_of}
use Rattle.zarr_cells.specs.Npy.{description, IsHeader, ReadsHeader}
use Rattle.zarr_cells.specs.declared.form.Width.{Width}
use Rattle.zarr_regions.specs.Cells.{WritesBytes, WritesLines, StoresBytes, StoresLines}
use Rattle.zarr_regions.specs.declared.layout.Layout.{Layout as Text}
use Rattle.zarr_regions.specs.declared.layout.Layout.TheVariants.{Lines, Raw, Npy}

-- how many cells a line of the region has
abbrev pub line_width : Box → ℕ
line_width region = if length region.shape == 0 then 1 else slice_index region.shape (length region.shape - 1)

-- what numpy's header says of cells of this type, at this shape
abbrev pub header_says : Kind → Option Width → ℕ → Box → List ℕ
header_says kind floats size region = description (form_of kind floats) size region.shape

module _ (layout : Layout) (floats : Option Width) (region : Box) where
  -- numpy's header was written, which says the type of the cells and the shape of the region
  pub record WritesHeader (old new : Option (List ℕ)) : Type 0 where
    pub size : ℕ
    pub is_size : element_size layout.kind ≡ Some size
    pub bytes : List ℕ
    pub is : IsHeader (header_says layout.kind floats size region) bytes
    pub written : Appends old new bytes

  -- the reader began with numpy's header, which says the type of the cells and the shape of the region
  pub record ReadsHeaderOf (input left : Option (List ℕ)) : Type 0 where
    pub size : ℕ
    pub is_size : element_size layout.kind ≡ Some size
    pub reads : ReadsHeader (header_says layout.kind floats size region) input left

module _ {R : Type 0} (layout : Layout) (directory : Directory R) (floats : Option Width) (region : Box) where
  -- lines of the cells of the region were written, if they are numbers or bools
  abbrev pub WritesText : Option (List ℕ) → Option (List ℕ) → Type 0
  WritesText old new = IfSome (rows_of layout.kind floats (line_width region))
      (λ rows. (after : ℕ) × WritesLines layout directory rows.form rows.size rows.width 0 after (positions region) old new)

  -- numpy's header was written, and then the bytes of the cells of the region
  pub record WritesNpy (old new : Option (List ℕ)) : Type 0 where
    pub between : Option (List ℕ)
    pub header : WritesHeader layout floats region old between
    pub cells : WritesBytes layout directory (positions region) between new

  -- the cells of the region were written in this form
  abbrev pub WritesRegion : Text → Option (List ℕ) → Option (List ℕ) → Type 0
  WritesRegion Lines old new = WritesText old new
  WritesRegion Raw old new = WritesBytes layout directory (positions region) old new
  WritesRegion Npy old new = WritesNpy old new

module _ {R : Type 0} (layout : Layout) (floats : Option Width) (region : Box) where
  -- the lines that the reader began with were stored as the cells of the region, if these are numbers or bools
  abbrev pub StoresText : Option (List ℕ) → Option (List ℕ) → DirectoryStore R → DirectoryStore R → Type 0
  StoresText input left old new = IfSome (rows_of layout.kind floats (line_width region))
      (λ rows. (after : ℕ) × StoresLines layout rows.form rows.size rows.width 0 after (positions region) input left old new)

  -- the reader began with numpy's header, and the bytes behind it were stored as the cells of the region
  pub record StoresNpy (input left : Option (List ℕ)) (old new : DirectoryStore R) : Type 0 where
    pub between : Option (List ℕ)
    pub header : ReadsHeaderOf layout floats region input between
    pub cells : StoresBytes layout (positions region) between left old new

  -- the cells that the reader began with in this form were stored as those of the region
  abbrev pub StoresRegion : Text → Option (List ℕ) → Option (List ℕ) → DirectoryStore R → DirectoryStore R → Type 0
  StoresRegion Lines input left old new = StoresText input left old new
  StoresRegion Raw input left old new = StoresBytes layout (positions region) input left old new
  StoresRegion Npy input left old new = StoresNpy input left old new

  -- the same, whatever the reader had behind them
  pub record PutsRegion (text : Text) (input : Option (List ℕ)) (old new : DirectoryStore R) : Type 0 where
    pub left : Option (List ℕ)
    pub stores : StoresRegion text input left old new
