-- The cells of a region, which are read and stored band by band.
use Rattle.std.specs.Prelude.{◌≡◌, ℕ, List, [], ◌∷◌, Option, length}
use Rattle.std.specs.List.{All, flat_map}
use Rattle.std.specs.Io.KnownBytes.{Appends, Consumes}
use Rattle.zarrs_data_type.specs.ArrayData.{fixed}
use Rattle.zarrs_subset.specs.Regions.{Box, positions}
use Rattle.zarrs_engine_calls.specs.Layout.{Layout}
use Rattle.zarrs_directory.specs.declared.files.Directory.{Directory}
use Rattle.zarrs_directory.specs.declared.store.DirectoryStore.{DirectoryStore}
use Rattle.zarr_cells.specs.Lines.{WritesCells, ReadsCells as ReadsLines, column_after}
use Rattle.zarr_cells.specs.declared.form.Form.{Form}
use Rattle.zarr_arrays.specs.Reading.{ReadsCells}
use Rattle.zarr_arrays.specs.Storing.{StoresCells}

-- a band: its region, and the bytes of its cells
pub record Band : Type 0 where
  pub region : Box
  pub bytes : List ℕ

-- the bands have these places, and their bytes are these, one behind the other
pub record Make (places : List (List ℕ)) (bytes : List ℕ) (bands : List Band) : Type 0 where
  pub all : flat_map (λ band. positions band.region) bands ≡ places
  pub joined : flat_map (λ band. band.bytes) bands ≡ bytes

module _ {R : Type 0} (layout : Layout) where
  -- ---- cells that are read

  -- the bytes are those of the band's cells, as the chunks say them of whose files in the directory so much was read
  abbrev pub IsRead : Directory R → Band → Type 0
  IsRead directory band = ReadsCells layout directory band.region (fixed band.bytes)

  -- the bytes are those of the cells at these places, one behind the other, in bands
  pub record AreCells (directory : Directory R) (places : List (List ℕ)) (bytes : List ℕ) : Type 0 where
    pub bands : List Band
    pub read : All (IsRead directory) bands
    pub make : Make places bytes bands

  -- the bytes of the cells at these places were written
  pub record WritesBytes (directory : Directory R) (places : List (List ℕ)) (old new : Option (List ℕ)) : Type 0 where
    pub bytes : List ℕ
    pub cells : AreCells directory places bytes
    pub written : Appends old new bytes

  -- lines of the cells at these places were written, from the one column to the other
  pub record WritesLines (directory : Directory R) (form : Form) (size width column after : ℕ) (places : List (List ℕ))
      (old new : Option (List ℕ)) : Type 0 where
    pub bytes : List ℕ
    pub cells : AreCells directory places bytes
    pub written : WritesCells form size width column after bytes old new

  -- ---- cells that are stored

  -- the cells of the bands were stored, band after band
  abbrev pub StoresBands : List Band → DirectoryStore R → DirectoryStore R → Type 0
  StoresBands [] old new = new ≡ old
  StoresBands (band ∷ bands) old new =
      (between : DirectoryStore R) × StoresCells layout band.region (fixed band.bytes) old between × StoresBands bands between new

  -- the cells at these places were stored in bands, whose bytes are these, one behind the other
  pub record StoresPlaces (places : List (List ℕ)) (bytes : List ℕ) (old new : DirectoryStore R) : Type 0 where
    pub bands : List Band
    pub stored : StoresBands bands old new
    pub make : Make places bytes bands

  -- the bytes that the reader began with were stored as the cells at these places
  pub record StoresBytes (places : List (List ℕ)) (input left : Option (List ℕ)) (old new : DirectoryStore R) : Type 0 where
    pub bytes : List ℕ
    pub cells : StoresPlaces places bytes old new
    pub read : Consumes input left bytes

  -- the cells of the lines that the reader began with were stored at these places, from the one column to the other
  pub record StoresLines (form : Form) (size width column after : ℕ) (places : List (List ℕ)) (input left : Option (List ℕ))
      (old new : DirectoryStore R) : Type 0 where
    pub bytes : List ℕ
    pub cells : StoresPlaces places bytes old new
    pub read : ReadsLines form size width (length places) column input left [] bytes
    pub ends : after ≡ column_after width column (length places)
