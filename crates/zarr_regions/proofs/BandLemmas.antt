-- Cells of bands, one behind the other.
use Rattle.std.proofs.Common.{◌≡◌, ℕ, List, [], ◌∷◌, ◌++◌, ◌+◌, Option, None, Some, length, refl, sym, subst, ap, ◌∙◌, append-nil, append_assoc, length-append}
use Rattle.std.specs.Prelude.{MatchOption}
use Rattle.std.specs.List.{flat_map}
use Rattle.std.specs.Io.KnownBytes.{Appends, Consumes}
use Rattle.std.proofs.lemmas.List.Concat.{flat_map-append}
use Rattle.std.proofs.lemmas.List.Elements.{All-nil, All-push, All-append}
use Rattle.zarrs_data_type.specs.ArrayData.{ArrayData, fixed}
use Rattle.zarrs_subset.specs.Boxes.{position_count}
use Rattle.zarrs_subset.specs.Regions.{Box, IsLong, positions}
use Rattle.zarrs_subset.proofs.Positions.{length-positions}
use Rattle.zarrs_engine_calls.specs.Layout.{Layout}
use Rattle.zarrs_directory.specs.declared.files.Directory.{Directory}
use Rattle.zarrs_directory.specs.declared.store.DirectoryStore.{DirectoryStore}
use Rattle.zarrs_data_type.specs.Kind.{Kind, element_size}
use Rattle.zarr_cells.specs.Forms.{form_of}
use Rattle.zarr_cells.specs.Npy.{description, IsHeader, ReadsHeader}
use Rattle.zarr_cells.specs.declared.form.Width.{Width}
use Rattle.zarr_cells.specs.Lines.{WritesCells, ReadsCells as ReadsLines, column_after}
use Rattle.zarr_cells.specs.Raw.{ReadsRaw, WritesRaw}
use Rattle.zarr_cells.specs.declared.form.Form.{Form}
use Rattle.zarr_cells.proofs.LineLemmas.{appends_none, column_both, reads_none, reads_both, writes_none, writes_both}
use Rattle.zarr_cells.proofs.WordLemmas.{appends_both}
use Rattle.zarr_arrays.specs.Reading.{ReadsCells}
use Rattle.zarr_arrays.specs.Storing.{StoresCells}
use Rattle.zarr_regions.specs.Texts.{header_says, ReadsHeaderOf, WritesHeader}
use Rattle.zarr_regions.specs.Cells.{Band, Make, IsRead, AreCells, WritesBytes, WritesLines, StoresBands, StoresPlaces, StoresBytes, StoresLines}

-- ---- bands

make_none : Make [] [] []
make_none = record { all = refl; joined = refl }

make_one : (region : Box) (bytes : List ℕ) → Make (positions region) bytes (record { region = region; bytes = bytes } ∷ [])
make_one region bytes = record { all = append-nil (positions region); joined = append-nil bytes }

make_both : (places others : List (List ℕ)) (bytes more : List ℕ) (bands rest : List Band) → Make places bytes bands → Make others more rest
    → Make (places ++ others) (bytes ++ more) (bands ++ rest)
make_both places others bytes more bands rest first then = record {
  all = flat_map-append (λ (band : Band). positions band.region) bands rest
      ∙ ap (λ (l : List (List ℕ)). l ++ flat_map (λ (band : Band). positions band.region) rest) first.all ∙ ap (λ (l : List (List ℕ)). places ++ l) then.all;
  joined = flat_map-append (λ (band : Band). band.bytes) bands rest
      ∙ ap (λ (l : List ℕ). l ++ flat_map (λ (band : Band). band.bytes) rest) first.joined ∙ ap (λ (l : List ℕ). bytes ++ l) then.joined;
}

consumes_none : (held : Option (List ℕ)) → Consumes held held []
consumes_none None = tt
consumes_none (Some text) = refl

consumes_both : (input middle left : Option (List ℕ)) (bytes more : List ℕ) → Consumes input middle bytes → Consumes middle left more → Consumes input left (bytes ++ more)
consumes_both None middle left bytes more first then = tt
consumes_both (Some text) None left bytes more first then = absurd first
consumes_both (Some text) (Some rest) None bytes more first then = absurd then
consumes_both (Some text) (Some rest) (Some last) bytes more first then = first ∙ ap (λ (l : List ℕ). bytes ++ l) then ∙ sym (append_assoc bytes more last)

module _ {R : Type 0} (layout : Layout) where
  -- ---- cells that are read

  module _ (directory : Directory R) where
    cells_none : AreCells layout directory [] []
    cells_none = record { bands = []; read = All-nil (IsRead layout directory); make = make_none }

    pub cells_one : (region : Box) (bytes : List ℕ) → ReadsCells layout directory region (fixed bytes) → AreCells layout directory (positions region) bytes
    cells_one region bytes reads =
        let band : Band = record { region = region; bytes = bytes } in
        record {
          bands = band ∷ [];
          read = All-push (IsRead layout directory) [] band (All-nil (IsRead layout directory)) reads;
          make = make_one region bytes;
        }

    cells_both : (places others : List (List ℕ)) (bytes more : List ℕ) → AreCells layout directory places bytes → AreCells layout directory others more
        → AreCells layout directory (places ++ others) (bytes ++ more)
    cells_both places others bytes more first then = record {
      bands = first.bands ++ then.bands;
      read = All-append (IsRead layout directory) first.bands then.bands first.read then.read;
      make = make_both places others bytes more first.bands then.bands first.make then.make;
    }

    pub bytes_none : (held : Option (List ℕ)) → WritesBytes layout directory [] held held
    bytes_none held = record { bytes = []; cells = cells_none; written = appends_none held }

    pub bytes_both : (places others : List (List ℕ)) (old between new : Option (List ℕ)) → WritesBytes layout directory places old between
        → WritesBytes layout directory others between new → WritesBytes layout directory (places ++ others) old new
    bytes_both places others old between new first then = record {
      bytes = first.bytes ++ then.bytes;
      cells = cells_both places others first.bytes then.bytes first.cells then.cells;
      written = appends_both old between new first.bytes then.bytes first.written then.written;
    }

    module _ (form : Form) (size width : ℕ) where
      pub lines_none : (column : ℕ) (held : Option (List ℕ)) → WritesLines layout directory form size width column column [] held held
      lines_none column held = record { bytes = []; cells = cells_none; written = writes_none form size width column held }

      pub lines_both : (column middle after : ℕ) (places others : List (List ℕ)) (old between new : Option (List ℕ))
          → WritesLines layout directory form size width column middle places old between → WritesLines layout directory form size width middle after others between new
          → WritesLines layout directory form size width column after (places ++ others) old new
      lines_both column middle after places others old between new first then = record {
        bytes = first.bytes ++ then.bytes;
        cells = cells_both places others first.bytes then.bytes first.cells then.cells;
        written = writes_both form size width column middle after first.bytes then.bytes old between new first.written then.written;
      }

  -- ---- cells that are stored

  bands_both : (bands rest : List Band) (old between new : DirectoryStore R) → StoresBands layout bands old between → StoresBands layout rest between new
      → StoresBands layout (bands ++ rest) old new
  bands_both [] rest old between new first then = subst (λ (s : DirectoryStore R). StoresBands layout rest s new) first then
  bands_both (band ∷ bands) rest old between new first then = (first.0, first.1, bands_both bands rest first.0 between new first.2 then)

  places_none : (store : DirectoryStore R) → StoresPlaces layout [] [] store store
  places_none store = record { bands = []; stored = refl; make = make_none }

  places_one : (region : Box) (bytes : List ℕ) (old new : DirectoryStore R) → StoresCells layout region (fixed bytes) old new
      → StoresPlaces layout (positions region) bytes old new
  places_one region bytes old new stores = record {
    bands = record { region = region; bytes = bytes } ∷ [];
    stored = (new, stores, refl);
    make = make_one region bytes;
  }

  places_both : (places others : List (List ℕ)) (bytes more : List ℕ) (old between new : DirectoryStore R) → StoresPlaces layout places bytes old between
      → StoresPlaces layout others more between new → StoresPlaces layout (places ++ others) (bytes ++ more) old new
  places_both places others bytes more old between new first then = record {
    bands = first.bands ++ then.bands;
    stored = bands_both first.bands then.bands old between new first.stored then.stored;
    make = make_both places others bytes more first.bands then.bands first.make then.make;
  }

  pub stored_none : (held : Option (List ℕ)) (store : DirectoryStore R) → StoresBytes layout [] held held store store
  stored_none held store = record { bytes = []; cells = places_none store; read = consumes_none held }

  -- the cells of a band, whose bytes were read
  pub stored_one : (region : Box) (size : ℕ) (held : ArrayData) (input left : Option (List ℕ)) (old new : DirectoryStore R) → ReadsRaw size held input left
      → StoresCells layout region held old new → StoresBytes layout (positions region) input left old new
  stored_one region size held input left old new reads stores = record {
    bytes = reads.bytes;
    cells = places_one region reads.bytes old new (subst (λ (d : ArrayData). StoresCells layout region d old new) reads.are stores);
    read = reads.read;
  }

  pub stored_both : (places others : List (List ℕ)) (input middle left : Option (List ℕ)) (old between new : DirectoryStore R) → StoresBytes layout places input middle old between
      → StoresBytes layout others middle left between new → StoresBytes layout (places ++ others) input left old new
  stored_both places others input middle left old between new first then = record {
    bytes = first.bytes ++ then.bytes;
    cells = places_both places others first.bytes then.bytes old between new first.cells then.cells;
    read = consumes_both input middle left first.bytes then.bytes first.read then.read;
  }

  module _ (form : Form) (size width : ℕ) where
    pub read_none : (column : ℕ) (held : Option (List ℕ)) (store : DirectoryStore R) → StoresLines layout form size width column column [] held held store store
    read_none column held store = record { bytes = []; cells = places_none store; read = reads_none form size width column held []; ends = refl }

    -- the cells of a band, which were read from lines
    pub read_one : (region : Box) (count column after : ℕ) (before bytes : List ℕ) (held : ArrayData) (input left : Option (List ℕ)) (old new : DirectoryStore R)
        → IsLong region → count ≡ position_count region.shape → before ≡ [] → after ≡ column_after width column count
        → ReadsLines form size width count column input left before bytes → held ≡ fixed bytes → StoresCells layout region held old new
        → StoresLines layout form size width column after (positions region) input left old new
    read_one region count column after before bytes held input left old new long is_count none ends reads are stores =
        let same : count ≡ length (positions region) = is_count ∙ sym (length-positions region.start region.shape long) in
        record {
          bytes = bytes;
          cells = places_one region bytes old new (subst (λ (d : ArrayData). StoresCells layout region d old new) are stores);
          read =
              subst (λ (n : ℕ). ReadsLines form size width n column input left [] bytes) same
              (subst (λ (b : List ℕ). ReadsLines form size width count column input left b bytes) none reads);
          ends = subst (λ (n : ℕ). after ≡ column_after width column n) same ends;
        }

    pub read_both : (column middle after : ℕ) (places others : List (List ℕ)) (input between left : Option (List ℕ)) (old now new : DirectoryStore R)
        → StoresLines layout form size width column middle places input between old now → StoresLines layout form size width middle after others between left now new
        → StoresLines layout form size width column after (places ++ others) input left old new
    read_both column middle after places others input between left old now new first then =
        let count : length (places ++ others) ≡ length places + length others = length-append places others in
        record {
          bytes = first.bytes ++ then.bytes;
          cells = places_both places others first.bytes then.bytes old now new first.cells then.cells;
          read =
              subst (λ (n : ℕ). ReadsLines form size width n column input left [] (first.bytes ++ then.bytes)) (sym count)
              (reads_both form size width (length places) (length others) column middle input between left first.bytes then.bytes first.ends first.read then.read);
          ends =
              then.ends ∙ ap (λ (m : ℕ). column_after width m (length others)) first.ends ∙ sym (column_both form size width column (length places) (length others))
              ∙ ap (λ (n : ℕ). column_after width column n) (sym count);
        }

-- ---- loops over bands

-- a front of the places is done, and P holds of it
abbrev pub Front : (List (List ℕ) → Type 0) → List (List ℕ) → List (List ℕ) → Type 0
Front P left all = (done : List (List ℕ)) × (done ++ left ≡ all) × P done

pub front_none : (P : List (List ℕ) → Type 0) (left all : List (List ℕ)) → left ≡ all → P [] → Front P left all
front_none P left all same holds = ([], same, holds)

pub front_more : (P Q : List (List ℕ) → Type 0) (all left rest band : List (List ℕ)) → band ++ rest ≡ left → ((done : List (List ℕ)) → P done → Q (done ++ band))
    → Front P left all → Front Q rest all
front_more P Q all left rest band split more front = (
  front.0 ++ band,
  append_assoc front.0 band rest ∙ ap (λ (l : List (List ℕ)). front.0 ++ l) split ∙ front.1,
  more front.0 front.2,
)

pub front_all : (P : List (List ℕ) → Type 0) (all left : List (List ℕ)) → left ≡ [] → Front P left all → P all
front_all P all left none front =
    subst P (sym (append-nil front.0) ∙ ap (λ (l : List (List ℕ)). front.0 ++ l) (sym none) ∙ front.1) front.2

-- what holds of a value that is there, and of none
pub some_holds : {A : Type 0} (P : A → Type 0) (Q : Type 0) (found : Option A) (value : A) → found ≡ Some value → MatchOption found Q P → P value
some_holds {A = A} P Q found value is holds = subst (λ (f : Option A). MatchOption f Q P) is holds

pub none_holds : {A : Type 0} (P : A → Type 0) (Q : Type 0) (found : Option A) → ((value : A) → found ≡ Some value → ⊥) → MatchOption found Q P → Q
none_holds P Q None not holds = holds
none_holds P Q (Some value) not holds = absurd (not value refl)

-- ---- one band, and the steps of these loops, whose array is still that of the start

module _ {R : Type 0} (layout : Layout) (directory : Directory R) (region : Box) where
  pub bytes_one : (held : ArrayData) (old new : Option (List ℕ)) → ReadsCells layout directory region held → WritesRaw held old new
      → WritesBytes layout directory (positions region) old new
  bytes_one held old new reads writes = record {
    bytes = writes.bytes;
    cells = cells_one layout directory region writes.bytes (subst (ReadsCells layout directory region) writes.are reads);
    written = writes.written;
  }

  pub lines_one : (form : Form) (size width column after : ℕ) (held : ArrayData) (bytes : List ℕ) (old new : Option (List ℕ)) → held ≡ fixed bytes
      → ReadsCells layout directory region held → WritesCells form size width column after bytes old new
      → WritesLines layout directory form size width column after (positions region) old new
  lines_one form size width column after held bytes old new are reads writes = record {
    bytes = bytes;
    cells = cells_one layout directory region bytes (subst (ReadsCells layout directory region) are reads);
    written = writes;
  }

module _ {R : Type 0} (layout other : Layout) where
  pub stored_more : (done band : List (List ℕ)) (input middle left : Option (List ℕ)) (old between new : DirectoryStore R) → other ≡ layout
      → StoresBytes layout done input middle old between → StoresBytes other band middle left between new → StoresBytes layout (done ++ band) input left old new
  stored_more done band input middle left old between new same first then =
      stored_both layout done band input middle left old between new first (subst (λ (l : Layout). StoresBytes l band middle left between new) same then)

  pub read_more : (form : Form) (size width column middle after : ℕ) (done band : List (List ℕ)) (input between left : Option (List ℕ)) (old now new : DirectoryStore R)
      → other ≡ layout → StoresLines layout form size width column middle done input between old now
      → StoresLines other form size width middle after band between left now new → StoresLines layout form size width column after (done ++ band) input left old new
  read_more form size width column middle after done band input between left old now new same first then =
      read_both layout form size width column middle after done band input between left old now new first
      (subst (λ (l : Layout). StoresLines l form size width middle after band between left now new) same then)

-- ---- numpy's header

module _ (layout : Layout) (floats : Option Width) (region : Box) (type : Kind) (size : ℕ) (form : Option Form) (shape : List ℕ) where
  same_description : type ≡ layout.kind → form ≡ form_of type floats → shape ≡ region.shape → description form size shape ≡ header_says layout.kind floats size region
  same_description is_type is_form is_shape =
      ap (λ (f : Option Form). description f size shape) (is_form ∙ ap (λ (k : Kind). form_of k floats) is_type)
      ∙ ap (λ (s : List ℕ). description (form_of layout.kind floats) size s) is_shape

  pub header_written : (header bytes : List ℕ) (old new : Option (List ℕ)) → type ≡ layout.kind → element_size type ≡ Some size → form ≡ form_of type floats
      → shape ≡ region.shape → IsHeader (description form size shape) header → bytes ≡ header → Appends old new bytes → WritesHeader layout floats region old new
  header_written header bytes old new is_type is_size is_form is_shape is same written = record {
    size = size;
    is_size = ap element_size (sym is_type) ∙ is_size;
    bytes = header;
    is = subst (λ (d : List ℕ). IsHeader d header) (same_description is_type is_form is_shape) is;
    written = subst (λ (b : List ℕ). Appends old new b) same written;
  }

  pub header_read : (input left : Option (List ℕ)) → type ≡ layout.kind → element_size type ≡ Some size → form ≡ form_of type floats → shape ≡ region.shape
      → ReadsHeader (description form size shape) input left → ReadsHeaderOf layout floats region input left
  header_read input left is_type is_size is_form is_shape reads = record {
    size = size;
    is_size = ap element_size (sym is_type) ∙ is_size;
    reads = subst (λ (d : List ℕ). ReadsHeader d input left) (same_description is_type is_form is_shape) reads;
  }
