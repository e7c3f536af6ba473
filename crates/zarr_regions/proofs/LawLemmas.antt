-- How many bytes cells have, and so what is stored of what was written.
use Rattle.std.proofs.Common.{◌≡◌, ℕ, zero, suc, ◌+◌, ◌*◌, ◌/◌, ◌<◌, ◌≤◌, Bool, true, false, cond, ◌&&◌, leb, slice_index_or, List, [], ◌∷◌, ◌++◌, length, take, Option, Some, None, drop, refl, sym, ap, ◌∙◌, subst, arith, append_assoc, length-append}
use Rattle.std.specs.Prelude.{◌^◌, bytes_eq}
use Rattle.std.specs.List.{All, flat_map}
use Rattle.std.specs.Int.{w16, w64, from_le_bytes, to_le_bytes}
use Rattle.std.specs.Io.KnownBytes.{Consumes}
use Rattle.std.proofs.Math.Nat.{mul-div_cancel}
use Rattle.std.proofs.Math.Seq.{drop-append_seam, take-append_seam}
use Rattle.std.proofs.lemmas.Nat.{from_le_bytes-to_le_bytes_2}
use Rattle.std.proofs.lemmas.Bool.{and_parts, leb-true}
use Rattle.std.proofs.lemmas.Option.{option_and_then_some}
use Rattle.std.proofs.lemmas.List.{length-take-le}
use Rattle.std.proofs.lemmas.List.Elements.{All-head, All-tail}
use Rattle.zarrs_data_type.specs.Kind.{Kind, element_size}
use Rattle.zarrs_data_type.specs.Cell.{Cell}
use Rattle.zarrs_data_type.specs.ArrayData.{ArrayData, fixed, variable, optional}
use Rattle.zarrs_data_type.specs.Cells.{cells}
use Rattle.zarrs_data_type_bytes.proofs.Cells.{cells-parts}
use Rattle.zarrs_data_type_bytes.proofs.Filled.{fits-fixed}
use Rattle.zarrs_subset.specs.Boxes.{position_count}
use Rattle.zarrs_subset.specs.Regions.{IsLong, positions}
use Rattle.zarrs_subset.proofs.Positions.{length-positions}
use Rattle.zarrs_engine_calls.specs.Layout.{Layout}
use Rattle.zarrs_directory.specs.declared.files.Directory.{Directory}
use Rattle.zarrs_directory.specs.declared.store.DirectoryStore.{DirectoryStore}
use Rattle.zarr_cells.specs.declared.form.Form.{Form}
use Rattle.zarr_cells.specs.Numbers.{bits_in, cell_of, cell_in, widened}
use Rattle.zarr_cells.specs.Lines.{first_cell, cells_in, behind, next, joined, ending, is_first, is_last, read_to, word_in, ReadsCells as ReadsLines}
use Rattle.zarr_cells.specs.Laws.{LinesAreReadBack, RawIsReadBack}
use Rattle.zarr_cells.specs.Npy.{header_bytes}
use Rattle.zarr_cells.proofs.WordLemmas.{appends_both}
use Rattle.zarr_regions.specs.Cells.{Band, Make, AreCells, StoresBands, StoresPlaces}
use Rattle.zarr_regions.specs.Laws.{BytesArePutBack, LinesArePutBack, NpyIsPutBack}

-- ---- how many bytes the cells of bands have

the_size : Option ℕ → ℕ
the_size None = 0
the_size (Some size) = size

-- a band of cells of this size
abbrev IsSized : ℕ → Band → Type 0
IsSized size band = length band.bytes ≡ length (positions band.region) * size

sized : (kind : Kind) (size : ℕ) (band : Band) (given : List Cell) → element_size kind ≡ Some size → cells kind (fixed band.bytes) ≡ Some given
    → length given ≡ position_count band.region.shape → IsLong band.region → IsSized size band
unfolding the_size
sized kind size band given is_size are count long =
    let fits = fits-fixed kind band.bytes (length given) (cells-parts kind (fixed band.bytes) given are).0 in
    let same : fits.0 ≡ size = ap the_size (sym fits.1 ∙ is_size) in
    let all : length given ≡ length (positions band.region) = count ∙ sym (length-positions band.region.start band.region.shape long) in
    fits.2 ∙ ap (λ (n : ℕ). n * fits.0) all ∙ ap (λ (s : ℕ). length (positions band.region) * s) same

sum_times : (p q size : ℕ) → (p + q) * size ≡ p * size + q * size
sum_times p q size = omega arith

all_sized : (size : ℕ) (bands : List Band) → All (IsSized size) bands
    → length (flat_map (λ (band : Band). band.bytes) bands) ≡ length (flat_map (λ (band : Band). positions band.region) bands) * size
all_sized size [] each = let none : 0 ≡ 0 * size = omega arith in none
all_sized size (band ∷ bands) each =
    let rest = all_sized size bands (All-tail (IsSized size) band bands each) in
    let one = All-head (IsSized size) band bands each in
    let bytes = flat_map (λ (b : Band). b.bytes) bands in
    let places = flat_map (λ (b : Band). positions b.region) bands in
    length-append band.bytes bytes ∙ ap (λ (n : ℕ). n + length bytes) one ∙ ap (λ (n : ℕ). length (positions band.region) * size + n) rest
    ∙ sym (sum_times (length (positions band.region)) (length places) size) ∙ ap (λ (n : ℕ). n * size) (sym (length-append (positions band.region) places))

made_sized : (size : ℕ) (places : List (List ℕ)) (bytes : List ℕ) (bands : List Band) → All (IsSized size) bands → Make places bytes bands
    → length bytes ≡ length places * size
made_sized size places bytes bands each make =
    sym (ap (λ (l : List ℕ). length l) make.joined) ∙ all_sized size bands each ∙ ap (λ (l : List (List ℕ)). length l * size) make.all

module _ {R : Type 0} (layout : Layout) (size : ℕ) where
  read_sized : (directory : Directory R) (places : List (List ℕ)) (bytes : List ℕ) → element_size layout.kind ≡ Some size → AreCells layout directory places bytes
      → length bytes ≡ length places * size
  read_sized directory places bytes is_size read =
      made_sized size places bytes read.bands
      (λ k d below.
      let one = read.read k d below in
      sized layout.kind size _ one.cells.given is_size one.cells.are_cells one.cells.reads.count one.cells.long)
      read.make

  bands_sized : (bands : List Band) (old new : DirectoryStore R) → element_size layout.kind ≡ Some size → StoresBands layout bands old new
      → (k : ℕ) (d : Band) → k < length bands → IsSized size (slice_index_or bands k d)
  bands_sized [] old new is_size stores k d below = let no : ⊥ = omega arith in absurd no
  bands_sized (band ∷ bands) old new is_size stores zero d below =
      sized layout.kind size band stores.1.stores.given is_size stores.1.stores.are_cells stores.1.stores.count stores.1.stores.long
  bands_sized (band ∷ bands) old new is_size stores (suc k) d below = bands_sized bands stores.0 new is_size stores.2 k d (omega arith)

  stored_sized : (places : List (List ℕ)) (bytes : List ℕ) (old new : DirectoryStore R) → element_size layout.kind ≡ Some size → StoresPlaces layout places bytes old new
      → length bytes ≡ length places * size
  stored_sized places bytes old new is_size stored = made_sized size places bytes stored.bands (bands_sized stored.bands old new is_size stored.stored) stored.make

-- ---- how many bytes the cells of lines have

yes_some : (yes : Bool) (x y : List ℕ) → cond yes (Some x) None ≡ Some y → (yes ≡ true) × (x ≡ y)
yes_some true x y is = (refl, cc)
yes_some false x y is = cc

cell_sized : (form : Form) (size bits : ℕ) (cell : List ℕ) → cell_of form size bits ≡ Some cell → length cell ≡ size
cell_sized form size bits cell is =
    let bytes = to_le_bytes w64 bits in
    let same = bytes_eq (widened form (take size bytes)) bytes in
    let both = yes_some (leb size 8 && same) (take size bytes) cell is in
    let small : size ≤ 8 = leb-true size 8 (and_parts (leb size 8) same both.0).0 in
    ap (λ (l : List ℕ). length l) (sym both.1) ∙ length-take-le size bytes small

word_sized : (form : Form) (size : ℕ) (word cell : List ℕ) → cell_in form size word ≡ Some cell → length cell ≡ size
word_sized form size word cell is =
    option_and_then_some (cell_of form size) (bits_in form word) cell is (λ (bits : ℕ) found made. cell_sized form size bits cell made)

lines_of : Option (List ℕ × List ℕ) → List ℕ
lines_of None = []
lines_of (Some both) = both.0

parts_sized : (first : Option (List ℕ)) (others : Option (List ℕ × List ℕ)) (cells left : List ℕ) (size count : ℕ) → joined first others ≡ Some (cells, left)
    → ((cell : List ℕ) → first ≡ Some cell → length cell ≡ size) → ((more rest : List ℕ) → others ≡ Some (more, rest) → length more ≡ count * size)
    → length cells ≡ suc count * size
unfolding lines_of
parts_sized None others cells left size count is one more = cc
parts_sized (Some cell) None cells left size count is one more = cc
parts_sized (Some cell) (Some others) cells left size count is one more =
    let same : cell ++ others.0 ≡ cells = ap lines_of is in
    let first : length cell ≡ size = one cell refl in
    let then : length others.0 ≡ count * size = more others.0 others.1 refl in
    let sum : suc count * size ≡ size + count * size = omega arith in
    ap (λ (l : List ℕ). length l) (sym same) ∙ length-append cell others.0 ∙ ap (λ (n : ℕ). n + length others.0) first ∙ ap (λ (n : ℕ). size + n) then ∙ sym sum

module _ (form : Form) (size width : ℕ) where
  lines_sized : (count column : ℕ) (text cells left : List ℕ) → cells_in form size width count column text ≡ Some (cells, left) → length cells ≡ count * size
  unfolding lines_of
  lines_sized zero column text cells left is =
      let none : [] ≡ cells = ap lines_of is in
      let zeros : 0 ≡ 0 * size = omega arith in
      ap (λ (l : List ℕ). length l) (sym none) ∙ zeros
  lines_sized (suc count) column text cells left is =
      parts_sized (first_cell form size width column text) (cells_in form size width count (next width column) (behind form size width column text)) cells left size count is
      (λ cell first.
      option_and_then_some (cell_in form size) (word_in (is_first column) (is_last width column) (read_to (is_first column) (ending (is_last width column)) text)) cell first
      (λ (word : List ℕ) found made. word_sized form size word cell made))
      (λ more rest others. lines_sized count (next width column) (behind form size width column text) more rest others)

same_count : (count other size : ℕ) → 0 < size → count * size ≡ other * size → count ≡ other
same_count count other size some same = sym (mul-div_cancel count some) ∙ ap (λ (n : ℕ). n / size) same ∙ mul-div_cancel other some

-- ---- numpy's header

-- lists whose first parts are as long
parts_same : (xs ys more rest : List ℕ) → length xs ≡ length ys → xs ++ more ≡ ys ++ rest → (xs ≡ ys) × (more ≡ rest)
parts_same xs ys more rest long same =
    let front : xs ≡ ys =
    sym (take-append_seam xs more) ∙ ap (λ (n : ℕ). take n (xs ++ more)) long ∙ ap (λ (l : List ℕ). take (length ys) l) same ∙ take-append_seam ys rest in
    let back : more ≡ rest =
    sym (drop-append_seam xs more) ∙ ap (λ (n : ℕ). drop n (xs ++ more)) long ∙ ap (λ (l : List ℕ). drop (length ys) l) same ∙ drop-append_seam ys rest in
    (front, back)

-- what a text begins with is one header alone
headers_same : (t s more rest : List ℕ) → length t < 2 ^ 16 → length s < 2 ^ 16 → header_bytes t ++ more ≡ header_bytes s ++ rest → (t ≡ s) × (more ≡ rest)
headers_same t s more rest short small same =
    let sizes : to_le_bytes w16 (length t) ≡ to_le_bytes w16 (length s) = ap (λ (l : List ℕ). take 2 (drop 8 l)) same in
    let long : length t ≡ length s =
    sym (from_le_bytes-to_le_bytes_2 (length t) short) ∙ ap (from_le_bytes w16) sizes ∙ from_le_bytes-to_le_bytes_2 (length s) small in
    let texts : t ++ more ≡ s ++ rest = ap (λ (l : List ℕ). drop 10 l) same in
    parts_same t s more rest long texts

-- behind the header that was read lies what was written behind one
behind_header : (t s bytes more cells text : List ℕ) (between left : Option (List ℕ)) → length t < 2 ^ 16 → length s < 2 ^ 16 → text ≡ header_bytes t ++ bytes
    → Consumes (Some (text ++ more)) between (header_bytes s) → Consumes between left cells → Consumes (Some (bytes ++ more)) left cells
behind_header t s bytes more cells text None left short small written read then = absurd read
behind_header t s bytes more cells text (Some rest) left short small written read then =
    let all : header_bytes t ++ (bytes ++ more) ≡ header_bytes s ++ rest =
    sym (append_assoc (header_bytes t) bytes more) ∙ ap (λ (l : List ℕ). l ++ more) (sym written) ∙ read in
    subst (λ (l : List ℕ). Consumes (Some l) left cells) (sym (headers_same t s (bytes ++ more) rest short small all).1) then

-- ---- what is stored

the_bytes : ArrayData → List ℕ
the_bytes (fixed bytes) = bytes
the_bytes (variable strings) = []
the_bytes (optional mask inner) = []

module _ {R : Type 0} (directory : Directory R) (old new : DirectoryStore R) where
  pub bytes_back : RawIsReadBack → BytesArePutBack directory old new
  unfolding the_bytes
  bytes_back law layout other size places targets text more left same_kind is_size as_many writes stores =
      let read = read_sized layout size directory places writes.bytes is_size writes.cells in
      let stored = stored_sized other size targets stores.bytes old new (ap element_size same_kind ∙ is_size) stores.cells in
      let count : length stores.bytes ≡ length text = stored ∙ ap (λ (n : ℕ). n * size) as_many ∙ sym read ∙ ap (λ (l : List ℕ). length l) (sym writes.written) in
      let both =
      law (fixed writes.bytes) (fixed stores.bytes) text more left (record { bytes = writes.bytes; are = refl; written = writes.written })
      (record { bytes = stores.bytes; are = refl; count = count; read = stores.read }) in
      (ap the_bytes both.0, both.1)

  pub lines_back : LinesAreReadBack → LinesArePutBack directory old new
  lines_back law layout other form size width after ending places targets text more left same_kind is_size some as_many writes stores =
      let read = read_sized layout size directory places writes.bytes is_size writes.cells in
      let lines : cells_in form size width writes.written.count 0 (text ++ []) ≡ Some (writes.bytes, []) =
      ap (λ (t : List ℕ). cells_in form size width writes.written.count 0 (t ++ [])) writes.written.written ∙ writes.written.reads [] in
      let count : writes.written.count ≡ length places =
      same_count writes.written.count (length places) size some (sym (lines_sized form size width writes.written.count 0 (text ++ []) writes.bytes [] lines) ∙ read) in
      law form size width 0 after writes.bytes stores.bytes text more left writes.written
      (subst (λ (n : ℕ). ReadsLines form size width n 0 (Some (text ++ more)) left [] stores.bytes) (as_many ∙ sym count) stores.read)

  -- the bytes behind numpy's header
  pub npy_back : RawIsReadBack → NpyIsPutBack directory old new
  npy_back law layout other floats seen region target text more left same_kind as_many writes stores =
      let bytes = writes.cells.bytes in
      let header = writes.header.is in
      let found = stores.header.reads.is in
      let written : text ≡ header_bytes header.text ++ bytes =
      appends_both (Some []) writes.between (Some text) writes.header.bytes bytes writes.header.written writes.cells.written ∙ ap (λ (l : List ℕ). l ++ bytes) header.is in
      let read =
      behind_header header.text found.text bytes more stores.cells.bytes text stores.between left header.short found.short written
      (subst (λ (l : List ℕ). Consumes (Some (text ++ more)) stores.between l) found.is stores.header.reads.read) stores.cells.read in
      bytes_back law layout other writes.header.size (positions region) (positions target) bytes more left same_kind writes.header.is_size as_many
      (record { bytes = bytes; cells = writes.cells.cells; written = refl }) (record { bytes = stores.cells.bytes; cells = stores.cells.cells; read = read })
