-- What is read of what was written.
use Rattle.std.proofs.Common.{◌≡◌, ℕ, List, [], ◌++◌, Option, None, Some, length, take, drop, sym, ap, ◌∙◌}
use Rattle.std.specs.Io.KnownBytes.{Consumes}
use Rattle.std.proofs.Math.Seq.{take-append_seam, drop-append_seam}
use Rattle.zarrs_data_type.specs.ArrayData.{fixed}
use Rattle.zarr_cells.specs.Lines.{cells_in}
use Rattle.zarr_cells.specs.Laws.{LinesAreReadBack, RawIsReadBack}

-- as many bytes as the text has are the text
front_read : (text more bytes : List ℕ) (new : Option (List ℕ)) → length bytes ≡ length text → Consumes (Some (text ++ more)) new bytes → (bytes ≡ text) × (new ≡ Some more)
front_read text more bytes None same reads = absurd reads
front_read text more bytes (Some left) same reads =
    let front : bytes ≡ text = sym (take-append_seam bytes left) ∙ ap (take (length bytes)) (sym reads) ∙ ap (λ n. take n (text ++ more)) same ∙ take-append_seam text more in
    let back : left ≡ more = sym (drop-append_seam bytes left) ∙ ap (drop (length bytes)) (sym reads) ∙ ap (λ n. drop n (text ++ more)) same ∙ drop-append_seam text more in
    (front, ap Some back)

pub raw_back : RawIsReadBack
raw_back held got text more new writes reads =
    let both : (reads.bytes ≡ text) × (new ≡ Some more) = front_read text more reads.bytes new reads.count reads.read in
    (reads.are ∙ ap fixed (both.0 ∙ writes.written) ∙ sym writes.are, both.1)

cells_of : Option (List ℕ × List ℕ) → List ℕ
cells_of None = []
cells_of (Some both) = both.0

left_of : Option (List ℕ × List ℕ) → List ℕ
left_of None = []
left_of (Some both) = both.1

one_reading : (read : Option (List ℕ × List ℕ)) (cells more others left : List ℕ) → read ≡ Some (cells, more) → read ≡ Some (others, left) → (others ≡ cells) × (left ≡ more)
unfolding cells_of left_of
one_reading read cells more others left first other = (sym (ap cells_of other) ∙ ap cells_of first, sym (ap left_of other) ∙ ap left_of first)

pub lines_back : LinesAreReadBack
lines_back form size width column after cells got text more new writes reads =
    let first : cells_in form size width writes.count column (text ++ more) ≡ Some (cells, more) =
    ap (λ t. cells_in form size width writes.count column (t ++ more)) writes.written ∙ writes.reads more in
    let both : (reads.0 ≡ cells) × (reads.1 ≡ more) =
    one_reading (cells_in form size width writes.count column (text ++ more)) cells more reads.0 reads.1 first reads.2 in
    (reads.4 ∙ both.0, reads.3 ∙ ap Some both.1)
