-- Boxes with an offset added to their start, and parts of chunks.
use Rattle.std.proofs.Common.{◌≡◌, ℕ, ◌+◌, ◌<◌, ◌^◌, ◌↔◌, List, [], ◌∷◌, length, slice_index, refl, ◌∙◌, sym, arith}
use Rattle.std.proofs.lemmas.Bool.Decides.{nat_tests}
use Rattle.zarrs_subset.specs.Boxes.{EndsFit, InShape, in_range, is_within, zip_with, offset_by}
use Rattle.zarrs_subset.specs.Regions.{Box, IsLong, Holds, LiesInShape, shifted_box}
use Rattle.zarrs_subset.proofs.Bytes.{holds_along, along_holds}
use Rattle.zarrs_subset.proofs.Counts.{InShape-at}
use Rattle.zarrs_subset.proofs.Overlaps.{length-zip_with}
use Rattle.zarrs_subset.proofs.Parts.{zip_with-at}

in_range-shift : (s o x i : ℕ) → in_range (s + o) x (o + i) ≡ in_range s x i
in_range-shift s o x i = grind (arith, nat_tests)

is_within-shift : (S X O p : List ℕ) → length S ≡ length X → length O ≡ length S → length p ≡ length S
    → is_within (zip_with (λ s t. s + t) S O) X (offset_by O p) ≡ is_within S X p
is_within-shift [] X [] [] l m n = refl
is_within-shift [] X [] (i ∷ p) l m n = absurd (omega arith)
is_within-shift [] X (o ∷ O) p l m n = absurd (omega arith)
is_within-shift (s ∷ S) X [] p l m n = absurd (omega arith)
is_within-shift (s ∷ S) X (o ∷ O) [] l m n = absurd (omega arith)
is_within-shift (s ∷ S) [] (o ∷ O) (i ∷ p) l m n = absurd (omega arith)
is_within-shift (s ∷ S) (x ∷ X) (o ∷ O) (i ∷ p) l m n =
    rw (in_range-shift s o x i, is_within-shift S X O p (omega arith) (omega arith) (omega arith)) refl

-- the positions of a shifted box are the shifted positions
pub holds-shifted : (box : Box) (offset position : List ℕ) → IsLong box → length offset ≡ length box.start → length position ≡ length box.start
    → (Holds (shifted_box box offset) (offset_by offset position)) ↔ Holds box position
holds-shifted box offset position long same here =
    let is = is_within-shift box.start box.shape offset position long same here in
    (λ h. sym is ∙ h, λ h. is ∙ h)

-- a part lies in its chunk
pub part_in_chunk : (chunk part : Box) (position : List ℕ) → IsLong chunk → IsLong part → LiesInShape part chunk.shape
    → Holds (shifted_box part chunk.start) position → Holds chunk position
part_in_chunk chunk part position long part_long lies holds =
    let same : length part.start ≡ length chunk.start = lies.same_length ∙ sym long in
    let len = length-zip_with (λ s t. s + t) part.start chunk.start same in
    let inside = holds_along (shifted_box part chunk.start) position (len ∙ part_long) holds in
    let at : (k : ℕ) → k < length chunk.start → slice_index (zip_with (λ s t. s + t) part.start chunk.start) k ≡ slice_index part.start k + slice_index chunk.start k =
    λ k below. zip_with-at (λ s t. s + t) part.start chunk.start k (omega arith) below in
    along_holds chunk position long (record {
      same_length = inside.same_length ∙ len ∙ same;
      from = λ k below. omega (arith, inside.from k (omega arith), at k below);
      below = λ k below. omega (arith, inside.below k (omega arith), at k below, lies.ends k (omega (arith, long)));
    })

-- ---- the position of a number

-- an index below its extent, added to the start, fits u64
pub index_fits : (start extents q : List ℕ) → length start ≡ length extents → EndsFit start extents → InShape extents q
    → (k : ℕ) → k < length start → slice_index q k + slice_index start k < 2 ^ 64
index_fits start extents q l h i k below =
    let first : slice_index start k + slice_index extents k < 2 ^ 64 = h k in
    let inside : slice_index q k < slice_index extents k = InShape-at extents q k i (omega arith) in
    omega arith

-- the sums of the indices and the start are the position that lies there
pub offset_by-sums : (start q : List ℕ) → length q ≡ length start → zip_with (λ s t. s + t) q start ≡ offset_by start q
offset_by-sums [] [] l = refl
offset_by-sums [] (j ∷ q) l = absurd (omega arith)
offset_by-sums (s ∷ start) [] l = refl
offset_by-sums (s ∷ start) (j ∷ q) l =
    let first : j + s ≡ s + j = omega arith in
    rw (first, offset_by-sums start q (omega arith)) refl
