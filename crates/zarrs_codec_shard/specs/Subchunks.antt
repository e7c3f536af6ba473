-- A chunk that is cut into subchunks of one shape. A subchunk has an index list, as a chunk has.
use Rattle.std.specs.Prelude.{ℕ, ◌*◌, ◌/◌, ◌%◌, Bool, List, [], slice_index_or, nat_lt, ◌==◌, ◌&&◌}
use Rattle.std.specs.Cmp.Lexicographic.{pointwise}
use Rattle.zarrs_subset.specs.Boxes.{position_count, place, unravel, offset_by, zip_with}
use Rattle.zarrs_subset.specs.Rearranged.{made_of}
use Rattle.zarrs_subset.specs.Regions.{Box, box_from}
use Rattle.zarrs_data_type.specs.Cell.{Cell, none}

-- whether a chunk is cut into whole subchunks: their shape divides the chunk's
abbrev pub is_cut_by : (shape sub : List ℕ) → Bool
is_cut_by shape sub = pointwise (λ n c. nat_lt 0 c && ((n % c) == 0)) shape sub

-- each number by the subchunk's extent: of a chunk's shape how many subchunks lie along each dimension, of a position
-- the subchunk that has it
abbrev pub quotients : (numbers sub : List ℕ) → List ℕ
quotients numbers sub = zip_with (λ n c. n / c) numbers sub

-- the place of a position in its subchunk
abbrev pub remainders : (position sub : List ℕ) → List ℕ
remainders position sub = zip_with (λ i c. i % c) position sub

-- where a subchunk starts
abbrev pub corner : (sub index : List ℕ) → List ℕ
corner sub index = zip_with (λ c i. i * c) sub index

-- how many subchunks a chunk has
abbrev pub subchunk_count : (shape sub : List ℕ) → ℕ
subchunk_count shape sub = position_count (quotients shape sub)

-- the box of the subchunk of this number
abbrev pub subchunk_box : (shape sub : List ℕ) (number : ℕ) → Box
subchunk_box shape sub number = box_from (corner sub (unravel (quotients shape sub) number)) sub

-- the cells of a subchunk, of those of its chunk
abbrev pub subchunk_of : (shape sub : List ℕ) (cells : List Cell) (index : List ℕ) → List Cell
subchunk_of shape sub cells index =
    made_of (λ q. slice_index_or cells (place shape (offset_by (corner sub index) q)) none) sub

-- the cells of a chunk, of those of its subchunks
abbrev pub assembled : (shape sub : List ℕ) (parts : List (List Cell)) → List Cell
assembled shape sub parts =
    made_of (λ p. slice_index_or (slice_index_or parts (place (quotients shape sub) (quotients p sub)) [])
    (place sub (remainders p sub)) none) shape

-- the cells of the subchunk of this number
abbrev pub subchunk_at : (shape sub : List ℕ) (cells : List Cell) (number : ℕ) → List Cell
subchunk_at shape sub cells number = subchunk_of shape sub cells (unravel (quotients shape sub) number)
