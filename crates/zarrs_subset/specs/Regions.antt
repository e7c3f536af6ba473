-- Boxes as one value, and the cells of arrays over them.
use Rattle.std.specs.Prelude.{◌≡◌, nat_eq, ◌==◌, ◌&&◌, ℕ, ◌+◌, ◌-◌, ◌<◌, ◌≤◌, ◌^◌, Bool, true, suc, List, [], ◌∷◌, ◌++◌}
use Rattle.std.specs.Prelude.{codes, decimal, length, map, min, replicate, slice_index, slice_get, Option}
use Rattle.std.specs.Prelude.{if◌then◌else◌, refl}
use Rattle.std.proofs.Common.{ap}
use Rattle.std.specs.List.{flat_map, range_with_len}
use Rattle.std.specs.Cmp.Lexicographic.{pointwise}
use Rattle.std.specs.declared.ops.Range.{Range}
use Rattle.zarrs_subset.specs.declared.subset.ArraySubset.{ArraySubset}
use Rattle.zarrs_subset.specs.Boxes.{position_count, place, is_within, offset_from, positions_from, zip_with, ends, overlap_start, overlap_extents}
use Rattle.zarrs_subset.specs.Pieces.{pieces}

-- the first index of each dimension, and its extent
pub record Box : Type 0 where
  pub start : List ℕ
  pub shape : List ℕ

-- a subset of the code as a box
abbrev pub box_of : ArraySubset → Box
box_of subset = record { start = subset.start.items; shape = subset.shape.items }

abbrev pub box_from : List ℕ → List ℕ → Box
box_from start shape = record { start = start; shape = shape }

-- the box of an array of this shape, and the one without positions, at the origin
abbrev pub box_at_origin : List ℕ → Box
box_at_origin shape = record { start = replicate (length shape) 0; shape = shape }

abbrev pub empty_box : ℕ → Box
empty_box dimensions = record { start = replicate dimensions 0; shape = replicate dimensions 0 }

-- from a start up to an end that it leaves out
abbrev pub box_between : List ℕ → List ℕ → Box
box_between start end = record { start = start; shape = zip_with (λ e s. e - s) end start }

-- the box, seen from another corner: its start less the offset, and with the offset added
abbrev pub seen_from : Box → List ℕ → Box
seen_from box offset = record { start = zip_with (λ s t. s - t) box.start offset; shape = box.shape }

abbrev pub shifted_box : Box → List ℕ → Box
shifted_box box offset = record { start = zip_with (λ s t. s + t) box.start offset; shape = box.shape }

-- the box lies in an array of this shape
pub record LiesInShape (box : Box) (shape : List ℕ) : Type 0 where
  pub same_length : length box.start ≡ length shape
  pub ends : (k : ℕ) → k < length shape → slice_index box.start k + slice_index box.shape k ≤ slice_index shape k

-- the same start and the same shape
abbrev pub box_eq : Box → Box → Bool
box_eq a b = pointwise nat_eq a.start b.start && pointwise nat_eq a.shape b.shape

-- the box of these ranges; a reversed one has extent 0
abbrev pub box_of_ranges : List (Range ℕ) → Box
box_of_ranges ranges = record { start = map (λ r. r.start) ranges; shape = map (λ r. r.end - r.start) ranges }

-- one extent for each start
abbrev pub IsLong : Box → Type 0
IsLong box = length box.start ≡ length box.shape

pub IsLong-ranges : (ranges : List (Range ℕ)) → IsLong (box_of_ranges ranges)
IsLong-ranges [] = refl
IsLong-ranges (range ∷ ranges) = ap suc (IsLong-ranges ranges)

-- whether the position lies in the box
abbrev pub in_box : Box → List ℕ → Bool
in_box box position = is_within box.start box.shape position

-- the position lies in the box
abbrev pub Holds : Box → List ℕ → Type 0
Holds box position = in_box box position ≡ true

-- the positions of the box in row-major order
abbrev pub positions : Box → List (List ℕ)
positions box = positions_from box.start box.shape

-- a position of the box, one dimension at a time
pub record InBox (box : Box) (position : List ℕ) : Type 0 where
  pub same_length : length position ≡ length box.start
  pub from : (k : ℕ) → k < length box.start → slice_index box.start k ≤ slice_index position k
  pub below : (k : ℕ) → k < length box.start → slice_index position k < slice_index box.start k + slice_index box.shape k

-- one extent for each start, and each end is a `u64`
pub record IsBox (box : Box) : Type 0 where
  pub same_length : length box.shape ≡ length box.start
  pub ends_fit : (k : ℕ) → k < length box.start → slice_index box.start k + slice_index box.shape k < 2 ^ 64

-- what two boxes share: from the later start to the earlier end, or an extent 0
abbrev pub overlap_of : Box → Box → Box
overlap_of box other = record {
  start = overlap_start box.start other.start;
  shape = overlap_extents box.start box.shape other.start other.shape;
}

-- the box with its start and its end cut to `end`
abbrev pub bound_to : Box → List ℕ → Box
bound_to box end =
    let start = zip_with (λ s b. min s b) box.start end in
    record { start = start; shape = zip_with (λ e s. e - s) (zip_with (λ e b. min e b) (ends box.start box.shape) end) start }

-- how the range of one dimension is printed, after a comma and a blank except the first
abbrev pub range_text : Box → ℕ → List ℕ
range_text box k =
    let start = slice_index box.start k in
    (if k == 0 then [] else codes ", ") ++ decimal start ++ codes ".." ++ decimal (start + slice_index box.shape k)

-- how a box is printed: the range of each dimension
abbrev pub box_text : Box → List ℕ
box_text box = codes "[" ++ flat_map (range_text box) (range_with_len 0 (length box.start)) ++ codes "]"

-- the row-major number of a position of the box
abbrev pub place_in : Box → List ℕ → ℕ
place_in box position = place box.shape (offset_from box.start position)

-- the cell at a position of the box, of its cells in row-major order
abbrev pub cell_in : {X : Type 0} → Box → List X → List ℕ → Option X
cell_in box cells position = slice_get cells (place_in box position)

-- the cells of `size` bytes each of an array over the box
abbrev pub cells_over : ℕ → Box → List ℕ → List (List ℕ)
cells_over size box bytes = pieces size (position_count box.shape) bytes

-- `new` are the cells `old` of the box, except at the positions that another box has: these have that box's cells
abbrev pub TakesPart : {X : Type 0} → Box → Box → List X → List X → List X → Type 0
TakesPart box other part old new =
    (position : List ℕ) → Holds box position
    → cell_in box new position
    ≡ (if in_box other position then cell_in other part position else cell_in box old position)

-- the box lies in another: it starts and ends there in each dimension
pub record LiesInBox (box other : Box) : Type 0 where
  pub same_length : length box.start ≡ length other.start
  pub starts : (k : ℕ) → k < length other.start → slice_index other.start k ≤ slice_index box.start k
  pub ends : (k : ℕ) → k < length other.start
      → slice_index box.start k + slice_index box.shape k ≤ slice_index other.start k + slice_index other.shape k
