-- Targets as boxes and lists, and writes to a box of data.
use Rattle.std.specs.Prelude.{◌≡◌, ℕ, zero, suc, ◌*◌, ◌<◌, ◌^◌, ◌==◌, ◌&&◌, Bool, false, List, length, take, drop, slice_index, None, Some, if◌then◌else◌}
use Rattle.std.specs.List.{repeat}
use Rattle.zarrs_subset.specs.Boxes.{InShape, is_within, place, position_count}
use Rattle.zarrs_subset.specs.Pieces.{piece_at}
use Rattle.zarrs_subset.specs.Regions.{Box, Holds, LiesInShape, in_box, place_in}
use Rattle.zarrs_data_type_kinds.specs.Kind.{Kind, fixed_size, optional}
use Rattle.zarrs_data_type_kinds.specs.Cell.{Cell}
use Rattle.zarrs_data_type_bytes.specs.ArrayData.{ArrayData, fixed, variable}
use Rattle.zarrs_data_type_bytes.specs.ArrayData as held
use Rattle.zarrs_data_type_bytes.specs.Cells.{cell_at}
use Rattle.zarrs_data_type_bytes.specs.Parts.{TakesAt}

-- the parts of a target go together: the bytes and the masks are as long as the parent asks, and the box lies in it
pub record IsTargetOver (bytes_len cell_size masks_len depth : ℕ) (parent : List ℕ) (region : Box) : Type 0 where
  pub counted : position_count parent < 2 ^ 64
  pub small : bytes_len < 2 ^ 64
  pub has_bytes : bytes_len ≡ position_count parent * cell_size
  pub has_masks : masks_len ≡ position_count parent * depth
  pub inside : LiesInShape region parent

-- the number of levels at which a type is optional
abbrev pub depth_of : Kind → ℕ
depth_of (optional inner) = suc (depth_of inner)
depth_of _ = 0

-- whether the cells of the type have this size and so many masks
abbrev pub takes_type : ℕ → ℕ → Kind → Bool
takes_type cell_size depth k = elim (fixed_size k) [ None ↦ false | Some size ↦ (size == cell_size) && (depth_of k == depth) ]

-- bytes under so many masks of `count` bytes each, the outermost first
abbrev pub masked : ℕ → ℕ → List ℕ → List ℕ → ArrayData
masked zero count masks bytes = fixed bytes
masked (suc depth) count masks bytes = held.optional (take count masks) (masked depth count (drop count masks) bytes)

-- the data is so many cells of this size, under so many masks
abbrev pub HasLevels : ℕ → ℕ → ℕ → ArrayData → Type 0
HasLevels zero size count (fixed bytes) = length bytes ≡ count * size
HasLevels zero size count (variable strings) = ⊥
HasLevels zero size count (held.optional mask inner) = ⊥
HasLevels (suc depth) size count (fixed bytes) = ⊥
HasLevels (suc depth) size count (variable strings) = ⊥
HasLevels (suc depth) size count (held.optional mask inner) = (length mask ≡ count) × HasLevels depth size count inner

-- At each level the new data, an array over `box`, has the bytes of `part`, an array over `other`, at the positions that
-- `other` has too, and every other byte of the old data.
abbrev pub TakesLevels : ℕ → Box → Box → ArrayData → ArrayData → ArrayData → Type 0
TakesLevels size box other (fixed part) (fixed old) (fixed new) = TakesAt box other (piece_at size part) (piece_at size old) (piece_at size new)
TakesLevels size box other (held.optional mask part) (held.optional old_mask old) (held.optional new_mask new) =
    TakesAt box other (slice_index mask) (slice_index old_mask) (slice_index new_mask) × TakesLevels size box other part old new
TakesLevels size box other _ _ _ = ⊥

-- what is new at a position of `box` that `other` does not have is what was there
abbrev pub KeepsAt : {X : Type 0} → Box → Box → (ℕ → X) → (ℕ → X) → Type 0
KeepsAt box other old new =
    (position : List ℕ) → Holds box position → in_box other position ≡ false → new (place_in box position) ≡ old (place_in box position)

-- at each level every byte of a position that `other` does not have stays
abbrev pub KeepsOutside : ℕ → Box → Box → ArrayData → ArrayData → Type 0
KeepsOutside size box other (fixed old) (fixed new) = KeepsAt box other (piece_at size old) (piece_at size new)
KeepsOutside size box other (held.optional old_mask old) (held.optional new_mask new) =
    KeepsAt box other (slice_index old_mask) (slice_index new_mask) × KeepsOutside size box other old new
KeepsOutside size box other _ _ = ⊥

-- the new data, an array over `box`, has this cell at the positions that `other` has too, and elsewhere the old cells
abbrev pub FillsBox : Kind → Box → Box → Cell → ArrayData → ArrayData → Type 0
FillsBox k box other cell old new =
    (position : List ℕ) → Holds box position
    → cell_at k new (place_in box position) ≡ (if in_box other position then cell else cell_at k old (place_in box position))

-- the data of one cell, so many times, level by level
abbrev pub repeated : ℕ → ArrayData → ArrayData
repeated n (fixed bytes) = fixed (repeat n bytes)
repeated n (variable strings) = variable strings
repeated n (held.optional mask inner) = held.optional (repeat n mask) (repeated n inner)

-- the new pieces of an array of this shape are the old ones, except those of the box, each of which is this one
abbrev pub IsFilledBox : ℕ → List ℕ → List ℕ → List ℕ → List ℕ → List ℕ → List ℕ → Type 0
IsFilledBox size shape start extents piece old new =
    (position : List ℕ) → InShape shape position
    → piece_at size new (place shape position) ≡ (if is_within start extents position then piece else piece_at size old (place shape position))
