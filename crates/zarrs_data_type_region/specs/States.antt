-- What a target is, and what a call leaves of it.
use Rattle.std.specs.Prelude.{◌≡◌, ℕ, List}
use Rattle.std.specs.Borrow.{MutBor}
use Rattle.zarrs_subset.specs.Boxes.{position_count}
use Rattle.zarrs_subset.specs.Regions.{Box, box_of, box_at_origin}
use Rattle.zarrs_data_type_bytes.specs.ArrayData.{ArrayData}
use Rattle.zarrs_data_type_region.specs.declared.target.ArrayBytesDecodeIntoTarget.{ArrayBytesDecodeIntoTarget}
use Rattle.zarrs_data_type_region.specs.Targets.{masked, KeepsOutside}

-- the box of all positions of the parent, and the target's box
abbrev pub parent_box : ArrayBytesDecodeIntoTarget → Box
parent_box t = box_at_origin t.parent_shape.now

abbrev pub target_box : ArrayBytesDecodeIntoTarget → Box
target_box t = box_of t.region.now

-- the data of the parent
abbrev pub data_of_target : ArrayBytesDecodeIntoTarget → ArrayData
data_of_target t = masked t.depth (position_count t.parent_shape.now) t.masks.now t.bytes.now

-- the target over these bytes, whose loan it has
pub record IsOverBytes (from : MutBor (List ℕ)) (size levels : ℕ) (parent : List ℕ) (box : Box) (t : ArrayBytesDecodeIntoTarget) : Type 0 where
  pub same_bytes : t.bytes.ghost_name ≡ from.ghost_name
  pub bytes : t.bytes.now ≡ from.now
  pub cell_size : t.cell_size ≡ size
  pub depth : t.depth ≡ levels
  pub parent_shape : t.parent_shape.now ≡ parent
  pub region : box_of t.region.now ≡ box

-- the target over these masks, whose loan it has
pub record IsOverMasks (from : MutBor (List ℕ)) (t : ArrayBytesDecodeIntoTarget) : Type 0 where
  pub same_masks : t.masks.ghost_name ≡ from.ghost_name
  pub masks : t.masks.now ≡ from.now

-- the same loans, with the same box of the same parent
pub record IsSameTarget (t u : ArrayBytesDecodeIntoTarget) : Type 0 where
  pub bytes : u.bytes.ghost_name ≡ t.bytes.ghost_name
  pub masks : u.masks.ghost_name ≡ t.masks.ghost_name
  pub cell_size : u.cell_size ≡ t.cell_size
  pub depth : u.depth ≡ t.depth
  pub parent_shape : u.parent_shape.now ≡ t.parent_shape.now
  pub region : u.region.now ≡ t.region.now

-- the same target, where every byte outside this box stays
pub record KeepsBut (box : Box) (t u : ArrayBytesDecodeIntoTarget) : Type 0 where
  pub same : IsSameTarget t u
  pub outside : KeepsOutside t.cell_size (parent_box t) box (data_of_target t) (data_of_target u)

-- what a call leaves of a target: the same target, where every byte outside its box stays
abbrev pub KeepsTarget : ArrayBytesDecodeIntoTarget → ArrayBytesDecodeIntoTarget → Type 0
KeepsTarget t u = KeepsBut (target_box t) t u

-- the target that lent a smaller one: its cells have no bytes
pub record IsLent (t u : ArrayBytesDecodeIntoTarget) : Type 0 where
  pub cell_size : u.cell_size ≡ 0
  pub depth : u.depth ≡ 0
  pub parent_shape : u.parent_shape.now ≡ t.parent_shape.now
  pub region : u.region.now ≡ t.region.now

-- the target that took a smaller one back: the smaller one's bytes and masks, and its own box
pub record TakesBack (lent part u : ArrayBytesDecodeIntoTarget) : Type 0 where
  pub bytes : IsOverBytes part.bytes part.cell_size part.depth lent.parent_shape.now (box_of lent.region.now) u
  pub masks : IsOverMasks part.masks u
  pub region : u.region.now ≡ lent.region.now
