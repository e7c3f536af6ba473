-- What is kept of a target.
use Rattle.std.proofs.Common.{◌∙◌, refl}
use Rattle.zarrs_subset.specs.Boxes.{position_count}
use Rattle.zarrs_data_type_region.specs.declared.target.ArrayBytesDecodeIntoTarget.{ArrayBytesDecodeIntoTarget}
use Rattle.zarrs_data_type_region.specs.States.{IsSameTarget, KeepsTarget, parent_box, target_box}
use Rattle.zarrs_data_type_region.proofs.TargetLevels.{masked_keeps}

-- a target that is not touched is kept
pub keeps_itself : (t : ArrayBytesDecodeIntoTarget) → KeepsTarget t t
keeps_itself t = record {
  same = record { bytes = refl; masks = refl; cell_size = refl; depth = refl; parent_shape = refl; region = refl };
  outside = masked_keeps t.cell_size (parent_box t) (target_box t) t.depth (position_count t.parent_shape.now) t.masks.now t.bytes.now;
}

-- the same target of the same target
pub same_twice : (t u v : ArrayBytesDecodeIntoTarget) → IsSameTarget t u → IsSameTarget u v → IsSameTarget t v
same_twice t u v a b = record {
  bytes = b.bytes ∙ a.bytes;
  masks = b.masks ∙ a.masks;
  cell_size = b.cell_size ∙ a.cell_size;
  depth = b.depth ∙ a.depth;
  parent_shape = b.parent_shape ∙ a.parent_shape;
  region = b.region ∙ a.region;
}
