-- Boxes in a parent.
use Rattle.std.proofs.Common.{◌≡◌, ℕ, ◌*◌, ◌<◌, ◌≤◌, List, length, replicate, sym, ◌∙◌, arith}
use Rattle.std.specs.Prelude.{slice_index}
use Rattle.std.proofs.Math.Nat.{mul-le-mul_right}
use Rattle.std.proofs.lemmas.List.{length-replicate, get_or-replicate}
use Rattle.zarrs_subset.specs.Boxes.{position_count}
use Rattle.zarrs_subset.specs.Regions.{Box, IsLong, LiesInShape, box_at_origin, LiesInBox}
use Rattle.zarrs_subset.proofs.Inside.{count_inside}
use Rattle.zarrs_data_type_region.specs.Targets.{IsTargetOver}

pub origin_long : (parent : List ℕ) → IsLong (box_at_origin parent)
origin_long parent = length-replicate (length parent) 0

origin_at : (parent : List ℕ) (k : ℕ) → k < length parent → slice_index (replicate (length parent) 0) k ≡ 0
origin_at parent k lt = let none : ℕ = 0 in get_or-replicate (length parent) k none none lt

pub lies_at_origin : (region : Box) (parent : List ℕ) → LiesInShape region parent → LiesInBox region (box_at_origin parent)
lies_at_origin region parent lies = record {
  same_length = lies.same_length ∙ sym (origin_long parent);
  starts = λ k lt. omega (arith, origin_at parent k (omega (arith, origin_long parent)));
  ends = λ k lt.
      let below : k < length parent = omega (arith, origin_long parent) in
      omega (arith, origin_at parent k below, lies.ends k below);
}

-- a box has no more positions than its parent
pub count_within : (region : Box) (parent : List ℕ) → IsLong region → LiesInShape region parent → position_count region.shape ≤ position_count parent
count_within region parent long lies = count_inside region (box_at_origin parent) long (origin_long parent) (lies_at_origin region parent lies)

-- the cells of the box take no more bytes than the parent's
pub bytes_within : (len size masks_len depth : ℕ) (parent : List ℕ) (region : Box) → IsLong region → IsTargetOver len size masks_len depth parent region → position_count region.shape * size ≤ len
bytes_within len size masks_len depth parent region long target =
    omega (arith, target.has_bytes, mul-le-mul_right size (count_within region parent long target.inside))
