-- What a region and the box of a chunk have in common.
use Rattle.std.specs.Prelude.{◌≡◌, ℕ, ◌<◌, ◌≤◌, false, List}
use Rattle.zarrs_subset.specs.Boxes.{position_count}
use Rattle.zarrs_subset.specs.Regions.{Box, Holds, LiesInShape, in_box, overlap_of, seen_from, shifted_box, LiesInBox}

-- no position lies in both
abbrev pub AreApart : Box → Box → Type 0
AreApart region chunk = (position : List ℕ) → Holds region position → in_box chunk position ≡ false

-- some position lies in both: `shared` is what they share, and `part` the same box, seen from the corner of the chunk
pub record AreShared (region chunk shared part : Box) : Type 0 where
  pub some : 0 < position_count shared.shape
  pub shared_is : shared ≡ overlap_of region chunk
  pub part_is : part ≡ seen_from shared chunk.start
  pub in_region : LiesInBox shared region
  pub in_chunk : LiesInBox shared chunk
  pub lies : LiesInShape part chunk.shape
  pub few : position_count shared.shape ≤ position_count region.shape

-- some position lies in both: `made` is what they share, as it lies in `own`, which has the region's first position at its
-- corner
pub record IsSharedIn (own region chunk made : Box) : Type 0 where
  pub made_is : made ≡ shifted_box (seen_from (overlap_of region chunk) region.start) own.start
  pub shared : AreShared region chunk (overlap_of region chunk) (seen_from (overlap_of region chunk) chunk.start)
