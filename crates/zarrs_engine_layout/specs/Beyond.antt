-- What of a chunk is past a shape along one dimension.
use Rattle.std.specs.Prelude.{◌≡◌, ℕ, ◌+◌, ◌<◌, ◌≤◌, List, Option, None, Some, slice_index}
use Rattle.zarrs_subset.specs.Regions.{Box}
use Rattle.zarrs_engine_calls.specs.Cuts.{beyond_box}

-- the positions of the box that are not below the shape along dimension k, if there are such positions
abbrev pub IsBeyond : Box → List ℕ → ℕ → Option Box → Type 0
IsBeyond box shape k None = slice_index box.start k + slice_index box.shape k ≤ slice_index shape k
IsBeyond box shape k (Some gone) = (slice_index shape k < slice_index box.start k + slice_index box.shape k) × (gone ≡ beyond_box box shape k)
