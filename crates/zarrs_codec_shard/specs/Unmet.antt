-- Whether a subchunk has a position of a box, dimension by dimension.
use Rattle.std.specs.Prelude.{ℕ, ◌+◌, ◌*◌, ◌<◌, ◌≤◌, Bool, List, max, min, nat_lt}
use Rattle.zarrs_codec_shard.specs.Subchunks.{corner}
use Rattle.zarrs_subset.specs.Boxes.{position_count, unravel}
use Rattle.zarrs_subset.specs.Regions.{Box, box_from, overlap_of}

-- whether the subchunk of this number has a position of the box, of subchunks of which so many lie along each dimension
abbrev pub shares : (sub grid : List ℕ) (part : Box) (number : ℕ) → Bool
shares sub grid part number = nat_lt 0 (position_count (overlap_of (box_from (corner sub (unravel grid number)) sub) part).shape)

-- along one dimension: the subchunk of this index, of so many positions, has none of the extent from `start` on, or one
abbrev pub SharesNone : (start extent len index : ℕ) → Type 0
SharesNone start extent len index = min (index * len + len) (start + extent) ≤ max (index * len) start

abbrev pub SharesSome : (start extent len index : ℕ) → Type 0
SharesSome start extent len index = max (index * len) start < min (index * len + len) (start + extent)
