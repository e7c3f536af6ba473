use Rattle.std.proofs.Common.{◌≡◌, take}
use Rattle.zarrs_metadata_parts.specs.Lists.{sizes_of}
use Rattle.zarrs_builder.proofs.builder.building.subchunk_sizes.Given as goal

-- the sizes so far
abbrev pub invariant-loop-extent : goal.invariant-loop-extent
invariant-loop-extent l = sizes_of l.sizes.items ≡ take l.extent-index l.shape
