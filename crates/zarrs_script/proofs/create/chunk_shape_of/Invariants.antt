use Rattle.std.proofs.Common.{◌≡◌, take}
use Rattle.zarrs_metadata_parts.specs.Lists.{sizes_of}
use Rattle.zarrs_script.proofs.create.chunk_shape_of.Given as goal

abbrev pub invariant-loop-extent : goal.invariant-loop-extent
invariant-loop-extent l = sizes_of l.sizes.items ≡ take l.extent-index l.extents
