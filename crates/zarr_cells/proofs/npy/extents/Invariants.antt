use Rattle.std.proofs.Common.{◌≡◌, take}
use Rattle.zarr_cells.specs.Npy.{extents}
use Rattle.zarr_cells.proofs.npy.extents.Given as goal

abbrev pub invariant-loop-extent : goal.invariant-loop-extent
invariant-loop-extent l = l.text.items ≡ extents (take l.extent-index l.shape)
