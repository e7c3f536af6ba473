use Rattle.std.proofs.Common.{◌≡◌, ◌++◌, replicate}
use Rattle.zarr_cells.proofs.npy.padded.Given as goal

abbrev pub invariant-loop-done : goal.invariant-loop-done
invariant-loop-done l = l.made.items ≡ l.initial.made.items ++ replicate l._done 32
