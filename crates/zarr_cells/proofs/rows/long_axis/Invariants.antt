use Rattle.zarr_cells.specs.Rows.{AreOnes}
use Rattle.zarr_cells.proofs.rows.long_axis.Given as goal

abbrev pub invariant-loop-axis : goal.invariant-loop-axis
invariant-loop-axis l = AreOnes l.shape l.axis
