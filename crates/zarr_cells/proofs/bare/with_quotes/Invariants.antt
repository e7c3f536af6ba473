use Rattle.std.proofs.Common.{length}
use Rattle.zarr_cells.proofs.bare.with_quotes.Given as goal

abbrev pub decreases-loop-rest : goal.decreases-loop-rest
decreases-loop-rest l = length l.rest
