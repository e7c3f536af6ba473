use Rattle.std.proofs.Common.{length}
use Rattle.zarr_cells.proofs.LineLemmas.{Written}
use Rattle.zarr_cells.proofs.lines.write_cells.Given as goal

abbrev pub invariant-loop-rest : goal.invariant-loop-rest
invariant-loop-rest g l = Written l.rows.form l.rows.size l.rows.width l.fn.column l.bytes l.rest l.column (g.W.Write.contents l.initial.out) (g.W.Write.contents l.out)

abbrev pub decreases-loop-rest : goal.decreases-loop-rest
decreases-loop-rest g l = length l.rest
