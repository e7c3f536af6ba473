use Rattle.std.proofs.Common.{◌≡◌}
use Rattle.zarr_cells.specs.Lines.{column_after, Extends, ReadsCells}
use Rattle.zarr_cells.proofs.lines.read_cells.Given as goal

abbrev pub invariant-loop-done : goal.invariant-loop-done
invariant-loop-done g l = record {
  column : l.column ≡ column_after l.rows.width l.fn.column l._done;
  reads : ReadsCells l.rows.form l.rows.size l.rows.width l._done l.fn.column (g.R.Read.remaining l.initial.input) (g.R.Read.remaining l.input) l.initial.bytes.items l.bytes.items;
  kept : Extends l.initial.bytes.items l.bytes.items;
}
