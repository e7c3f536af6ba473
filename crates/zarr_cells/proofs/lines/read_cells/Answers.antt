use Rattle.std.proofs.Common.{add-one, refl, sym, ap, ◌∙◌}
use Rattle.zarr_cells.specs.Lines.{next}
use Rattle.zarr_cells.proofs.LineLemmas.{column_more, extends_more, extends_none, reads_none, reads_more}
use Rattle.zarr_cells.proofs.lines.read_cells.Goals as goal

pub loop-done-init : goal.loop-done-init
loop-done-init g c =
    let rows = c.args.rows.now in
    record { column = refl; reads = reads_none rows.form rows.size rows.width c.args.column (g.R.Read.remaining c.args.input.now) c.args.bytes.now.items; kept = extends_none c.args.bytes.now.items }

pub loop-done-preserved : goal.loop-done-preserved
loop-done-preserved g c =
    let rows = c.args.rows.now in
    record {
      column = rw add-one (c.next-column.ensures ∙ ap (next rows.width) c.loop-done.invariant.column ∙ sym (column_more rows.width c.args.column c.loop-done._done));
      reads =
          rw add-one
          (reads_more rows.form rows.size rows.width c.args.column c.loop-done._done c.loop-done.column (g.R.Read.remaining c.args.input.now) (g.R.Read.remaining c.loop-done.input) (g.R.Read.remaining c.read_cell.new.input) c.args.bytes.now.items c.loop-done.bytes.items c.read_cell.new.bytes.items c.loop-done.invariant.column c.loop-done.invariant.reads
          c.in_ok-read_cell.ensures.cell);
      kept = extends_more c.args.bytes.now.items c.loop-done.bytes.items c.read_cell.new.bytes.items c.loop-done.invariant.kept c.read_cell.ensures.kept;
    }
