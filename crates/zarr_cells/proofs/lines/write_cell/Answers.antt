use Rattle.std.proofs.Common.{length, subst, arith}
use Rattle.std.specs.Io.KnownBytes.{Appends}
use Rattle.std.proofs.lemmas.Result.{on_ok_weaker}
use Rattle.hex.specs.Hex.{IsBytes}
use Rattle.zarr_cells.specs.Lines.{closed}
use Rattle.zarr_cells.proofs.WordLemmas.{cell_says}
use Rattle.zarr_cells.proofs.LineLemmas.{cell_written}
use Rattle.zarr_cells.proofs.lines.write_cell.Goals as goal

pub returns : goal.returns
returns g c =
    let rows = c.args.rows.now in
    let cell = c.args.cell.now in
    let said = c.in_ok-write_bits.ensures in
    let small : IsBytes cell = λ i. let fits = c.type_inv.cell i in omega arith in
    on_ok_weaker c.write_closing.result
    (λ third.
    cell_written rows.form (length cell) rows.width c.args.column said.word cell (g.W.Write.contents c.args.out.now) (g.W.Write.contents c.write_opening.new.out) (g.W.Write.contents c.write_bits.new.out) (g.W.Write.contents c.write_closing.new.out) said.solid
    (cell_says rows.form said.word cell c.cell_bits.result c.requires small c.cell_bits.ensures said.says)
    c.in_ok-write_opening.ensures said.written (subst (λ b. Appends (g.W.Write.contents c.write_bits.new.out) (g.W.Write.contents c.write_closing.new.out) (closed b)) c.is_last.ensures third))
    c.write_closing.ensures
