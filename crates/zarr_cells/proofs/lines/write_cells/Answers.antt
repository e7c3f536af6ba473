use Rattle.std.proofs.Common.{◌≡◌, length, subst, arith}
use Rattle.std.proofs.lemmas.Bool.Decides.{nat_tests}
use Rattle.std.proofs.lemmas.List.{nil_from_length}
use Rattle.zarr_cells.specs.Lines.{WritesCell}
use Rattle.zarr_cells.proofs.LineLemmas.{written_none, written_more, written_all}
use Rattle.zarr_cells.proofs.lines.write_cells.Goals as goal

pub loop-rest-init : goal.loop-rest-init
loop-rest-init g c =
    let rows = c.args.rows.now in
    written_none rows.form rows.size rows.width c.args.column c.args.bytes.now (g.W.Write.contents c.args.out.now)

pub loop-rest-preserved : goal.loop-rest-preserved
loop-rest-preserved g c =
    let rows = c.args.rows.now in
    let cell = c.split_at.result.0.now in
    let between = g.W.Write.contents c.loop-rest.out in
    let new = g.W.Write.contents c.write_cell.new.out in
    let one : WritesCell rows.form rows.size rows.width c.loop-rest.column cell between new =
    subst (λ n. WritesCell rows.form n rows.width c.loop-rest.column cell between new) c.split_at.ensures.front_len c.in_ok-write_cell.ensures in
    written_more rows.form rows.size rows.width c.args.column c.args.bytes.now c.loop-rest.rest.now c.split_at.result.1.now cell c.loop-rest.column c.next-column.result
    (g.W.Write.contents c.args.out.now) between new c.loop-rest.invariant one c.split_at.ensures.by_index.0 c.next-column.ensures

pub returns-then-is_empty-clause-written : goal.returns-then-is_empty-clause-written
returns-then-is_empty-clause-written g c =
    let rows = c.args.rows.now in
    let none : length c.loop-rest.rest.now ≡ 0 = grind (arith, nat_tests) in
    written_all rows.form rows.size rows.width c.args.column c.args.bytes.now c.loop-rest.rest.now c.loop-rest.column (g.W.Write.contents c.args.out.now)
    (g.W.Write.contents c.loop-rest.out) c.loop-rest.invariant (nil_from_length c.loop-rest.rest.now none)
