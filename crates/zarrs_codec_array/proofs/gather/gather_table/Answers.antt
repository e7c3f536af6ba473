use Rattle.std.proofs.Common.{arith, ◌≡◌, subst}
use Rattle.zarrs_codec_array.specs.Gathered.{AreColumns}
use Rattle.zarrs_codec_array.proofs.Columns.{columns-none, columns-all}
use Rattle.zarrs_codec_array.proofs.gather.gather_table.Goals as goal

pub loop-first-init : goal.loop-first-init
loop-first-init c = (omega arith, columns-none _ _ _ _ _ _ _ _)

pub returns : goal.returns
returns c =
    let t = c.args.table in
    let done : c.loop-first.first ≡ t.columns = omega arith in
    columns-all c.args.size t.rows t.columns t.row_step t.column_step t.start c.args.from.now c.loop-first.to
    (subst (λ d. AreColumns c.args.size t.rows t.columns t.row_step t.column_step t.start d c.args.from.now c.loop-first.to) done c.loop-first.invariant.1)
