use Rattle.std.proofs.Common.{refl, ◌-◌, arith, ◌≡◌, ◌+◌, ◌*◌, ◌≤◌, length, sym, subst, ◌∙◌}
use Rattle.zarrs_subset.proofs.Kernel.{length_part}
use Rattle.zarrs_codec_array.proofs.Columns.{table_read, part_room, part-within, stairs-more, stairs-first}
use Rattle.zarrs_codec_array.proofs.gather.gather_columns.Goals as goal

pub overflow_mul-read : goal.overflow_mul-read
overflow_mul-read c =
    let t = c.args.table in
    omega (arith, table_read c.args.size t.rows t.columns t.row_step t.column_step t.start (length c.args.from.now) c.loop-row.row c.args.first c.requires.within c.loop-row-test.true (omega arith))

pub overflow_add-read : goal.overflow_add-read
overflow_add-read c =
    let t = c.args.table in
    omega (arith, table_read c.args.size t.rows t.columns t.row_step t.column_step t.start (length c.args.from.now) c.loop-row.row c.args.first c.requires.within c.loop-row-test.true (omega arith))

pub overflow_mul-read-in-loop-row : goal.overflow_mul-read-in-loop-row
overflow_mul-read-in-loop-row c =
    let t = c.args.table in
    omega (arith, table_read c.args.size t.rows t.columns t.row_step t.column_step t.start (length c.args.from.now) c.loop-row.row c.args.first c.requires.within c.loop-row-test.true (omega arith))

pub overflow_add-read-in-loop-row : goal.overflow_add-read-in-loop-row
overflow_add-read-in-loop-row c =
    let t = c.args.table in
    omega (arith, table_read c.args.size t.rows t.columns t.row_step t.column_step t.start (length c.args.from.now) c.loop-row.row c.args.first c.requires.within c.loop-row-test.true (omega arith))

pub slice_bounds-cells-end : goal.slice_bounds-cells-end
slice_bounds-cells-end c =
    let t = c.args.table in
    omega (arith, part_room c.args.size t.rows t.columns c.loop-row.row c.args.first c.args.count c.loop-row-test.true c.requires.columns)

pub gather_line-requires-clause-within : goal.gather_line-requires-clause-within
gather_line-requires-clause-within c =
    let t = c.args.table in
    part-within c.args.size t.rows t.columns t.row_step t.column_step t.start (length c.args.from.now) c.loop-row.row c.args.first c.args.count c.requires.within c.loop-row-test.true c.requires.columns

pub loop-row-preserved : goal.loop-row-preserved
loop-row-preserved c =
    let t = c.args.table in
    let n = c.args.size in
    let w = c.loop-row.row * (t.columns * n) + c.args.first * n in
    let width = w + c.args.count * n - w in
    let is : width ≡ c.args.count * n = omega arith in
    let low = c.loop-row-test.true in
    let whole = part_room n t.rows t.columns c.loop-row.row c.args.first c.args.count low c.requires.columns in
    let room : w + width ≤ length c.loop-row.to = omega (arith, whole) in
    let step_len : length c.gather_line.new.to ≡ width = c.gather_line.auto.to ∙ length_part w (c.args.count * n) c.loop-row.to (omega (arith, whole)) ∙ sym is in
    stairs-more n t.rows t.columns t.row_step t.column_step t.start c.loop-row.row c.args.first c.args.count w width c.args.from.now c.loop-row.to c.gather_line.new.to
    (record { at = refl; is = is; part = c.requires.columns; row_below = low; room = room; len = step_len })
    c.loop-row.invariant c.gather_line.ensures

pub loop-row-init : goal.loop-row-init
loop-row-init c = stairs-first _ _ _ _ _ _ _ _ _ _ c.requires.before

pub returns : goal.returns
returns c =
    let t = c.args.table in
    subst (λ r. Rattle.zarrs_codec_array.specs.Gathered.AreColumns c.args.size r t.columns t.row_step t.column_step t.start (c.args.first + c.args.count) c.args.from.now c.loop-row.to) (omega arith) c.loop-row.invariant.above
