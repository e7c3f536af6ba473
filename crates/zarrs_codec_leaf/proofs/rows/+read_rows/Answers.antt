use Rattle.std.proofs.Common.{rules, arith, ◌≡◌, ◌+◌, ◌*◌, ◌<◌, ◌/◌, length, sym, ◌∙◌}
use Rattle.std.specs.Cmp.Lexicographic.{same_text}
use Rattle.zarrs_codec_leaf.specs.BoxReads.{box_bytes}
use Rattle.zarrs_codec_leaf.proofs.RowReads.{last_row, more_rows, no_dimension, rows_at, run_at}
use Rattle.zarrs_codec_leaf.proofs.rows.+read_rows.Goals as goal

pub read_run-requires-clause-may_read : goal.read_run-requires-clause-may_read
read_run-requires-clause-may_read g t c = (no_dimension _ _ _ _ _ _ _ _ c.in_default.ensures.cases c.requires).1

pub returns-in_default-clause-bytes : goal.returns-in_default-clause-bytes
returns-in_default-clause-bytes g t c =
    let is = (no_dimension _ _ _ _ _ _ _ _ c.in_default.ensures.cases c.requires).0 in
    rw is (search (rules, c.read_run.ensures.bytes))

pub read_run-requires-then-eq-clause-window : goal.read_run-requires-then-eq-clause-window
read_run-requires-then-eq-clause-window g t c =
    (run_at _ _ _ _ _ _ _ _ _ _ _ _ _ _ c.in-Some.ensures.cases.0 c.in-Some-split_first.ensures.cases.0 c.in-Some-split_first-2.ensures.cases.0 (same_text _ _ (sym c.if-eq.true ∙ c.eq.ensures)) c.requires).inside

pub read_run-requires-then-eq-clause-may_read : goal.read_run-requires-then-eq-clause-may_read
read_run-requires-then-eq-clause-may_read g t c =
    (run_at _ _ _ _ _ _ _ _ _ _ _ _ _ _ c.in-Some.ensures.cases.0 c.in-Some-split_first.ensures.cases.0 c.in-Some-split_first-2.ensures.cases.0 (same_text _ _ (sym c.if-eq.true ∙ c.eq.ensures)) c.requires).allowed

pub returns-then-eq-clause-bytes : goal.returns-then-eq-clause-bytes
returns-then-eq-clause-bytes g t c =
    let is = (run_at _ _ _ _ _ _ _ _ _ _ _ _ _ _ c.in-Some.ensures.cases.0 c.in-Some-split_first.ensures.cases.0 c.in-Some-split_first-2.ensures.cases.0 (same_text _ _ (sym c.if-eq.true ∙ c.eq.ensures)) c.requires).bytes_are in
    rw is (search (rules, c.read_run-then-eq.ensures.bytes))

pub read_rows-requires : goal.read_rows-requires
read_rows-requires g t c κs within =
    let rows = rows_at _ _ _ _ _ _ _ _ _ _ _ _ _ _ c.in-Some.ensures.cases.0 c.in-Some-split_first.ensures.cases.0 c.in-Some-split_first-2.ensures.cases.0 c.requires in
    let less : length c.in-Some.inner.now < length c.args.shape.now = rows.shorter in
    (first_of (omega (arith, c.decreases, less), search rules), (search rules, rows.row _ (omega arith) (omega arith)))

pub loop-number-preserved : goal.loop-number-preserved
loop-number-preserved g t c =
    more_rows
    (λ i. box_bytes c.args.size c.in-Some.inner.now c.in-Some-split_first.inner_start.now c.in-Some-split_first-2.inner_extents.now (g.B.ByteSource.bytes c.args.source.now)
    (c.args.window.offset + i * (c.args.window.len / c.in-Some.extent.now)))
    c.in-Some-split_first.first.now c.loop-number.number _ _ _ c.loop-number.invariant c.in_ok-read_rows.ensures.bytes

pub returns-clause-bytes : goal.returns-clause-bytes
returns-clause-bytes g t c =
    let rows = rows_at _ _ _ _ _ _ _ _ _ _ _ _ _ _ c.in-Some.ensures.cases.0 c.in-Some-split_first.ensures.cases.0 c.in-Some-split_first-2.ensures.cases.0 c.requires in
    let all : c.loop-number.number ≡ c.in-Some-split_first-2.count.now = omega arith in
    last_row
    (λ i. box_bytes c.args.size c.in-Some.inner.now c.in-Some-split_first.inner_start.now c.in-Some-split_first-2.inner_extents.now (g.B.ByteSource.bytes c.args.source.now)
    (c.args.window.offset + i * (c.args.window.len / c.in-Some.extent.now)))
    _ _ _ _ _ _ all c.loop-number.invariant rows.all

pub overflow_mul-row : goal.overflow_mul-row
overflow_mul-row g t c =
    let rows = rows_at _ _ _ _ _ _ _ _ _ _ _ _ _ _ c.in-Some.ensures.cases.0 c.in-Some-split_first.ensures.cases.0 c.in-Some-split_first-2.ensures.cases.0 c.requires in
    let row = rows.row (c.in-Some-split_first.first.now + c.loop-number.number) (omega arith) (omega arith) in
    omega (arith, row.inside, row.small)

pub overflow_add-row-in-loop-number : goal.overflow_add-row-in-loop-number
overflow_add-row-in-loop-number g t c =
    let rows = rows_at _ _ _ _ _ _ _ _ _ _ _ _ _ _ c.in-Some.ensures.cases.0 c.in-Some-split_first.ensures.cases.0 c.in-Some-split_first-2.ensures.cases.0 c.requires in
    let row = rows.row (c.in-Some-split_first.first.now + c.loop-number.number) (omega arith) (omega arith) in
    omega (arith, row.inside, row.small)

pub overflow_mul-run : goal.overflow_mul-run
overflow_mul-run g t c =
    let run = run_at _ _ _ _ _ _ _ _ _ _ _ _ _ _ c.in-Some.ensures.cases.0 c.in-Some-split_first.ensures.cases.0 c.in-Some-split_first-2.ensures.cases.0 (same_text _ _ (sym c.if-eq.true ∙ c.eq.ensures)) c.requires in
    omega (arith, run.inside, c.requires.small)

pub overflow_add-run : goal.overflow_add-run
overflow_add-run g t c =
    let run = run_at _ _ _ _ _ _ _ _ _ _ _ _ _ _ c.in-Some.ensures.cases.0 c.in-Some-split_first.ensures.cases.0 c.in-Some-split_first-2.ensures.cases.0 (same_text _ _ (sym c.if-eq.true ∙ c.eq.ensures)) c.requires in
    omega (arith, run.inside, c.requires.small)

pub overflow_mul-run-then-eq : goal.overflow_mul-run-then-eq
overflow_mul-run-then-eq g t c =
    let run = run_at _ _ _ _ _ _ _ _ _ _ _ _ _ _ c.in-Some.ensures.cases.0 c.in-Some-split_first.ensures.cases.0 c.in-Some-split_first-2.ensures.cases.0 (same_text _ _ (sym c.if-eq.true ∙ c.eq.ensures)) c.requires in
    omega (arith, run.inside, c.requires.small)
