use Rattle.std.proofs.Common.{◌+◌}
use Rattle.zarrs_codec_array.proofs.Columns.{AreStairs}
use Rattle.zarrs_codec_array.proofs.gather.gather_columns.Given as goal

abbrev pub invariant-loop-row : goal.invariant-loop-row
invariant-loop-row l =
    AreStairs l.size l.table.rows l.table.columns l.table.row_step l.table.column_step l.table.start l.first l.row (l.first + l.count) l.from l.to
