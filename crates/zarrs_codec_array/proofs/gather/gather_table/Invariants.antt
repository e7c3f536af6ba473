use Rattle.zarrs_codec_array.specs.Gathered.{AreColumns}
use Rattle.std.proofs.Common.{◌≤◌, ◌-◌}
use Rattle.zarrs_codec_array.proofs.gather.gather_table.Given as goal

abbrev pub invariant-loop-first : goal.invariant-loop-first
invariant-loop-first l =
    (l.first ≤ l.table.columns) × AreColumns l.size l.table.rows l.table.columns l.table.row_step l.table.column_step l.table.start l.first l.from l.to

abbrev pub decreases-loop-first : goal.decreases-loop-first
decreases-loop-first l = l.table.columns - l.first
