use Rattle.std.proofs.Common.{◌≤◌}
use Rattle.zarrs_subset.specs.Regions.{box_from, box_of}
use Rattle.zarrs_codec_shard.specs.Blocks.{rows_of, AddsCells}
use Rattle.zarrs_codec_shard.proofs.blocks.append_rows.Given as goal

abbrev pub invariant-loop-row : goal.invariant-loop-row
invariant-loop-row l =
    (l.row ≤ l.rows) × AddsCells l.size (box_of l.held_box) l.bytes (rows_of (box_from l.corner l.shape) 0 l.row) l.initial.made.items l.made.items
