use Rattle.std.proofs.Common.{◌-◌, ◌≤◌}
use Rattle.zarrs_subset.specs.Regions.{box_of}
use Rattle.zarrs_codec_shard.specs.Blocks.{rows_of, AddsCells}
use Rattle.zarrs_codec_shard.proofs.blocks.append_blocks.Given as goal

abbrev pub invariant-loop-done : goal.invariant-loop-done
invariant-loop-done l =
    (l.done ≤ l.rows) × AddsCells l.size (box_of l.held_box) l.bytes (rows_of (box_of l.subset) 0 l.done) l.initial.made.items l.made.items

abbrev pub decreases-loop-done : goal.decreases-loop-done
decreases-loop-done l = l.rows - l.done
