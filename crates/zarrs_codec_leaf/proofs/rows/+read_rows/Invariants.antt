use Rattle.std.proofs.Common.{length, ◌≡◌, ◌+◌, ◌*◌, ◌++◌}
use Rattle.std.specs.List.{flat_map, range_with_len}
use Rattle.zarrs_codec_leaf.specs.BoxReads.{box_bytes}
use Rattle.zarrs_codec_leaf.proofs.rows.+read_rows.Given as goal

abbrev pub decreases-read_rows : goal.decreases-read_rows
decreases-read_rows g l = length l.shape.now

-- so many rows were read
abbrev pub invariant-loop-number : goal.invariant-loop-number
invariant-loop-number g l =
    l.made.items
    ≡ l.initial.made.items
    ++ flat_map (λ i. box_bytes l.size l.inner l.inner_start l.inner_extents (g.B.ByteSource.bytes l.source) (l.window.offset + i * l.block))
    (range_with_len l.first l.number)
