use Rattle.std.proofs.Common.{List, ℕ, length, ◌∷◌, slice_range}
use Rattle.zarrs_subset.specs.Cells.{BoxCopied}
use Rattle.zarrs_codec_chain.specs.BytesInto.{IsTurned}
use Rattle.zarrs_codec_chain.proofs.bytes_into.+turn_rows.Given as goal

abbrev pub decreases-turn_rows : goal.decreases-turn_rows
decreases-turn_rows g l = length l.extents.now

abbrev pub invariant-loop-row : goal.invariant-loop-row
invariant-loop-row g l =
    (turned : List ℕ) → IsTurned g.row.N l.source turned
    → BoxCopied g.row.N l.from.shape.now l.from.start.now l.to.shape.now l.to.start.now (l.row ∷ slice_range l.extents 1 (length l.extents)) turned l.initial.target l.target
