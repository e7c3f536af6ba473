use Rattle.std.proofs.Common.{◌≡◌, ◌<◌, ℕ, [], get_or, reverse}
use Rattle.zarrs_subset.specs.Pieces.{piece_at}
use Rattle.zarrs_codec_chain.proofs.bytes_into.turn_cells.Given as goal

abbrev pub invariant-loop-index : goal.invariant-loop-index
invariant-loop-index g l = (i : ℕ) → i < l.index → piece_at g.row.N l.target i ≡ reverse (get_or l.cells i [])
