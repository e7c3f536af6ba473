use Rattle.std.proofs.Common.{◌≡◌, ◌<◌, ◌*◌, ℕ, [], get_or, reverse}
use Rattle.std.specs.List.{flat_map}
use Rattle.zarrs_subset.specs.Pieces.{piece_at}
use Rattle.zarrs_codec_chain.proofs.bytes_into.turn_groups.Given as goal

abbrev pub invariant-loop-index : goal.invariant-loop-index
invariant-loop-index g l = (i : ℕ) → i < l.index → piece_at (16 * g.row.N) l.target i ≡ flat_map reverse (get_or l.groups i [])
