use Rattle.std.proofs.Common.{◌≡◌, ◌-◌, ◌<◌, ◌≤◌}
use Rattle.std.specs.List.{repeat}
use Rattle.zarrs_data_type_bytes.proofs.array_bytes.fill.repeated_piece.Given as goal

abbrev pub invariant-loop-pieces : goal.invariant-loop-pieces
invariant-loop-pieces l = (l.bytes.items ≡ repeat l.pieces l.piece) × (0 < l.pieces) × (l.pieces ≤ l.count)

abbrev pub decreases-loop-pieces : goal.decreases-loop-pieces
decreases-loop-pieces l = l.count - l.pieces
