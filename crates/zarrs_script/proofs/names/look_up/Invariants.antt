use Rattle.std.proofs.Common.{◌≡◌, length, map}
use Rattle.zarrs_script.specs.Words.{look_up}
use Rattle.zarrs_script.proofs.names.look_up.Given as goal

abbrev pub invariant-loop-table : goal.invariant-loop-table
invariant-loop-table g l = look_up (map (λ entry. (entry.0.now, entry.1)) l.table) l.name ≡ look_up (map (λ entry. (entry.0.now, entry.1)) l.initial.table) l.name

abbrev pub decreases-loop-table : goal.decreases-loop-table
decreases-loop-table g l = length l.table
