use Rattle.std.proofs.Common.{◌≡◌, ◌≤◌, ◌<◌, ◌*◌, ◌-◌, ℕ, length, take}
use Rattle.std.specs.List.{repeat}
use Rattle.zarrs_data_type_region.proofs.target.fill_run.Given as goal

abbrev pub decreases-loop-done : goal.decreases-loop-done
decreases-loop-done l = length l.target - l.done

-- the pieces so far, and those of a block
abbrev pub invariant-loop-done : goal.invariant-loop-done
invariant-loop-done l = record {
  len : length l.target ≡ l.count * length l.piece;
  within : l.done ≤ length l.target;
  some : 0 < l.block;
  block : l.block ≤ l.done;
  whole : (n : ℕ) × (l.block ≡ n * length l.piece);
  filled : (n : ℕ) × (l.done ≡ n * length l.piece) × (take l.done l.target ≡ repeat n l.piece);
}
