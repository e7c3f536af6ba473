use Rattle.std.proofs.Common.{◌≡◌, ◌≤◌, ◌+◌, ◌-◌, ◌==◌, length, drop}
use Rattle.std.specs.List.{prefix_len}
use Rattle.zarrs_data_type_region.proofs.target.leading_ones.Given as goal

abbrev pub decreases-loop-count : goal.decreases-loop-count
decreases-loop-count l = length l.shape - l.count

-- the first `count` extents are 1
abbrev pub invariant-loop-count : goal.invariant-loop-count
invariant-loop-count l = record {
  within : l.count ≤ length l.shape;
  counted : prefix_len (λ extent. extent == 1) l.shape ≡ l.count + prefix_len (λ extent. extent == 1) (drop l.count l.shape);
}
