use Rattle.std.proofs.Common.{◌≡◌, ℕ, ◌<◌, ◌≤◌, ◌/◌, ◌%◌, length, drop, slice_index}
use Rattle.zarrs_subset.specs.Boxes.{position_count, unravel}
use Rattle.zarrs_codec_shard.specs.Subchunks.{corner}
use Rattle.zarrs_codec_shard.proofs.corners.scale_by_index.Given as goal

abbrev pub decreases-loop-axis : goal.decreases-loop-axis
decreases-loop-axis l = l.axis

-- the dimensions from `axis` on have their start, and those before it their extent
abbrev pub invariant-loop-axis : goal.invariant-loop-axis
invariant-loop-axis l = record {
  within : l.axis ≤ length l.grid;
  rest : l.rest ≡ l.number / position_count (drop l.axis l.grid);
  before : (j : ℕ) → j < l.axis → slice_index l.extents j ≡ slice_index l.initial.extents j;
  behind : drop l.axis l.extents
      ≡ corner (drop l.axis l.initial.extents) (unravel (drop l.axis l.grid) (l.number % position_count (drop l.axis l.grid)));
}
