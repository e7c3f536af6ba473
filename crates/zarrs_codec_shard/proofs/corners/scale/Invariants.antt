use Rattle.std.proofs.Common.{ℕ, ◌≡◌, ◌*◌, ◌<◌, ◌≤◌, slice_index}
use Rattle.zarrs_codec_shard.proofs.corners.scale.Given as goal

-- the dimensions before `axis` are multiplied
abbrev pub invariant-loop-axis : goal.invariant-loop-axis
invariant-loop-axis l = record {
  done : (j : ℕ) → j < l.axis → slice_index l.indices j ≡ slice_index l.initial.indices j * slice_index l.sub j;
  rest : (j : ℕ) → l.axis ≤ j → slice_index l.indices j ≡ slice_index l.initial.indices j;
}
