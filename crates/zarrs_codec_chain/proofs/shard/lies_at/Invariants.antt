use Rattle.std.proofs.Common.{ℕ, ◌+◌, ◌<◌, ◌≤◌, slice_index}
use Rattle.zarrs_subset.specs.Regions.{box_of}
use Rattle.zarrs_codec_chain.proofs.shard.lies_at.Given as goal

-- it lies there along the dimensions before `axis`
abbrev pub invariant-loop-axis : goal.invariant-loop-axis
invariant-loop-axis l =
    let part = box_of l.part in
    record {
      some : (k : ℕ) → k < l.axis → 0 < slice_index part.shape k;
      starts : (k : ℕ) → k < l.axis → slice_index l.corner k ≤ slice_index part.start k;
      ends : (k : ℕ) → k < l.axis → slice_index part.start k + slice_index part.shape k ≤ slice_index l.corner k + slice_index l.shape k;
    }
