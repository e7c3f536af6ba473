use Rattle.std.proofs.Common.{◌≡◌, length}
use Rattle.zarrs_codec_leaf.specs.BoxReads.{is_run}
use Rattle.zarrs_codec_leaf.proofs.rows.is_run.Given as goal

-- what is left of the dimensions decides
abbrev pub invariant-loop-count : goal.invariant-loop-count
invariant-loop-count l = is_run l.outer l.rest ≡ is_run l.shape l.extents

abbrev pub decreases-loop-count : goal.decreases-loop-count
decreases-loop-count l = length l.rest
