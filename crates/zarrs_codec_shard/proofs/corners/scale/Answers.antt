use Rattle.std.proofs.Common.{arith, ◌*◌, ◌∙◌, sym}
use Rattle.zarrs_subset.proofs.Overlaps.{zip_with-from}
use Rattle.zarrs_codec_shard.proofs.corners.scale.Goals as goal

pub returns : goal.returns
returns c =
    zip_with-from (λ s i. i * s) _ _ _ (sym c.requires.dimensions) (c.loop-axis.auto.indices ∙ c.requires.dimensions)
    (λ k below. c.loop-axis.invariant.done k (omega arith))
