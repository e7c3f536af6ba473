use Rattle.std.proofs.Common.{sym, arith}
use Rattle.zarrs_codec_shard.proofs.Grids.{cut_zero, cut_odd}
use Rattle.zarrs_codec_shard.proofs.subchunks.is_cut_by.Goals as goal
use Rattle.zarrs_codec_shard.proofs.subchunks.is_cut_by.Goals.{then-sub-axis-eq0-via-then-sub-axis-eq0, then-sub-axis-eq0-via-else-sub-axis-eq0+then-shape-axis-ne0}

pub returns-then-sub-axis-eq0 : goal.returns-then-sub-axis-eq0
returns-then-sub-axis-eq0 c =
    let s = c.args.shape.now in
    let sub = c.args.sub.now in
    elim c.then-sub-axis-eq0.branch [
      | then-sub-axis-eq0-via-then-sub-axis-eq0 w ↦ sym (cut_zero s sub c.loop-axis.axis _ (omega (arith, c.loop-axis-test.true)) (omega (arith, c.if-shape-sub.false)) c.loop-axis.invariant (omega (arith, w.if-sub-axis-eq0)))
      | then-sub-axis-eq0-via-else-sub-axis-eq0+then-shape-axis-ne0 w ↦ sym (cut_odd s sub c.loop-axis.axis _ (omega (arith, c.loop-axis-test.true)) (omega (arith, c.if-shape-sub.false)) c.loop-axis.invariant (λ e. omega (arith, w.if-shape-axis-ne0)))
    ]
