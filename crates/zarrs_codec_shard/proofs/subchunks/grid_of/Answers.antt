use Rattle.std.proofs.Common.{List, ℕ, refl, ◌∙◌, arith}
use Rattle.std.proofs.lemmas.List.{take_all}
use Rattle.zarrs_codec_shard.specs.Subchunks.{quotients}
use Rattle.zarrs_codec_shard.proofs.Grids.{cut_len, cut_at, grid_more}
use Rattle.zarrs_codec_shard.proofs.subchunks.grid_of.Goals as goal

pub bounds-sub-axis : goal.bounds-sub-axis
bounds-sub-axis c = omega (arith, c.loop-axis-test.true, (cut_len c.args.shape.now c.args.sub.now c.requires).0)

pub nonzero_div-shape : goal.nonzero_div-shape
nonzero_div-shape c = (cut_at c.args.shape.now c.args.sub.now c.loop-axis.axis c.requires c.loop-axis-test.true).1

pub loop-axis-preserved : goal.loop-axis-preserved
loop-axis-preserved c =
    let i = c.loop-axis.axis in
    ◌∙◌ {A = List ℕ} c.in_ok-push.ensures.items
    (grid_more c.args.shape.now c.args.sub.now i _ c.loop-axis.grid.items c.requires c.loop-axis-test.true c.loop-axis.invariant refl)

pub returns : goal.returns
returns c =
    let n = (cut_len c.args.shape.now c.args.sub.now c.requires).1 in
    c.loop-axis.invariant ∙ take_all c.loop-axis.axis (quotients c.args.shape.now c.args.sub.now) (omega (arith, c.loop-axis-test.false))
