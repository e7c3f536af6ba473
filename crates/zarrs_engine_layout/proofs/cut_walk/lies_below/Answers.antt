use Rattle.std.proofs.Common.{arith}
use Rattle.zarrs_engine_layout.proofs.CutWalks.{all_low, one_high}
use Rattle.zarrs_engine_layout.proofs.cut_walk.lies_below.Goals as goal

pub returns-then-index-shape : goal.returns-then-index-shape
returns-then-index-shape c = one_high c.args.shape.now c.args.position.now c.loop-axis.axis (omega arith) (omega arith)

pub returns : goal.returns
returns c = all_low c.args.shape.now c.args.position.now c.loop-axis.axis (omega arith) c.requires c.loop-axis.invariant
