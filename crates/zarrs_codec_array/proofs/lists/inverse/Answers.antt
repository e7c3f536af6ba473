use Rattle.std.proofs.Common.{arith, ◌≡◌, length}
use Rattle.zarrs_codec_array.proofs.Marks.{undone-all, reset}
use Rattle.zarrs_codec_array.specs.OrderLaws.{entry_below}
use Rattle.zarrs_codec_array.proofs.lists.inverse.Goals as goal

pub index_mut-requires : goal.index_mut-requires
index_mut-requires c =
    let below = entry_below c.args.order.now c.requires c.loop-k.k c.loop-k-test.true in
    omega (arith, below, c.loop-k.invariant.0, c.loop-k.made.ok.0)

pub loop-k-preserved : goal.loop-k-preserved
loop-k-preserved c =
    reset c.args.order.now c.loop-k.made.items c.loop-k.k c.requires c.loop-k-test.true c.loop-k.invariant.0 c.loop-k.invariant.1

pub returns : goal.returns
returns c =
    let done : c.loop-k.k ≡ length c.args.order.now = omega arith in
    undone-all c.args.order.now c.loop-k.made.items c.requires c.loop-k.invariant.0 (λ i lt. c.loop-k.invariant.1 i (omega arith))
