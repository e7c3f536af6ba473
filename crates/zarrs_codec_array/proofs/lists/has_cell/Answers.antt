use Rattle.std.proofs.Common.{arith, refl}
use Rattle.zarrs_subset.proofs.Counts.{count_zero, count_some}
use Rattle.zarrs_codec_array.proofs.lists.has_cell.Goals as goal

pub returns-then-extent-eq0 : goal.returns-then-extent-eq0
returns-then-extent-eq0 c =
    let none = count_zero c.args.shape.now c.loop-extent.extent-index c.loop-extent-test.true c.if-extent-eq0.true in
    (λ is. cc, λ some. absurd (omega arith))

pub returns : goal.returns
returns c = (λ is. count_some c.args.shape.now (λ k below z. c.loop-extent.invariant k (omega arith) z), λ some. refl)
