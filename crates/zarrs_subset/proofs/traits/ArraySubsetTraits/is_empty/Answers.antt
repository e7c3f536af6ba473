use Rattle.std.proofs.Common.{arith, ◌≡◌, length}
use Rattle.zarrs_subset.proofs.traits.ArraySubsetTraits.is_empty.Goals as goal

pub returns : goal.returns
returns g c =
    let region = g.Self.ArraySubsetTraits.region c.args.self.now in
    let long : length region.start ≡ length region.shape = g.met.Self.ArraySubsetTraits.is_long c.args.self.now in
    (λ no. cc, λ found. absurd (omega (arith, c.loop-dimension.invariant found.0 (omega (arith, found.1)), found.2)))
