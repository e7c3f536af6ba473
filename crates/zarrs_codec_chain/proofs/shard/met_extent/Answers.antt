use Rattle.std.proofs.Common.{◌-◌, ◌*◌, ◌/◌, ◌≤◌, arith}
use Rattle.std.proofs.Math.Nat.{le-div_iff_mul-le}
use Rattle.zarrs_codec_chain.proofs.shard.met_extent.Goals as goal

pub returns-clause-begins : goal.returns-clause-begins
returns-clause-begins c = λ i from below.
    let e = c.args.extent in
    let y = c.args.end - 1 in
    let last : i ≤ y / e = omega arith in
    let here : i * e ≤ y = (le-div_iff_mul-le {k = e} {x = i} {y = y} c.requires).0 last in
    omega arith
