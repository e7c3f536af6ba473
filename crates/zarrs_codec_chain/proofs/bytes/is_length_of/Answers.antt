use Rattle.std.proofs.Common.{◌∙◌, ◌*◌, ◌≤◌, ap, sym, arith}
use Rattle.std.proofs.Math.Nat.{mul-le-mul_left}
use Rattle.std.proofs.lemmas.Bool.{false≢true}
use Rattle.zarrs_subset.specs.Boxes.{position_count}
use Rattle.zarrs_codec_chain.proofs.bytes.is_length_of.Goals as goal

pub returns-in-Some : goal.returns-in-Some
returns-in-Some c =
    let same = ap (λ n. n * c.args.size) c.in-Some.ensures in
    (λ yes. c.is_size_of.ensures.0 yes ∙ same, λ is. c.is_size_of.ensures.1 (is ∙ sym same))

pub returns-in-None : goal.returns-in-None
returns-in-None c =
    let one : 1 ≤ c.args.size = c.requires in
    (λ no. absurd (false≢true no), λ is. absurd (omega (arith, is, c.in-None.ensures, mul-le-mul_left (position_count c.args.shape.now) one)))
