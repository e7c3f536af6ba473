use Rattle.std.proofs.Common.{◌%◌, ap, ◌∙◌, length, arith}
use Rattle.zarrs_data_type_bytes.specs.Places.{numbers_in}
use Rattle.zarrs_data_type_bytes.proofs.NumberCells.{numbers-written, whole-written}
use Rattle.zarrs_data_type_bytes.proofs.numbers.Numbers.new.Goals as goal

pub invariant_of-result : goal.invariant_of-result
invariant_of-result c = ap (λ l. length l % 8) c.in_ok-bytes.ensures ∙ whole-written c.args.numbers.now

pub returns : goal.returns
returns c =
    ap numbers_in c.in_ok-bytes.ensures ∙ numbers-written c.args.numbers.now (λ k lt. omega (arith, c.type_inv.numbers k))
