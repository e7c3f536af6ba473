use Rattle.std.proofs.Common.{◌≡◌, ◌*◌, ◌%◌, replicate, length, ap, ◌∙◌, arith, rules}
use Rattle.std.proofs.lemmas.Grind.{common_steps}
use Rattle.zarrs_data_type_bytes.specs.Places.{numbers_in}
use Rattle.zarrs_data_type_bytes.proofs.NumberCells.{numbers-zeros, whole-zeros}
use Rattle.zarrs_data_type_bytes.proofs.numbers.Numbers.zeros.Goals as goal

pub invariant_of-result : goal.invariant_of-result
invariant_of-result c =
    let items : c.in_ok-bytes.bytes.items ≡ replicate c.in-Some.len 0 = first_of (search rules, grind (arith, common_steps)) in
    let len : c.in-Some.len ≡ c.args.count * 8 = first_of (search rules, omega (arith, c.in-Some.ensures), grind (arith, common_steps)) in
    ap (λ l. length l % 8) (items ∙ ap (λ n. replicate n 0) len) ∙ whole-zeros c.args.count

pub returns : goal.returns
returns c =
    let items : c.in_ok-bytes.bytes.items ≡ replicate c.in-Some.len 0 = first_of (search rules, grind (arith, common_steps)) in
    let len : c.in-Some.len ≡ c.args.count * 8 = first_of (search rules, omega (arith, c.in-Some.ensures), grind (arith, common_steps)) in
    ap numbers_in (items ∙ ap (λ n. replicate n 0) len) ∙ numbers-zeros c.args.count
