use Rattle.std.proofs.Common.{◌≡◌, ◌<◌, ◌≤◌, ◌^◌, ◌+◌, ◌*◌, ◌-◌, length, get_or, drop, arith, sym, ◌∙◌}
use Rattle.std.proofs.lemmas.Bool.Decides.{nat_tests}
use Rattle.zarrs_script.proofs.Numbers.{goes_on, no_digit, one_digit, overflows, at_end, from_start, empty_is}
use Rattle.zarrs_script.proofs.parse.number_of.Goals as goal

pub returns-then-is_empty : goal.returns-then-is_empty
returns-then-is_empty c =
    let e = c.if-is_empty.ensures in
    let h : length c.args.word.now ≡ 0 = grind (arith, nat_tests) in
    sym (empty_is c.args.word.now h)

pub returns-then-not-is_ascii_digit : goal.returns-then-not-is_ascii_digit
returns-then-not-is_ascii_digit c =
    let e = c.if-is_empty.ensures in
    let some : 0 < length c.args.word.now = grind (arith, nat_tests) in
    sym (no_digit c.loop-byte.number c.loop-byte.byte-index c.args.word.now c.loop-byte-test.true (sym c.if-not-is_ascii_digit.ensures.value)) ∙ c.loop-byte.invariant.value ∙ from_start c.args.word.now some

pub returns-in_err-checked_mul : goal.returns-in_err-checked_mul
returns-in_err-checked_mul c =
    let e = c.if-is_empty.ensures in
    let some : 0 < length c.args.word.now = grind (arith, nat_tests) in
    let n = c.loop-byte.number in
    let no = c.in_err-checked_mul.ensures in
    let large : 2 ^ 64 ≤ n * 10 = omega arith in
    c.from_residual.ensures ∙ sym (overflows n c.loop-byte.byte-index c.args.word.now c.loop-byte-test.true (sym c.if-not-is_ascii_digit.ensures.value) (omega arith)) ∙ c.loop-byte.invariant.value ∙ from_start c.args.word.now some

pub returns-in_err-number : goal.returns-in_err-number
returns-in_err-number c =
    let e = c.if-is_empty.ensures in
    let some : 0 < length c.args.word.now = grind (arith, nat_tests) in
    let no = c.in_err-number.ensures in
    let m = c.in_ok-checked_mul.ensures in
    let d = c.from.ensures in
    let large : 2 ^ 64 ≤ c.in_ok-checked_mul.field-0 + c.from.result = omega arith in
    c.from_residual-in_err-number.ensures ∙ sym (overflows c.loop-byte.number c.loop-byte.byte-index c.args.word.now c.loop-byte-test.true (sym c.if-not-is_ascii_digit.ensures.value) (omega arith)) ∙ c.loop-byte.invariant.value ∙ from_start c.args.word.now some

pub loop-byte-preserved : goal.loop-byte-preserved
loop-byte-preserved c =
    let m = c.in_ok-checked_mul.ensures in
    let d = c.from.ensures in
    let s = c.in_ok-number.ensures in
    let e : c.in_ok-number.number ≡ c.loop-byte.number * 10 + (get_or c.args.word.now c.loop-byte.byte-index 0 - 48) = omega arith in
    let value : goes_on (c.loop-byte.number * 10 + (get_or c.args.word.now c.loop-byte.byte-index 0 - 48)) (drop (c.loop-byte.byte-index + 1) c.args.word.now) ≡ goes_on 0 c.args.word.now = (sym (one_digit c.loop-byte.number c.loop-byte.byte-index c.args.word.now c.loop-byte-test.true (sym c.if-not-is_ascii_digit.ensures.value)) ∙ c.loop-byte.invariant.value) in
    record { value = rw e value; fits = omega arith }

pub returns : goal.returns
returns c =
    let e = c.if-is_empty.ensures in
    let some : 0 < length c.args.word.now = grind (arith, nat_tests) in
    sym (at_end c.loop-byte.number c.loop-byte.byte-index c.args.word.now c.loop-byte-test.false c.loop-byte.invariant.fits) ∙ c.loop-byte.invariant.value ∙ from_start c.args.word.now some
