use Rattle.std.proofs.Common.{◌≡◌, ◌+◌, ◌≤◌, ◌++◌, cond, length, take, sym, ap, ◌∙◌, arith}
use Rattle.std.specs.Prelude.{count_by}
use Rattle.std.proofs.lemmas.List.{take-append-drop}
use Rattle.std.proofs.lemmas.List.Sums.{sum_by-append, count_by-le-length}
use Rattle.zarrs_data_type.specs.Present.{flag_set}
use Rattle.zarrs_codec_optional.proofs.optional.count_set.Goals as goal

pub loop-left-preserved : goal.loop-left-preserved
loop-left-preserved c =
    let all = c.loop-left.left.now in
    let part = c.split_at.result.0.now in
    let rest = c.split_at.result.1.now in
    let parts : part ++ rest ≡ all =
    ap (λ l. l ++ rest) c.split_at.ensures.front ∙ ap (λ l. take c.min.result all ++ l) c.split_at.ensures.back ∙ take-append-drop c.min.result all in
    let both : length part + length rest ≡ length all = omega (arith, c.split_at.ensures.front_len, c.split_at.ensures.back_len) in
    let sums : count_by flag_set all ≡ count_by flag_set part + count_by flag_set rest =
    ap (count_by flag_set) (sym parts) ∙ sum_by-append (λ x. cond (flag_set x) 1 0) part rest in
    let within : count_by flag_set part ≤ length part = count_by-le-length flag_set part in
    record {
      counted = omega (arith, c.loop-left.invariant.counted, c.count_few.ensures, sums);
      few = omega (arith, c.loop-left.invariant.few, c.count_few.ensures, within, both);
    }
