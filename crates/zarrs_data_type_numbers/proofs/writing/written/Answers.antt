use Rattle.std.proofs.Common.{◌≡◌, ◌+◌, ◌*◌, ◌++◌, append_assoc, length, take, sym, ap, ◌∙◌, arith, rules}
use Rattle.std.specs.List.{flat_map}
use Rattle.std.proofs.Math.Nat.{add-mul}
use Rattle.std.proofs.lemmas.Grind.{flat_map-append}
use Rattle.std.proofs.lemmas.List.{take-append-drop}
use Rattle.zarrs_data_type_numbers.proofs.writing.written.Goals as goal

pub loop-left-preserved : goal.loop-left-preserved
loop-left-preserved g c =
    let n = g.row.N in
    let all = c.loop-left.left.now in
    let part = c.split_at.result.0.now in
    let rest = c.split_at.result.1.now in
    let parts : part ++ rest ≡ all =
    ap (λ l. l ++ rest) c.split_at.ensures.front ∙ ap (λ l. take c.min.result all ++ l) c.split_at.ensures.back ∙ take-append-drop c.min.result all in
    let both : length part + length rest ≡ length all = omega (arith, c.split_at.ensures.front_len, c.split_at.ensures.back_len) in
    let cut : length part * n + length rest * n ≡ length all * n = sym (add-mul (length part) (length rest) n) ∙ ap (λ m. m * n) both in
    let bytes = flat_map g.W.Writing.written in
    record {
      items = ap (λ l. l ++ bytes rest) c.in_ok-extend_written.ensures.bytes
          ∙ append_assoc c.loop-left.made.items (bytes part) (bytes rest)
          ∙ ap (λ l. c.loop-left.made.items ++ l) (sym (flat_map-append g.W.Writing.written part rest) ∙ ap bytes parts)
          ∙ c.loop-left.invariant.items;
      len = omega (arith, c.in_ok-extend_written.ensures.len, c.loop-left.invariant.len, cut);
      room = search rules;
      left = omega arith;
    }
