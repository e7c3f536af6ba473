use Rattle.std.proofs.Common.{◌≡◌, ◌+◌, ◌<◌, ◌++◌, ◌∷◌, [], ℕ, length, map, take, ap, sym, ◌∙◌, arith}
use Rattle.std.specs.Prelude.{sum}
use Rattle.std.specs.List.{range_with_len}
use Rattle.std.proofs.lemmas.List.FromFn.{map-range_with_len_more}
use Rattle.std.proofs.lemmas.List.Sums.{sum_by_more}
use Rattle.zarrs_data_type_bytes.proofs.placed_strings.offsets_from.Goals as goal

pub loop-index-preserved : goal.loop-index-preserved
loop-index-preserved c =
    let lens = c.args.lens.now in
    let i = c.loop-index.index in
    let end : ℕ → ℕ = λ k. sum (take k lens) in
    let below : i < length lens = omega arith in
    let more = sum_by_more (λ n. n) lens i 0 below in
    let next : c.in-Some.next ≡ end (i + 1) = omega (arith, c.in-Some.ensures, c.loop-index.invariant.end, c.get.ensures) in
    record {
      end = next;
      offsets = c.in_ok-push-2.ensures.items
          ∙ ap (λ l. l ++ c.in-Some.next ∷ []) c.loop-index.invariant.offsets
          ∙ ap (λ n. map end (range_with_len 0 (i + 1)) ++ n ∷ []) next
          ∙ sym (map-range_with_len_more end 0 (i + 1) (i + 1) (omega arith));
    }
