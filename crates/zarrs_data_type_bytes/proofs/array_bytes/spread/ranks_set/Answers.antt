use Rattle.std.proofs.Common.{ap, sym, ◌∙◌, ◌+◌, ◌++◌, ◌∷◌, []}
use Rattle.std.proofs.lemmas.List.Sums.{count_by_more_yes, count_by_more_no}
use Rattle.zarrs_data_type_bytes.specs.Present.{flag_set, ranks_set}
use Rattle.zarrs_data_type_bytes.proofs.Presence.{ranks-set, ranks-unset, set-flag, unset-flag}
use Rattle.zarrs_data_type_bytes.proofs.array_bytes.spread.ranks_set.Goals as goal
use Rattle.zarrs_data_type_bytes.proofs.array_bytes.spread.ranks_set.Goals.{then-mask-index-eq0+in_ok-push, else-mask-index-eq0+in_ok-push-2}

pub loop-index-preserved : goal.loop-index-preserved
loop-index-preserved c =
    let mask = c.args.mask.now in
    let n = c.loop-index.index in
    elim c.if-mask-index-eq0.branch [
      | then-mask-index-eq0+in_ok-push w ↦
          record {
            ranks = ap (λ v. v.items) w.ranks-is ∙ w.in_ok-push.ensures.items ∙ ap (λ l. l ++ 0 ∷ []) c.loop-index.invariant.ranks ∙ sym (ranks-unset mask n w.if-mask-index-eq0.true);
            count = w.count-is ∙ c.loop-index.invariant.count ∙ sym (count_by_more_no flag_set mask n 0 c.loop-index-test.true (unset-flag mask n w.if-mask-index-eq0.true));
          }
      | else-mask-index-eq0+in_ok-push-2 w ↦
          record {
            ranks = ap (λ v. v.items) w.ranks-is ∙ w.in_ok-push-2.ensures.items
                ∙ ap (λ l. l ++ c.loop-index.count ∷ []) c.loop-index.invariant.ranks
                ∙ ap (λ m. ranks_set mask n ++ m ∷ []) c.loop-index.invariant.count
                ∙ sym (ranks-set mask n w.if-mask-index-eq0.false);
            count = w.count-is ∙ ap (λ m. m + 1) c.loop-index.invariant.count ∙ sym (count_by_more_yes flag_set mask n 0 c.loop-index-test.true (set-flag mask n w.if-mask-index-eq0.false));
          }
    ]
