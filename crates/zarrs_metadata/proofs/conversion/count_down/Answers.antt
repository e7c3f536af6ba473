use Rattle.std.proofs.Common.{◌≡◌, [], ◌∷◌, ◌++◌, ◌-◌, sym, ap, ◌∙◌, append_assoc, arith}
use Rattle.zarrs_metadata.specs.Conversion.{count_down}
use Rattle.zarrs_metadata.proofs.FilterLemmas.{count_down_step}
use Rattle.zarrs_metadata.proofs.conversion.count_down.Goals as goal

pub loop-left-preserved : goal.loop-left-preserved
loop-left-preserved c =
    let l = c.loop-left in
    let next = l.left - 1 in
    let step : count_down l.left ≡ next ∷ count_down next = count_down_step l.left next (omega arith) in
    l.invariant ∙ ap (λ r. l.numbers.items ++ r) step ∙ sym (append_assoc l.numbers.items (next ∷ []) (count_down next)) ∙ ap (λ r. r ++ count_down next) (sym c.in_ok-push.ensures.items)
