use Rattle.std.proofs.Common.{◌++◌, ◌∷◌, [], cond, take, get_or, sym, ap, ◌∙◌}
use Rattle.std.proofs.lemmas.Bool.{eq-eqb}
use Rattle.zarrs_subset.specs.Boxes.{without_ones}
use Rattle.zarrs_subset.proofs.Ones.{without_ones_more, not_one}
use Rattle.zarrs_subset.proofs.lists.without_ones.Goals.{then-shape-axis-ne1+in_ok-push, else-shape-axis-ne1}
use Rattle.zarrs_subset.proofs.lists.without_ones.Goals as goal

pub loop-axis-preserved : goal.loop-axis-preserved
loop-axis-preserved c =
    let s = c.args.shape.now in
    let ys = c.args.numbers.now in
    let i = c.loop-axis.axis in
    let front = without_ones (take i s) ys in
    let n = get_or s i 0 in
    let y = get_or ys i 0 in
    let more = without_ones_more s ys i c.loop-axis-test.true c.requires in
    elim c.if-shape-axis-ne1.branch [
      | then-shape-axis-ne1+in_ok-push w ↦
          ap (λ v. v.items) w.made-is ∙ w.in_ok-push.ensures.items ∙ ap (λ l. l ++ y ∷ []) c.loop-axis.invariant
          ∙ sym (more ∙ ap (λ b. cond b front (front ++ y ∷ [])) (not_one n w.if-shape-axis-ne1.true))
      | else-shape-axis-ne1 w ↦
          ap (λ v. v.items) w.made-is ∙ c.loop-axis.invariant
          ∙ sym (more ∙ ap (λ b. cond b front (front ++ y ∷ [])) (eq-eqb n 1 w.if-shape-axis-ne1.false))
    ]
