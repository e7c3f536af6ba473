use Rattle.std.proofs.Common.{ap, ◌∙◌, eqb}
use Rattle.std.specs.List.{list_all, list_any}
use Rattle.std.proofs.lemmas.List.{take_all}
use Rattle.zarrs_codec_array.proofs.Marks.{marked-all}
use Rattle.zarrs_codec_array.proofs.lists.is_order.Goals as goal

pub returns : goal.returns
returns c =
    let order = c.args.order.now in
    c.are_all.ensures ∙ ap (list_all (λ b. b)) c.deref.ensures.value
    ∙ marked-all order c.loop-number.found.items c.loop-number.invariant.0
    (λ j lt. c.loop-number.invariant.1 j lt ∙ ap (list_any (λ k. eqb k j)) (take_all c.loop-number.number-index order c.loop-number-test.false))
