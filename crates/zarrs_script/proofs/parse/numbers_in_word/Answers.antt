use Rattle.std.proofs.Common.{◌≡◌, ◌==◌, ℕ, List, false, length, ap, sym, subst, ◌∙◌, rules}
use Rattle.std.specs.Str.{bytes_eq}
use Rattle.std.specs.List.{slice_split}
use Rattle.std.specs.Slice.Iter as slice
use Rattle.std.proofs.lemmas.List.{length_push}
use Rattle.std.proofs.lemmas.Iterator.Splits.{YieldsList-from_slice_split}
use Rattle.zarrs_script.specs.Words.{number_of, each_of}
use Rattle.zarrs_script.proofs.Lists.{turn, ended, one_number, no_number, all_numbers, items_joined}
use Rattle.zarrs_script.proofs.parse.numbers_in_word.Goals as goal

pub returns-in_default : goal.returns-in_default
returns-in_default c =
    let same = c.into_iter-item-iterator.ensures.into_iter_gives in
    let t = turn c.loop-item.yielded _ c.loop-item.yielded_by _ _ c.in-Some.item c.in-Some.is c.next.ensures.steps (YieldsList-from_slice_split _ (λ b. b == 44) c.args.word.now (ap slice.split_rest same ∙ c.split-item-items.ensures.rest) (ap slice.split_done same ∙ c.split-item-items.ensures.done) (ap slice.split_callee same ∙ c.split-item-items.ensures.closure) (λ x b q h. search rules)) in
    ap (each_of number_of) (items_joined c.args.word.now (subst (λ (dash : List ℕ). bytes_eq c.args.word.now dash ≡ false) c.as_slice.ensures (sym c.if-eq.ensures))) ∙ sym c.loop-item.invariant ∙ no_number number_of c.loop-item.numbers.items (slice_split (λ b. b == 44) c.args.word.now) (length c.loop-item.yielded) c.in-Some.item.now t (sym c.in_default.ensures)

pub loop-item-preserved : goal.loop-item-preserved
loop-item-preserved c =
    let same = c.into_iter-item-iterator.ensures.into_iter_gives in
    let t = turn c.loop-item.yielded _ c.loop-item.yielded_by _ _ c.in-Some.item c.in-Some.is c.next.ensures.steps (YieldsList-from_slice_split _ (λ b. b == 44) c.args.word.now (ap slice.split_rest same ∙ c.split-item-items.ensures.rest) (ap slice.split_done same ∙ c.split-item-items.ensures.done) (ap slice.split_callee same ∙ c.split-item-items.ensures.closure) (λ x b q h. search rules)) in
    rw (c.in_ok-push.ensures.items, length_push c.loop-item.yielded c.in-Some.item)
    (sym (one_number number_of c.loop-item.numbers.items (slice_split (λ b. b == 44) c.args.word.now) (length c.loop-item.yielded) c.in-Some-number_of.number c.in-Some.item.now t (sym c.in-Some-number_of.ensures)) ∙ c.loop-item.invariant)

pub returns : goal.returns
returns c =
    let same = c.into_iter-item-iterator.ensures.into_iter_gives in
    let t = ended c.loop-item.yielded _ c.loop-item.yielded_by _ _ c.in-None.is c.next.ensures.steps (YieldsList-from_slice_split _ (λ b. b == 44) c.args.word.now (ap slice.split_rest same ∙ c.split-item-items.ensures.rest) (ap slice.split_done same ∙ c.split-item-items.ensures.done) (ap slice.split_callee same ∙ c.split-item-items.ensures.closure) (λ x b q h. search rules)) in
    ap (each_of number_of) (items_joined c.args.word.now (subst (λ (dash : List ℕ). bytes_eq c.args.word.now dash ≡ false) c.as_slice.ensures (sym c.if-eq.ensures))) ∙ sym c.loop-item.invariant ∙ all_numbers number_of c.loop-item.numbers.items (slice_split (λ b. b == 44) c.args.word.now) (length c.loop-item.yielded) t
