use Rattle.std.proofs.Common.{◌==◌, ◌+◌, ◌∷◌, [], ℕ, length, map, refl, ap, sym, ◌∙◌, rules, arith}
use Rattle.std.specs.List.{slice_split}
use Rattle.std.specs.Slice.Iter as slice
use Rattle.std.proofs.lemmas.List.{length_push, map-append}
use Rattle.std.proofs.lemmas.Iterator.Splits.{YieldsList-from_slice_split}
use Rattle.std.proofs.lemmas.List.Splits.{length-slice_split}
use Rattle.std.proofs.lemmas.List.Sums.{count_by-le-length}
use Rattle.zarrs_script.specs.Parsed.{order_of_command}
use Rattle.zarrs_script.specs.Script.{orders_of}
use Rattle.zarrs_script.proofs.Lists.{turn, ended}
use Rattle.zarrs_script.proofs.Lines.{from_none, line_skipped, line_read, line_unread, all_lines}
use Rattle.zarrs_script.proofs.parse.commands_of.Goals as goal

pub loop-line-init : goal.loop-line-init
loop-line-init c = record { counted = refl; read = rw c.new-commands.ensures.items (from_none (orders_of c.args.script.now)) }

pub overflow_add-number : goal.overflow_add-number
overflow_add-number c =
    let same = c.into_iter-line-iterator.ensures.into_iter_gives in
    let t = turn c.loop-line.yielded _ c.loop-line.yielded_by _ _ c.in-Some.line c.in-Some.is c.next.ensures.steps (YieldsList-from_slice_split _ (λ b. b == 10) c.args.script.now (ap slice.split_rest same ∙ c.split-line-items.ensures.rest) (ap slice.split_done same ∙ c.split-line-items.ensures.done) (ap slice.split_callee same ∙ c.split-line-items.ensures.closure) (λ x b q h. search rules)) in
    let lt = t.0 in
    let is = c.loop-line.invariant.counted in
    let pieces = length-slice_split (λ b. b == 10) c.args.script.now in
    let few = count_by-le-length (λ b. b == 10) c.args.script.now in
    omega arith

pub loop-line-preserved-then-is_skipped : goal.loop-line-preserved-then-is_skipped
loop-line-preserved-then-is_skipped c =
    let same = c.into_iter-line-iterator.ensures.into_iter_gives in
    let t = turn c.loop-line.yielded _ c.loop-line.yielded_by _ _ c.in-Some.line c.in-Some.is c.next.ensures.steps (YieldsList-from_slice_split _ (λ b. b == 10) c.args.script.now (ap slice.split_rest same ∙ c.split-line-items.ensures.rest) (ap slice.split_done same ∙ c.split-line-items.ensures.done) (ap slice.split_callee same ∙ c.split-line-items.ensures.closure) (λ x b q h. search rules)) in
    let i = c.loop-line in
    let more = length_push i.yielded c.in-Some.line in
    record {
      counted = ap (λ (n : ℕ). n + 1) i.invariant.counted ∙ sym more;
      read = rw more (sym (line_skipped (map order_of_command i.commands.items) (i.number + 1) i.known (slice_split (λ b. b == 10) c.args.script.now) (length i.yielded) c.in-Some.line.now t (sym c.if-is_skipped.ensures)) ∙ i.invariant.read);
    }

pub loop-line-preserved : goal.loop-line-preserved
loop-line-preserved c =
    let same = c.into_iter-line-iterator.ensures.into_iter_gives in
    let t = turn c.loop-line.yielded _ c.loop-line.yielded_by _ _ c.in-Some.line c.in-Some.is c.next.ensures.steps (YieldsList-from_slice_split _ (λ b. b == 10) c.args.script.now (ap slice.split_rest same ∙ c.split-line-items.ensures.rest) (ap slice.split_done same ∙ c.split-line-items.ensures.done) (ap slice.split_callee same ∙ c.split-line-items.ensures.closure) (λ x b q h. search rules)) in
    let i = c.loop-line in
    let more = length_push i.yielded c.in-Some.line in
    record {
      counted = ap (λ (n : ℕ). n + 1) i.invariant.counted ∙ sym more;
      read = rw (c.in-Ok-push.ensures.items, map-append order_of_command i.commands.items (c.in-Ok.command ∷ []), more, c.type_after-known.ensures)
          (sym (line_read (map order_of_command i.commands.items) (i.number + 1) i.known (slice_split (λ b. b == 10) c.args.script.now) (length i.yielded) c.in-Some.line.now t (sym c.if-is_skipped.ensures) (order_of_command c.in-Ok.command) c.in-Ok.ensures) ∙ i.invariant.read);
    }

pub returns-in-Err-NotACommand : goal.returns-in-Err-NotACommand
returns-in-Err-NotACommand c =
    let same = c.into_iter-line-iterator.ensures.into_iter_gives in
    let t = turn c.loop-line.yielded _ c.loop-line.yielded_by _ _ c.in-Some.line c.in-Some.is c.next.ensures.steps (YieldsList-from_slice_split _ (λ b. b == 10) c.args.script.now (ap slice.split_rest same ∙ c.split-line-items.ensures.rest) (ap slice.split_done same ∙ c.split-line-items.ensures.done) (ap slice.split_callee same ∙ c.split-line-items.ensures.closure) (λ x b q h. search rules)) in
    let i = c.loop-line in
    let none = c.in-Err-NotACommand.ensures in
    sym i.invariant.read ∙ line_unread (map order_of_command i.commands.items) (i.number + 1) i.known (slice_split (λ b. b == 10) c.args.script.now) (length i.yielded) c.in-Some.line.now t (sym c.if-is_skipped.ensures) (rw c.in-Err-NotACommand.field-0-is at none)

pub returns : goal.returns
returns c =
    let same = c.into_iter-line-iterator.ensures.into_iter_gives in
    let t = ended c.loop-line.yielded _ c.loop-line.yielded_by _ _ c.in-None.is c.next.ensures.steps (YieldsList-from_slice_split _ (λ b. b == 10) c.args.script.now (ap slice.split_rest same ∙ c.split-line-items.ensures.rest) (ap slice.split_done same ∙ c.split-line-items.ensures.done) (ap slice.split_callee same ∙ c.split-line-items.ensures.closure) (λ x b q h. search rules)) in
    let i = c.loop-line in
    sym i.invariant.read ∙ all_lines (map order_of_command i.commands.items) (i.number + 1) i.known (slice_split (λ b. b == 10) c.args.script.now) (length i.yielded) t
