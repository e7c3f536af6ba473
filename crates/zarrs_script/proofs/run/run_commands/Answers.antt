use Rattle.std.proofs.Common.{◌≡◌, false, List, [], ◌∷◌, map, length, None, ap, sym, subst, ◌∙◌, arith}
use Rattle.std.specs.Vec.Iter.{into_iter_items}
use Rattle.std.proofs.lemmas.Grind.{common_steps}
use Rattle.std.proofs.lemmas.List.{nil_from_length}
use Rattle.zarrs_script.specs.Script.{Order}
use Rattle.zarrs_script.specs.Parsed.{order_of_command}
use Rattle.zarrs_script.specs.Sessions.{session_of}
use Rattle.zarrs_script.proofs.Printing.{puts_pending, puts_more, puts_spilled, all_written}
use Rattle.zarrs_script.proofs.Lines.{HasDone, none_done, order_done, all_done}
use Rattle.zarrs_script.proofs.run.run_commands.Goals as goal

pub loop-command-init : goal.loop-command-init
loop-command-init g c =
    let all = map order_of_command c.args.commands.items in
    let gives = c.into_iter-command-iterator.ensures.into_iter_gives in
    let same = ap (map order_of_command) (sym gives.0) in
    record {
      done = puts_pending (g.W.Write.contents c.args.writer.now) [] c.new-out.result.items [] c.new-out.ensures.items (subst (λ (left : List Order). HasDone all left [] false None) same (none_done all));
      long = grind (arith, common_steps, gives.0, gives.1);
    }

pub loop-command-preserved : goal.loop-command-preserved
loop-command-preserved g c =
    let l = c.loop-command in
    let all = map order_of_command c.args.commands.items in
    let order = order_of_command c.in-Some.command in
    let left = map order_of_command (into_iter_items c.next.new.self) in
    let next : map order_of_command (into_iter_items l.command-iterator) ≡ order ∷ left = ap (map order_of_command) c.in-Some.ensures.steps.0 in
    let done = puts_more (g.W.Write.contents c.args.writer.now) (g.W.Write.contents l.writer) (g.W.Write.contents c.run_command.new.writer) [] l.out.items c.run_command.new.out.items l.invariant.done c.in_ok-refused.ensures
    (λ first second before does. order_done all left order first second l.refused c.in_ok-refused.field-0 (session_of l.array) (session_of c.run_command.new.array)
    (subst (λ (orders : List Order). HasDone all orders first l.refused (session_of l.array)) next before) does) in
    record {
      done = puts_spilled (g.W.Write.contents c.args.writer.now) (g.W.Write.contents c.run_command.new.writer) (g.W.Write.contents c.write_pending.new.writer) [] c.run_command.new.out.items c.write_pending.new.out.items done c.in_ok-write_pending.ensures;
      long = (let was = l.invariant.long in let gone = c.in-Some.ensures.steps.1 in let short = ap length c.in-Some.ensures.steps.0 in omega arith);
    }

pub returns : goal.returns
returns g c =
    let l = c.loop-command in
    let all = map order_of_command c.args.commands.items in
    let long : length (into_iter_items l.command-iterator) ≡ 0 = sym l.invariant.long ∙ c.in-None.ensures.steps.0 in
    let none : map order_of_command (into_iter_items l.command-iterator) ≡ [] = ap (map order_of_command) (nil_from_length _ long) in
    let written = all_written (g.W.Write.contents c.args.writer.now) (g.W.Write.contents l.writer) (g.W.Write.contents c.write_all.new.self) l.out.items l.invariant.done (rw c.deref.ensures.value at c.in_ok-write_all.ensures.bytes) in (
      written.0,
      written.1,
      all_done all written.0 l.refused (session_of l.array) (subst (λ (orders : List Order). HasDone all orders written.0 l.refused (session_of l.array)) none written.2),
    )
