use Rattle.std.proofs.Common.{◌≡◌, [], map, length}
use Rattle.std.specs.Vec.Iter.{into_iter_items, into_iter_len}
use Rattle.zarrs_script.specs.Parsed.{order_of_command}
use Rattle.zarrs_script.specs.Sessions.{session_of, Puts}
use Rattle.zarrs_script.proofs.Lines.{HasDone}
use Rattle.zarrs_script.proofs.run.run_commands.Given as goal

-- what is left is still to be done
abbrev pub invariant-loop-command : goal.invariant-loop-command
invariant-loop-command g l = record {
  done : Puts (g.W.Write.contents l.fn.writer) (g.W.Write.contents l.writer) [] l.out.items
      (λ text. HasDone (map order_of_command l.fn.commands.items) (map order_of_command (into_iter_items l.command-iterator)) text l.refused (session_of l.array));
  long : into_iter_len l.command-iterator ≡ length (into_iter_items l.command-iterator);
}
