use Rattle.std.proofs.Common.{◌≡◌, ◌==◌, ◌+◌, length, drop, map}
use Rattle.std.specs.List.{slice_split}
use Rattle.zarrs_script.specs.Script.{orders_from, orders_of}
use Rattle.zarrs_script.specs.Parsed.{order_of_command}
use Rattle.zarrs_script.proofs.Lines.{with_orders}
use Rattle.zarrs_script.proofs.parse.commands_of.Given as goal

abbrev pub invariant-loop-line : goal.invariant-loop-line
invariant-loop-line l = record {
  counted : l.number ≡ length l.yielded;
  read : with_orders (map order_of_command l.commands.items) (orders_from (l.number + 1) l.known (drop (length l.yielded) (slice_split (λ b. b == 10) l.script))) ≡ orders_of l.script;
}
