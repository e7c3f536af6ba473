use Rattle.std.proofs.Common.{sym, ◌∙◌}
use Rattle.zarrs_script.proofs.Bytes.{one_byte}
use Rattle.zarrs_script.proofs.parse.push_bytes.Goals as goal

pub loop-preserved : goal.loop-preserved
loop-preserved c = rw c.in_ok-push.ensures.items (sym (one_byte c.loop.cells.items c.args.count c.loop.counter c.loop.rest c.loop-test.true) ∙ c.loop.invariant)
