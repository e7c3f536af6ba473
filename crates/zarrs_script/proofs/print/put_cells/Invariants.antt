use Rattle.std.proofs.Common.{◌≡◌}
use Rattle.std.specs.List.{join_with_byte}
use Rattle.zarrs_script.specs.Sessions.{Puts}
use Rattle.zarrs_script.proofs.Texts.{texts}
use Rattle.zarrs_script.proofs.print.put_cells.Given as goal

abbrev pub invariant-loop-index : goal.invariant-loop-index
invariant-loop-index g l = Puts (g.W.Write.contents l.fn.writer) (g.W.Write.contents l.writer) l.fn.out.items l.out.items (λ text. text ≡ join_with_byte 44 (texts l.cell_type l.bytes l.index))
