use Rattle.zarr_cells.specs.Lines.{PassesBlanks}
use Rattle.zarr_cells.proofs.lines.read_token.Given as goal

abbrev pub invariant-loop-turn : goal.invariant-loop-turn
invariant-loop-turn g l = PassesBlanks l.is_first (g.R.Read.remaining l.initial.input) (g.R.Read.remaining l.input)
