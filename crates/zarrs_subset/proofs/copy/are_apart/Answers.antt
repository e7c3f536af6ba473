use Rattle.std.proofs.Common.{rules, arith}
use Rattle.zarrs_subset.proofs.Nothing.{apart}
use Rattle.zarrs_subset.proofs.copy.are_apart.Goals as goal

pub returns-then-end-max-clause-apart : goal.returns-then-end-max-clause-apart
returns-then-end-max-clause-apart c = λ yes position inside.
    apart c.args.start.now c.args.shape.now c.args.other_start.now c.args.other_shape.now position c.loop-k.k
    c.requires.long c.requires.other_long c.requires.dimensions (search rules) (search rules) inside

pub returns-clause-met : goal.returns-clause-met
returns-clause-met c = λ j below. c.loop-k.invariant j (omega arith)
