use Rattle.std.proofs.Common.{rules, arith}
use Rattle.zarrs_chunk_grid.proofs.RegularLemmas.{past_extent}
use Rattle.zarrs_chunk_grid.proofs.dimension.bounded_interval.Goals as goal

pub returns-in_err-cut-clause-none : goal.returns-in_err-cut-clause-none
returns-in_err-cut-clause-none c =
    let start_is = rw c.get-step.ensures.value at c.in_ok-start.ensures.1 in
    let some = c.args.size.ok in
    let numbered = past_extent c.args.extent c.args.size.value c.args.number some (omega (arith, c.in_err-cut.ensures, c.in_ok-rest.ensures, c.get-step.ensures.value)) in
    search rules
