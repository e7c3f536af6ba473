use Rattle.std.proofs.Common.{arith, refl, ◌≡◌}
use Rattle.zarrs_subset.proofs.RunLemmas.{runs_more}
use Rattle.zarrs_subset.proofs.runs.copy_rows.Goals as goal

pub loop-row-preserved : goal.loop-row-preserved
loop-row-preserved g c =
    runs_more _ _ _ _ _ _ _ _ _ _ _ _ _ refl refl c.requires.apart.0.1 c.loop-row.invariant c.copy_run.ensures

pub returns : goal.returns
returns g c =
    let all : c.loop-row.row ≡ c.args.rows.count = omega arith in
    rw all at c.loop-row.invariant
