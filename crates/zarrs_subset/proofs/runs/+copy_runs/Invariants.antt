use Rattle.std.proofs.Common.{length, ◌∷◌}
use Rattle.zarrs_subset.specs.Strides.{RunsCopied}
use Rattle.zarrs_subset.proofs.runs.+copy_runs.Given as goal

abbrev pub decreases-copy_runs : goal.decreases-copy_runs
decreases-copy_runs g l = length l.strides.now

abbrev pub invariant-loop-index : goal.invariant-loop-index
invariant-loop-index g l =
    RunsCopied (record { count = l.index; source_step = l.outer.source_step; target_step = l.outer.target_step } ∷ l.inner)
    l.len l.from l.to l.source l.initial.target l.target
