use Rattle.std.proofs.Common.{[], ◌∷◌}
use Rattle.zarrs_subset.specs.Strides.{RunsCopied}
use Rattle.zarrs_subset.proofs.runs.copy_rows.Given as goal

abbrev pub invariant-loop-row : goal.invariant-loop-row
invariant-loop-row g l =
    RunsCopied (record { count = l.row; source_step = l.rows.source_step; target_step = l.rows.target_step } ∷ [])
    l.len l.from l.to l.source l.initial.target l.target
