use Rattle.std.proofs.Common.{arith, ◌≡◌, ◌+◌, ◌≤◌, length, ◌∙◌}
use Rattle.zarrs_subset.proofs.Kernel.{length_part}
use Rattle.zarrs_subset.proofs.RunLemmas.{run_copied}
use Rattle.zarrs_subset.proofs.runs.copy_run.Goals as goal

pub returns-then-this-gt0 : goal.returns-then-this-gt0
returns-then-this-gt0 g c =
    let known : c.args.len ≡ g.row.N = c.requires.known c.if-this-gt0.true in
    let room : c.args.to + g.row.N ≤ length c.args.target.now = omega arith in
    rw known (run_copied _ _ _ _ _ _ _ (omega arith) room c.copy_from_slice.ensures.after
    (c.copy_from_slice.ensures.len ∙ length_part _ _ _ room))

pub returns-else-this-gt0 : goal.returns-else-this-gt0
returns-else-this-gt0 g c =
    run_copied _ _ _ _ _ _ _ (omega arith) c.requires.target_room c.copy_from_slice-else-this-gt0.ensures.after
    (c.copy_from_slice-else-this-gt0.ensures.len ∙ length_part _ _ _ c.requires.target_room)
