use Rattle.std.proofs.Common.{◌∙◌}
use Rattle.zarrs_metadata_parts.specs.Lists.{sizes_of}
use Rattle.zarrs_creation.proofs.Grids.{chunks_back}
use Rattle.zarrs_creation.proofs.changes.regrid.Goals as goal
use Rattle.zarrs_creation.proofs.changes.regrid.Goals.{in-V3, in-V2+in_ok-chunks-in-V2}

pub returns-clause-grid : goal.returns-clause-grid
returns-clause-grid c =
    let grid = c.in_ok-grid in
    elim c.match-metadata.branch [
      | in-V3 w ↦ rw w.metadata-is (rw c.deref-2.ensures.value at grid.ensures.said.made)
      | in-V2+in_ok-chunks-in-V2 w ↦ rw w.metadata-is (chunks_back grid.grid (sizes_of w.in_ok-chunks-in-V2.chunks.items) c.args.shape.items w.in_ok-chunks-in-V2.ensures.said (grid.ensures.shape ∙ c.deref-2.ensures.value))
    ]
