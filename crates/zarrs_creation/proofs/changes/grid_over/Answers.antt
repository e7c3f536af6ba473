use Rattle.zarrs_creation.proofs.changes.grid_over.Goals as goal

pub returns-in-V3-clause-said : goal.returns-in-V3-clause-said
returns-in-V3-clause-said c = rw c.in-V3.is c.grid_from.ensures.said
