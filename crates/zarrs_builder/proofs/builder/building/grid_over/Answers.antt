use Rattle.zarrs_builder.proofs.builder.building.grid_over.Goals as goal

pub returns-clause-made : goal.returns-clause-made
returns-clause-made c = rw c.in_ok-metadata.ensures.made c.grid_from.ensures.said.made

pub returns-clause-refused : goal.returns-clause-refused
returns-clause-refused c = rw c.in_ok-metadata.ensures.made c.grid_from.ensures.said.refused
