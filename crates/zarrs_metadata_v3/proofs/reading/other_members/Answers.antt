use Rattle.zarrs_metadata_v3.proofs.reading.other_members.Goals as goal

pub returns : goal.returns
returns c = c.take-parts.ensures.left
