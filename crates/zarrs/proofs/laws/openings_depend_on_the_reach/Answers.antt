use Rattle.zarrs.proofs.OpeningReach.{openings_depend}
use Rattle.zarrs.proofs.laws.openings_depend_on_the_reach.Goals as goal

pub returns : goal.returns
returns c = openings_depend
