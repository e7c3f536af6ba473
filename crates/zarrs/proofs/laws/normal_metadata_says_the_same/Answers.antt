use Rattle.zarrs.proofs.Trips.{normal_metadata_says}
use Rattle.zarrs.proofs.laws.normal_metadata_says_the_same.Goals as goal

pub returns : goal.returns
returns c = normal_metadata_says
