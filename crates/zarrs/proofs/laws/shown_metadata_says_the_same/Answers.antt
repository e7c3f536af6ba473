use Rattle.zarrs_creation.proofs.Names.{shown_says_the_same}
use Rattle.zarrs.proofs.laws.shown_metadata_says_the_same.Goals as goal

pub returns : goal.returns
returns c = shown_says_the_same
