use Rattle.zarrs_directory.proofs.ExcerptLemmas.{shown}
use Rattle.zarrs_directory.proofs.excerpts.Excerpts.find.Goals as goal

pub returns : goal.returns
returns g c = shown c.args.self.now c.args.key.now c.get.result c.get.ensures.value
