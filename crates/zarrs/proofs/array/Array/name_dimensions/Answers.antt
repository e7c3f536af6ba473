use Rattle.zarrs_metadata.specs.Versions.{metadata_view}
use Rattle.zarrs.specs.Agreement.{meaning_of}
use Rattle.zarrs.proofs.Named.{named_or_not}
use Rattle.zarrs.proofs.array.Array.name_dimensions.Goals as goal

pub invariant_of-self : goal.invariant_of-self
invariant_of-self g c = record {
  agrees = named_or_not c.name_dimensions.result _ (metadata_view c.args.self.now.metadata) (metadata_view c.name_dimensions.new.metadata) (meaning_of c.args.self.now.engine) c.args.self.now.agrees
      c.name_dimensions.ensures.named c.name_dimensions.ensures.accepted c.name_dimensions.ensures.untouched;
}
