use Rattle.std.proofs.Common.{ℕ, List, subst}
use Rattle.zarrs.specs.Outcomes.{ErasesEncodedOrRefuses}
use Rattle.zarrs.specs.PartialEncoders.{array_of_encoder}
use Rattle.zarrs.proofs.array.partial_encoder.ArrayPartialEncoder.erase.Goals as goal

pub returns-clause-erases : goal.returns-clause-erases
returns-clause-erases g c =
    subst (λ (index : List ℕ). ErasesEncodedOrRefuses g.TStorage.ReadableStorageTraits.state index (array_of_encoder c.args.self.now) c.erase_encoded.new.self c.erase_encoded.result)
    c.deref.ensures.value c.erase_encoded.ensures
