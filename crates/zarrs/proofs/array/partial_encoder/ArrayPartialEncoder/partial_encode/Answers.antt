use Rattle.std.proofs.Common.{ℕ, List, subst}
use Rattle.zarrs_codec.specs.Options.{stores_empty_chunks}
use Rattle.zarrs_data_type.specs.ArrayData.{data_of}
use Rattle.zarrs.specs.Outcomes.{EncodesPartOrRefuses}
use Rattle.zarrs.specs.PartialEncoders.{array_of_encoder}
use Rattle.zarrs.proofs.array.partial_encoder.ArrayPartialEncoder.partial_encode.Goals as goal

pub returns-clause-encodes : goal.returns-clause-encodes
returns-clause-encodes g c =
    subst (λ (index : List ℕ). EncodesPartOrRefuses g.TStorage.ReadableStorageTraits.state (stores_empty_chunks c.args.options.now) index (g.R.ArraySubsetTraits.region c.args.chunk_subset.now)
    (data_of c.args.bytes.now) (array_of_encoder c.args.self.now) c.encode_part.new.self c.encode_part.result) c.deref.ensures.value c.encode_part.ensures
