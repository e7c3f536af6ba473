use Rattle.std.proofs.Common.{ap, ◌∙◌}
use Rattle.zarrs_data_type_kinds.specs.Kind.{kind}
use Rattle.zarrs_data_type_kinds.specs.TypeMetadata.{kind_of}
use Rattle.zarrs_data_type_kinds.proofs.TypeReading.{kind_of-extension}
use Rattle.zarrs_data_type_kinds.proofs.data_type.DataType.metadata.Goals as goal

pub returns-clause-reads_back : goal.returns-clause-reads_back
returns-clause-reads_back c = λ readable. ap kind_of c.in_ok-metadata.ensures ∙ kind_of-extension (kind c.args.self.now) readable
