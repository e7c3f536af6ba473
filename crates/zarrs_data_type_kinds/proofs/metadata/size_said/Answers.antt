use Rattle.std.proofs.Common.{ap}
use Rattle.std.specs.Prelude.{option_and_then}
use Rattle.zarrs_data_type_kinds.specs.TypeMetadata.{size_of_bits}
use Rattle.zarrs_data_type_kinds.proofs.TypeNames.{number_said-not_utf8}
use Rattle.zarrs_data_type_kinds.proofs.metadata.size_said.Goals as goal

pub returns-in-Err : goal.returns-in-Err
returns-in-Err c = ap (option_and_then size_of_bits) (number_said-not_utf8 c.args.digits.now c.in-Err.ensures.cases.0)
