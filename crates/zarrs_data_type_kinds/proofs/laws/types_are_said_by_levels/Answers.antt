use Rattle.zarrs_data_type_kinds.proofs.TypeReading.{kind_of-unfolds}
use Rattle.zarrs_data_type_kinds.proofs.laws.types_are_said_by_levels.Goals as goal

pub returns : goal.returns
returns c = kind_of-unfolds
