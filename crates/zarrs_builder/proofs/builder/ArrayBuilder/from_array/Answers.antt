use Rattle.std.proofs.Common.{rules}
use Rattle.zarrs_builder.proofs.Fields.{same_parts}
use Rattle.zarrs_builder.proofs.builder.ArrayBuilder.from_array.Goals as goal

pub returns-clause-made : goal.returns-clause-made
returns-clause-made g c = same_parts _ _ _ _ _ _ _ _ _ _ _ _ _ _ _ _ _ _ _ _ _ _ _ _ (search rules) (search rules) (search rules) (search rules) (search rules) (search rules) (search rules) (search rules) (search rules) (search rules) (search rules) (search rules)
