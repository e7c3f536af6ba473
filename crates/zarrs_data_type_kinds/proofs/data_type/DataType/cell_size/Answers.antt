use Rattle.std.proofs.Common.{ap, ◌∙◌}
use Rattle.std.specs.Prelude.{unwrap_or}
use Rattle.zarrs_data_type_kinds.specs.Kind.{kind}
use Rattle.zarrs_data_type_kinds.proofs.Sizes.{cell_size-fixed}
use Rattle.zarrs_data_type_kinds.proofs.data_type.DataType.cell_size.Goals as goal

pub returns : goal.returns
returns c = c.unwrap_or.ensures ∙ ap (λ o. unwrap_or o 1) c.fixed_size.ensures ∙ cell_size-fixed (kind c.args.self.now)
