use Rattle.std.proofs.Common.{◌∙◌, sym}
use Rattle.zarrs_data_type_kinds.specs.Kind.{kind}
use Rattle.zarrs_data_type_kinds.specs.Same.{kind_eq-Decides}
use Rattle.zarrs_data_type_kinds.proofs.data_type.DataTypePartialEq.eq.Goals as goal

pub returns-clause-same_type : goal.returns-clause-same_type
returns-clause-same_type c =
    let decides = kind_eq-Decides (kind c.args.self.now) (kind c.args.other.now) in
    (λ yes. decides.0 (sym c.is_same.ensures ∙ yes), λ same. c.is_same.ensures ∙ decides.1 same)
