use Rattle.std.proofs.Common.{arith}
use Rattle.zarrs_metadata.proofs.FilterLemmas.{other_filters}
use Rattle.zarrs_metadata.proofs.conversion.are_filters_of.Goals as goal

pub returns-in_default : goal.returns-in_default
returns-in_default c =
    other_filters c.args.kind c.args.items.now (λ none. omega (arith, c.in_default.len_at_least, none)) (λ one. omega (arith, c.in_default.len_at_least, one))
