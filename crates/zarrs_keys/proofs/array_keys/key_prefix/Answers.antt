-- the names are not empty
use Rattle.std.proofs.Common.{ap, sym, ◌∙◌, rules}
use Rattle.zarrs_keys.specs.Paths.{with_slash}
use Rattle.zarrs_keys.proofs.StoreKeyLemmas.{with_slash_some}
use Rattle.zarrs_keys.proofs.array_keys.key_prefix.Goals as goal

pub returns-clause-text : goal.returns-clause-text
returns-clause-text c =
    let some = with_slash_some c.relative-names.result.now (sym c.is_empty.ensures ∙ c.if-is_empty.false) in
    let e = ap with_slash (sym c.relative-names.ensures.text) ∙ some in
    rw e (search rules)
