use Rattle.std.proofs.Common.{rules}
use Rattle.zarrs_directory.proofs.StoreLemmas.{entered}
use Rattle.zarrs_directory.proofs.held.insert_value.Goals as goal

pub returns-clause-ok : goal.returns-clause-ok
returns-clause-ok c =
    entered c.args.values.now c.insert.new.self c.args.key.now c.args.value.now c.in_ok-key.key c.in_ok-value.value
    (search (rules, c.in_ok-insert.ensures.updates)) c.in_ok-key.ensures.cases c.in_ok-value.ensures.cases
