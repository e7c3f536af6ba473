use Rattle.std.proofs.Common.{rules}
use Rattle.zarrs_directory.proofs.StoreLemmas.{noted_keys}
use Rattle.zarrs_directory.proofs.held.note.Goals as goal

pub returns-clause-keys : goal.returns-clause-keys
returns-clause-keys c =
    noted_keys c.args.read.now c.insert.new.self c.args.key.now c.in_ok-key.key (search (rules, c.in_ok-insert.ensures.updates)) c.in_ok-key.ensures.cases
