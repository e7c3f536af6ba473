use Rattle.zarrs_directory.proofs.StoreLemmas.{unnoted_keys}
use Rattle.zarrs_directory.proofs.held.unnote.Goals as goal

pub returns-clause-keys : goal.returns-clause-keys
returns-clause-keys c = unnoted_keys c.args.read.now c.remove.new.self c.args.key.now c.remove.ensures.updates
