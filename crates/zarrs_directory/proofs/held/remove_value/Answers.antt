use Rattle.zarrs_storage.proofs.MemoryLemmas.{removed}
use Rattle.zarrs_directory.proofs.held.remove_value.Goals as goal

pub returns : goal.returns
returns c = removed c.args.values.now c.remove.new.self c.args.key.now c.remove.ensures.updates
