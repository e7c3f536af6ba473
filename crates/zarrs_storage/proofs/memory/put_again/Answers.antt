use Rattle.std.proofs.Common.{rules}
use Rattle.zarrs_storage.proofs.MemoryLemmas.{inserted}
use Rattle.zarrs_storage.proofs.memory.put_again.Goals as goal

pub returns-in-Some-clause-ok : goal.returns-in-Some-clause-ok
returns-in-Some-clause-ok c =
    inserted c.args.values.now (c.get_mut.follows.lender c.args.value) c.args.key.now c.args.value ((c.get_mut.follows.holds c.args.value).3 (search rules))
