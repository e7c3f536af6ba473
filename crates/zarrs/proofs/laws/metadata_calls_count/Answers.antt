use Rattle.zarrs.proofs.Counts.{storing, erasing, upgrading}
use Rattle.zarrs.proofs.laws.metadata_calls_count.Goals as goal

pub returns-clause-stores : goal.returns-clause-stores
returns-clause-stores c = storing

pub returns-clause-erases : goal.returns-clause-erases
returns-clause-erases c = erasing

pub returns-clause-upgrades : goal.returns-clause-upgrades
returns-clause-upgrades c = upgrading
