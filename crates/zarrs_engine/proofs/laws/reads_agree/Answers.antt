use Rattle.zarrs_engine.proofs.ReadLaws.{parts_agree, targets_agree}
use Rattle.zarrs_engine.proofs.laws.reads_agree.Goals as goal

pub returns-clause-targets : goal.returns-clause-targets
returns-clause-targets c = targets_agree

pub returns-clause-parts : goal.returns-clause-parts
returns-clause-parts c = parts_agree
