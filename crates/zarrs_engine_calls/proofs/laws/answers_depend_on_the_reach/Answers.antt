use Rattle.zarrs_engine_calls.proofs.Copied.{answers_depend}
use Rattle.zarrs_engine_calls.proofs.Places.{cells_depend_on_places, reads_depend_on_places}
use Rattle.zarrs_engine_calls.proofs.laws.answers_depend_on_the_reach.Goals as goal

pub returns-clause-keys : goal.returns-clause-keys
returns-clause-keys c = answers_depend

pub returns-clause-places : goal.returns-clause-places
returns-clause-places c = cells_depend_on_places

pub returns-clause-reads : goal.returns-clause-reads
returns-clause-reads c = reads_depend_on_places
