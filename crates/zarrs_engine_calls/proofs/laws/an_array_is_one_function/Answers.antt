use Rattle.zarrs_engine_calls.proofs.Headline.{one_function, runs_one}
use Rattle.zarrs_engine_calls.proofs.Patched.{patched_runs_one}
use Rattle.zarrs_engine_calls.proofs.Steps.{courses_agree}
use Rattle.zarrs_engine_calls.proofs.laws.an_array_is_one_function.Goals as goal

pub returns-clause-changes : goal.returns-clause-changes
returns-clause-changes c = one_function

pub returns-clause-runs : goal.returns-clause-runs
returns-clause-runs c = runs_one

pub returns-clause-patched : goal.returns-clause-patched
returns-clause-patched c = patched_runs_one

pub returns-clause-bytes : goal.returns-clause-bytes
returns-clause-bytes c = courses_agree
