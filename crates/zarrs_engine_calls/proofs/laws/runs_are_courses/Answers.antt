use Rattle.zarrs_engine_calls.proofs.Steps.{runs_are_courses, step_event}
use Rattle.zarrs_engine_calls.proofs.laws.runs_are_courses.Goals as goal

pub returns-clause-steps : goal.returns-clause-steps
returns-clause-steps c = step_event

pub returns-clause-runs : goal.returns-clause-runs
returns-clause-runs c = runs_are_courses
