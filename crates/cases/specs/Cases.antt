-- How many of the lines of a file are cases.
use Rattle.std.specs.Prelude.{ℕ, List, Bool, true, false, count_by}
use Rattle.cases_lines.specs.declared.call.Line.{Line}
use Rattle.cases_lines.specs.declared.call.Step.{Step}
use Rattle.cases_lines.specs.declared.call.Step.TheVariants as step

-- a call, with the answer that it must give
abbrev pub is_call : Step → Bool
is_call (step.Call _) = true
is_call step.End = false
is_call (step.Setting _) = false
is_call (step.With _ _) = false
is_call (step.Effect _) = false

abbrev pub case_count : List Line → ℕ
case_count lines = count_by (λ line. is_call line.step) lines
