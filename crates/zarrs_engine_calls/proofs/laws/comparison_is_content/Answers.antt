use Rattle.zarrs_engine_calls.proofs.Comparisons.{comparison_is_content}
use Rattle.zarrs_engine_calls.proofs.laws.comparison_is_content.Goals as goal

pub returns : goal.returns
returns c = comparison_is_content
