use Rattle.zarrs_engine_calls.proofs.Compactions.{compactions_keep_content}
use Rattle.zarrs_engine_calls.proofs.laws.compactions_keep_content.Goals as goal

pub returns : goal.returns
returns c = compactions_keep_content
