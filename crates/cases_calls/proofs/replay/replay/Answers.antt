use Rattle.std.proofs.Common.{refl}
use Rattle.cases_calls.proofs.OpenStores.{may_ask_calls}
use Rattle.cases_calls.proofs.replay.replay.Goals as goal

pub replay-requires : goal.replay-requires
replay-requires g = may_ask_calls _ _ _ (λ key. refl) (λ key place. refl)
