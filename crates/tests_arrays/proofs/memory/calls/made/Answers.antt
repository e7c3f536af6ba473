use Rattle.std.proofs.Common.{refl}
use Rattle.zarrs_engine_calls.proofs.OpenStores.{may_ask_calls}
use Rattle.tests_arrays.proofs.memory.calls.made.Goals as goal

pub replay-requires : goal.replay-requires
replay-requires c = may_ask_calls _ _ _ (λ key. refl) (λ key place. refl)
