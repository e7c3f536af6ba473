use Rattle.std.proofs.Common.{refl}
use Rattle.zarrs_storage.specs.Memory.{open_state}
use Rattle.zarrs_engine.specs.Engine.{layout_of, state_of}
use Rattle.zarrs_engine_calls.proofs.OpenStores.{may_ask_calls}
use Rattle.tests_calls.proofs.histories.replayed.Goals as goal

pub replay-requires : goal.replay-requires
replay-requires g = may_ask_calls (layout_of g.args.engine.now) g.args.calls.now (state_of open_state g.args.engine.now) (λ key. refl) (λ key place. refl)
