-- A store that may be asked anything.
use Rattle.std.proofs.Common.{◌≡◌, ℕ, true, List, [], ◌∷◌}
use Rattle.zarrs_engine_calls.specs.Layout.{ArrayState, Layout}
use Rattle.zarrs_engine_calls.specs.Reach.{MayAskCalls}
use Rattle.zarrs_engine_calls.specs.declared.call.Call.{Call}

-- any calls may be made over it
pub may_ask_calls : (layout : Layout) (calls : List Call) (state : ArrayState)
    → ((key : List ℕ) → state.store.may_ask key ≡ true) → ((key : List ℕ) (place : ℕ) → state.store.may_read key place ≡ true)
    → MayAskCalls layout calls state
may_ask_calls layout [] state keys places = tt
may_ask_calls layout (call ∷ calls) state keys places = (
  (λ located index reached long. record { key = keys (layout.key index); places = λ place. places (layout.key index) place }),
  λ later leaves. may_ask_calls layout calls (record state { shape = later }) keys places,
)
