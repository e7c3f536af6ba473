-- What a step of a call returns, or refuses.
use Rattle.std.specs.Prelude.{◌≡◌, Option, None, Result, OnOk, IfOk, IfErr}
use Rattle.zarrs_engine_calls.specs.Refusals.{Refusal, RefusesBy, refusal_of}
use Rattle.zarrs_engine_calls.specs.declared.error.ArrayError.{ArrayError}

-- a step is answered so, and nothing refuses it; or it is refused by this, or for want of memory
pub record Answers {T : Type 0} (refusal : Option Refusal) (is_so : T → Type 0) (result : Result T ArrayError) : Type 0 where
  pub answer : IfOk result is_so
  pub accepted : OnOk result (refusal ≡ None)
  pub refused : IfErr result (λ e. RefusesBy refusal (refusal_of e))
