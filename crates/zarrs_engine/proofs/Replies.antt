-- Replies to calls, as steps of a run.
use Rattle.std.proofs.Common.{Result, Ok, Err, IfErr, IfOk, OnOk, ◌≡◌, ℕ, List, Bool, Option, sym, subst}
use Rattle.zarrs_storage.specs.Store.{StoreState}
use Rattle.zarrs_data_type_bytes.specs.declared.array_bytes.ArrayBytes.{ArrayBytes}
use Rattle.zarrs_engine_calls.specs.declared.call.Reply.{Reply}
use Rattle.zarrs_engine_calls.specs.declared.call.Reply.TheVariants.{Cells, Done, Refused}
use Rattle.zarrs_engine_calls.specs.declared.error.ArrayError.{ArrayError}
use Rattle.zarrs_engine_calls.specs.Acts.{Act, resize, shape_after}
use Rattle.zarrs_engine_calls.specs.Layout.{Layout}
use Rattle.zarrs_engine_calls.specs.Refusals.{Refusal}
use Rattle.zarrs_engine_calls.specs.Step.{ActStep}

module _ (layout : Layout) (keep : Bool) (shape : List ℕ) (first : Option Refusal) (act : Act) (old new : StoreState) where
  abbrev Steps : Reply → Type 0
  Steps reply = ActStep layout keep shape first act reply old new

  -- of a call that returns nothing
  pub done_step : {T : Type 0} (made : Result T ArrayError) (reply : Reply) → OnOk made (Steps Done) → IfErr made (λ e. Steps (Refused e))
      → OnOk made (reply ≡ Done) → IfErr made (λ e. reply ≡ Refused e) → Steps reply
  done_step (Ok x) reply step refused is none = subst Steps (sym is) step
  done_step (Err e) reply step refused none is = subst Steps (sym is) refused

  -- of a call that returns cells
  pub cells_step : (made : Result ArrayBytes ArrayError) (reply : Reply) (P : ArrayBytes → Type 0) (Q : ArrayError → Type 0)
      → ((held : ArrayBytes) → P held → Steps (Cells held)) → ((e : ArrayError) → Q e → Steps (Refused e))
      → IfOk made P → IfErr made Q → IfOk made (λ held. reply ≡ Cells held) → IfErr made (λ e. reply ≡ Refused e) → Steps reply
  cells_step (Ok held) reply P Q step refused p q is none = subst Steps (sym is) (step held p)
  cells_step (Err e) reply P Q step refused p q none is = subst Steps (sym is) (refused e q)

-- the array's shape after the reply to a change of it
pub done_shape : {T : Type 0} (made : Result T ArrayError) (reply : Reply) (wanted before after : List ℕ) → OnOk made (after ≡ wanted) → IfErr made (λ e. after ≡ before)
    → OnOk made (reply ≡ Done) → IfErr made (λ e. reply ≡ Refused e) → after ≡ shape_after (resize wanted) reply before
done_shape (Ok x) reply wanted before after at same is none = subst (λ (r : Reply). after ≡ shape_after (resize wanted) r before) (sym is) at
done_shape (Err e) reply wanted before after at same none is = subst (λ (r : Reply). after ≡ shape_after (resize wanted) r before) (sym is) same
