use Rattle.std.proofs.Common.{subst, List, ℕ}
use Rattle.std.proofs.lemmas.Result.{on_ok_weaker}
use Rattle.std.specs.FinMap as map
use Rattle.zarrs_storage.specs.Store.{Accepts, Refuses}
use Rattle.zarrs_engine.proofs.Puts.{put_set, put_erase, put_short, put_refused, any_error}
use Rattle.std.proofs.Common.{refl, rules}
use Rattle.zarrs_storage.specs.declared.error.StorageError.{StorageError}
use Rattle.zarrs_engine_calls.specs.Refusals.{refusal_of_storage}
use Rattle.zarrs_engine_layout.specs.Steps.{RefusesPut}
use Rattle.zarrs_engine.proofs.engine.Engine.put.Goals as goal

pub returns-in_ok-value-in-Some : goal.returns-in_ok-value-in-Some
returns-in_ok-value-in-Some g c =
    let old = g.S.ReadableStorageTraits.state c.args.self.now.storage in
    let new = g.S.ReadableStorageTraits.state c.set.new.self in
    record {
      done =
          rw c.in-Some.is (on_ok_weaker c.set.result (λ a. put_set c.args.key.now c.in-Some.value.items old new
          (subst (λ (v : List ℕ). Accepts old new (map.insert old.values c.args.key.now v)) c.in_ok-value-in-Some.ensures.ok a)) c.set.ensures.ok);
      refused =
          any_error c.set.result (Refuses old new) (λ (e : StorageError). RefusesPut (refusal_of_storage e) old new) (λ e r. put_refused e old new r) c.set.ensures.refused;
      layout_kept = refl;
    }

pub returns-in-None : goal.returns-in-None
returns-in-None g c =
    let old = g.S.ReadableStorageTraits.state c.args.self.now.storage in
    let new = g.S.ReadableStorageTraits.state c.erase.new.self in
    record {
      done =
          rw c.in-None.is (on_ok_weaker c.erase.result (put_erase c.args.key.now old new) c.erase.ensures.ok);
      refused =
          any_error c.erase.result (Refuses old new) (λ (e : StorageError). RefusesPut (refusal_of_storage e) old new) (λ e r. put_refused e old new r) c.erase.ensures.refused;
      layout_kept = refl;
    }

pub returns-in_err-value-in-Some : goal.returns-in_err-value-in-Some
returns-in_err-value-in-Some g c =
    let why = put_short (g.S.ReadableStorageTraits.state c.args.self.now.storage) in
    search (rules, why)
