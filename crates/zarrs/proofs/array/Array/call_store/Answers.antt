use Rattle.std.proofs.Common.{ap, subst, OnErr}
use Rattle.std.proofs.lemmas.Result.{on_ok_weaker}
use Rattle.std.specs.FinMap as map
use Rattle.zarrs_storage.specs.Store.{Accepts, Refuses, StoreState}
use Rattle.zarrs_storage.specs.declared.error.StorageError.{StorageError}
use Rattle.zarrs_engine_calls.specs.Refusals.{refusal_of_storage}
use Rattle.zarrs.specs.Puts.{RefusesCall}
use Rattle.zarrs.proofs.Puts.{call_refused}
use Rattle.zarrs.proofs.WritingCalls.{put_set, put_erase, any_error}
use Rattle.zarrs.proofs.array.Array.call_store.Goals as goal

pub returns-in-Some-clause-done : goal.returns-in-Some-clause-done
returns-in-Some-clause-done g c =
    let state = g.TStorage.ReadableStorageTraits.state in
    let old = state c.args.self.now.engine.storage in
    let new = state c.set.new.self in
    let same = ap state c.storage_mut.ensures.value in
    rw c.in-Some.is (on_ok_weaker c.set.result (λ a. put_set c.args.put.key c.in-Some.value old new
    (subst (λ (s : StoreState). Accepts s new (map.insert s.values c.args.put.key c.in-Some.value)) same a)) c.set.ensures.ok)

pub returns-in-Some-clause-refused : goal.returns-in-Some-clause-refused
returns-in-Some-clause-refused g c =
    let state = g.TStorage.ReadableStorageTraits.state in
    let old = state c.args.self.now.engine.storage in
    let new = state c.set.new.self in
    let same = ap state c.storage_mut.ensures.value in
    any_error c.set.result (Refuses old new) (λ (e : StorageError). RefusesCall (refusal_of_storage e) old new) (λ e r. call_refused e old new r)
    (subst (λ (s : StoreState). OnErr c.set.result (Refuses s new)) same c.set.ensures.refused)

pub returns-clause-done : goal.returns-clause-done
returns-clause-done g c =
    let state = g.TStorage.ReadableStorageTraits.state in
    let old = state c.args.self.now.engine.storage in
    let new = state c.erase.new.self in
    let same = ap state c.storage_mut-in-None.ensures.value in
    rw c.in-None.is (on_ok_weaker c.erase.result (λ a. put_erase c.args.put.key old new
    (subst (λ (s : StoreState). Accepts s new (map.remove s.values c.args.put.key)) same a)) c.erase.ensures.ok)

pub returns-clause-refused : goal.returns-clause-refused
returns-clause-refused g c =
    let state = g.TStorage.ReadableStorageTraits.state in
    let old = state c.args.self.now.engine.storage in
    let new = state c.erase.new.self in
    let same = ap state c.storage_mut-in-None.ensures.value in
    any_error c.erase.result (Refuses old new) (λ (e : StorageError). RefusesCall (refusal_of_storage e) old new) (λ e r. call_refused e old new r)
    (subst (λ (s : StoreState). OnErr c.erase.result (Refuses s new)) same c.erase.ensures.refused)
