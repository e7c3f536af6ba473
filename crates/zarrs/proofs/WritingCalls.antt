-- One writing call of the store: what it puts, and what is left if it is refused.
use Rattle.std.proofs.Common.{Result, Ok, Err, IfErr, OnErr, ◌≡◌, ◌≢◌, bytes_eq, ℕ, ◌==◌, true, false, cond, List, Some}
use Rattle.std.proofs.Common.{None, refl, sym, ◌∙◌, ap, arith, inl, inr, ◌⊎◌}
use Rattle.std.specs.FinMap as map
use Rattle.std.proofs.lemmas.Slice.Eq.{bytes_eq-Decides}
use Rattle.std.proofs.lemmas.Bool.{cases_Bool, eqb-true, eq-eqb}
use Rattle.zarrs_storage.specs.Store.{StoreState, Values, Accepts, Refuses, last_call, counted}
use Rattle.zarrs_storage.specs.declared.error.StorageError.{StorageError}
use Rattle.zarrs_storage.specs.declared.error.StorageError.TheVariants as stored
use Rattle.zarrs_storage.proofs.ValuesLemmas.{get_inserted, get_removed}
use Rattle.zarrs_engine_calls.specs.Changes.{Makes, IsPut}
use Rattle.zarrs_engine_calls.specs.Refusals.{refusal_of_storage}
use Rattle.zarrs_engine_calls.specs.StateRefusals.{RefusesErasure, CallFails}
use Rattle.zarrs_engine_layout.specs.Steps.{RefusesPut}

apart_test : (a b : List ℕ) → a ≢ b → bytes_eq a b ≡ false
apart_test a b apart = elim (cases_Bool (bytes_eq a b)) [
  | inl is ↦ absurd (apart ((bytes_eq-Decides a b).0 is))
  | inr not_is ↦ not_is
]

-- an accepted call is one that makes one writing call
accepts_makes : (old new : StoreState) (written : Values) → Accepts old new written → Makes 1 0 old new
accepts_makes old new written a = record { calls = omega (arith, a.calls); failures = omega (arith, a.failures); reach = a.reach }

pub put_set : (key value : List ℕ) (old new : StoreState) → Accepts old new (map.insert old.values key value) → IsPut key (Some value) old new
put_set key value old new a = record {
  held = ap (λ m. map.get m key) a.values ∙ get_inserted old.values key value key ∙ ap (λ b. cond b (Some value) (map.get old.values key)) ((bytes_eq-Decides key key).1 refl);
  others = λ other apart. ap (λ m. map.get m other) a.values ∙ get_inserted old.values key value other ∙ ap (λ b. cond b (Some value) (map.get old.values other)) (apart_test other key apart);
  makes = accepts_makes old new _ a;
}

pub put_erase : (key : List ℕ) (old new : StoreState) → Accepts old new (map.remove old.values key) → IsPut key None old new
put_erase key old new a = record {
  held = ap (λ m. map.get m key) a.values ∙ get_removed old.values key key ∙ ap (λ b. cond b None (map.get old.values key)) ((bytes_eq-Decides key key).1 refl);
  others = λ other apart. ap (λ m. map.get m other) a.values ∙ get_removed old.values key other ∙ ap (λ b. cond b None (map.get old.values other)) (apart_test other key apart);
  makes = accepts_makes old new _ a;
}

eq_last : (n : ℕ) → n ≡ last_call → (n == last_call) ≡ true
eq_last n is = eq-eqb n last_call is

-- a writing call that failed is the reason, or out of memory
failed_erasure : (e : StorageError) (failed : ℕ) (new : StoreState) → CallFails failed new → RefusesErasure failed new (refusal_of_storage e)
failed_erasure (stored.InvalidMetadata key said) failed new fails = fails
failed_erasure stored.ReadOnly failed new fails = fails
failed_erasure stored.InvalidByteRange failed new fails = fails
failed_erasure stored.Exhausted failed new fails = fails
failed_erasure (stored.Other said) failed new fails = fails
failed_erasure stored.OutOfMemory failed new fails = tt

-- a refused call is one that was counted, or the calls are at their end
counted_or_last : (s : StoreState) → ((counted s ≡ 1) × (s.calls ≢ last_call)) ⊎ ((counted s ≡ 0) × (s.calls ≡ last_call))
counted_or_last s = elim (cases_Bool (s.calls == last_call)) [
  | inl last ↦ inr (ap (λ b. cond b 0 1) last, eqb-true s.calls last_call last)
  | inr more ↦ inl (ap (λ b. cond b 0 1) more, λ same. (let clash : true ≡ false = sym (eq_last s.calls same) ∙ more in cc))
]

-- the store refused a writing call
pub put_refused : (e : StorageError) (old new : StoreState) → Refuses old new → RefusesPut (refusal_of_storage e) old new
put_refused e old new r = record {
  failed = counted old;
  one = elim (counted_or_last old) [ inl one ↦ (let a = one.0 in omega arith) | inr none ↦ (let a = none.0 in omega arith) ];
  counted = λ some. elim (counted_or_last old) [
    | inl one ↦ λ same. one.1 (let a = one.0 in let b = r.calls in omega arith)
    | inr none ↦ absurd (let a = none.0 in omega arith)
  ];
  values = r.values;
  makes = record { calls = (let a = r.calls in omega arith); failures = r.failures; reach = r.reach };
  cause = failed_erasure e (counted old) new (elim (counted_or_last old) [
    | inl one ↦ inl one.0
    | inr none ↦ inr (let a = none.0 in let b = none.1 in let c = r.calls in omega arith)
  ]);
}

-- what holds of each error, by a fact that goes with any
pub each_error : {T E : Type 0} (r : Result T E) (P Q : E → Type 0) → ((e : E) → P e → Q e) → IfErr r P → IfErr r Q
each_error (Ok x) P Q f h = tt
each_error (Err e) P Q f h = f e h

pub any_error : {T E : Type 0} (r : Result T E) (P : Type 0) (Q : E → Type 0) → ((e : E) → P → Q e) → OnErr r P → IfErr r Q
any_error (Ok x) P Q f h = tt
any_error (Err e) P Q f h = f e h
