-- The stored bytes of some chunks of a list, one more of them, and all.
use Rattle.std.proofs.Common.{◌≡◌, ◌∙◌, ◌+◌, ◌++◌, ℕ, true, cond, List, [], ◌∷◌, length, map, take, slice_get, Option}
use Rattle.std.proofs.Common.{Some, None, Result, Ok, Err, Contains, inl, inr, sym, ap, subst, arith}
use Rattle.std.specs.Result.{OnErr, is_err}
use Rattle.std.proofs.lemmas.Bool.{cases_Bool, false≢true}
use Rattle.std.proofs.lemmas.List.{map_push, take_more, take_all}
use Rattle.std.proofs.lemmas.List.Elements.{Contains-push_cases}
use Rattle.std.proofs.lemmas.Option.{slice_get_within, get_or_from_slice_get}
use Rattle.zarrs_storage.specs.Store.{StoreState}
use Rattle.zarrs_engine_calls.specs.Layout.{Layout}
use Rattle.zarrs_engine_calls.specs.Content.{value_at}
use Rattle.zarrs_engine_calls.specs.Refusals as refusal
use Rattle.zarrs_engine_calls.specs.Refusals.{Refusal, RefusesBy, key_refusal, length_refusal}
use Rattle.zarrs_engine_calls.proofs.RefusalLemmas.{memory_or_said, second_refusal}
use Rattle.zarrs_engine_layout.specs.Steps.{RefusesValue}
use Rattle.zarrs_engine_layout.proofs.Chunks.{right_length}
use Rattle.zarrs_engine.specs.Encoded.{ReadsKeys, stored_values, RefusesEncoded}
use Rattle.zarrs_engine.proofs.Ranges.{next_front}

-- of indices of the right length a value is refused by its key
pub key_said : (layout : Layout) (index : List ℕ) → length index ≡ layout.grid.dimensions → (state : StoreState) (r : Refusal) → RefusesValue layout index state r → RefusesBy (key_refusal layout index state) r
key_said layout index long state r why = subst (λ (o : Option Refusal). RefusesBy o r) (second_refusal (length_refusal layout index) _ (right_length layout index long)) why

module _ (layout : Layout) (state : StoreState) (chunks : List (List ℕ)) where
  -- the bytes of one more chunk
  pub values_more : {A : Type 0} (bytes : A → Option (List ℕ)) (n m : ℕ) (index : List ℕ) (items pushed : List A) (item : A) → m ≡ n + 1 → slice_get chunks n ≡ Some index
      → map bytes items ≡ stored_values layout state (take n chunks) → pushed ≡ items ++ item ∷ [] → bytes item ≡ value_at state (layout.key index)
      → map bytes pushed ≡ stored_values layout state (take m chunks)
  values_more bytes n m index items pushed item later at is push value_is =
      let value = λ (i : List ℕ). value_at state (layout.key i) in
      let next : take (n + 1) chunks ≡ take n chunks ++ index ∷ [] =
      take_more chunks n index (slice_get_within chunks n index at) ∙ ap (λ x. take n chunks ++ x ∷ []) (get_or_from_slice_get chunks n index index at) in
      ap (map bytes) push
      ∙ map_push bytes items item
      ∙ ap (λ last. map bytes items ++ last ∷ []) value_is
      ∙ ap (λ held. held ++ value index ∷ []) is
      ∙ sym (map_push value (take n chunks) index)
      ∙ ap (map value) (sym next)
      ∙ ap (λ k. map value (take k chunks)) (sym later)

  -- the bytes of all
  pub values_all : (n : ℕ) (values : List (Option (List ℕ))) → n ≡ length chunks → values ≡ stored_values layout state (take n chunks) → values ≡ stored_values layout state chunks
  values_all n values all is = is ∙ ap (stored_values layout state) (ap (λ n. take n chunks) all ∙ take_all (length chunks) chunks (omega arith))

  -- one more key is read
  pub keys_more : (n m : ℕ) (index : List ℕ) → m ≡ n + 1 → slice_get chunks n ≡ Some index → ReadsKeys layout (take n chunks) state → key_refusal layout index state ≡ None
      → ReadsKeys layout (take m chunks) state
  keys_more n m index later at before here i among =
      let next = ap (λ k. take k chunks) later ∙ next_front layout chunks n index at in
      elim (Contains-push_cases (take n chunks) index i (subst (λ (done : List (List ℕ)). Contains done i) next among)) [
        | inl earlier ↦ before i earlier
        | inr is ↦ subst (λ (j : List ℕ). key_refusal layout j state ≡ None) is here
      ]

  -- all of them are
  pub keys_all : (n : ℕ) → n ≡ length chunks → ReadsKeys layout (take n chunks) state → ReadsKeys layout chunks state
  keys_all n all read = subst (λ (done : List (List ℕ)). ReadsKeys layout done state) (ap (λ n. take n chunks) all ∙ take_all (length chunks) chunks (omega arith)) read

  -- one chunk's bytes are not returned
  pub value_refused : (index : List ℕ) (r : Refusal) → Contains chunks index → RefusesBy (key_refusal layout index state) r → RefusesEncoded layout chunks state r
  value_refused index r among why = elim (memory_or_said (key_refusal layout index state) r why) [
    | inl memory ↦ subst (λ (x : Refusal). RefusesEncoded layout chunks state x) (sym memory) tt
    | inr said ↦ elim (cases_Bool (state.refuses (layout.key index))) [
      | inl refuses ↦
          let is : Some refusal.storage ≡ Some r = sym (ap (λ b. cond b (Some refusal.storage) None) refuses) ∙ said in
          let same : refusal.storage ≡ r = cc in
          subst (λ (x : Refusal). RefusesEncoded layout chunks state x) same (index, among, refuses)
      | inr reads ↦ absurd (let none : None ≡ Some r = sym (ap (λ b. cond b (Some refusal.storage) None) reads) ∙ said in cc)
    ]
  ]

-- a result that is an error has what errors have
pub on_error : {T E P : Type 0} (r : Result T E) → OnErr r P → is_err r ≡ true → P
on_error (Ok x) h is = absurd (false≢true is)
on_error (Err e) h is = h
