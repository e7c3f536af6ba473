-- How many writing calls wrote a part of a value.
use Rattle.std.proofs.Common.{◌≡◌, ◌+◌, ◌≤◌, ℕ, zero, suc, List, [], ◌∷◌, ◌++◌, take, slice_get, Some, Contains, refl, sym, ap, subst, ◌∙◌, inl, inr, add-zero, append-nil, arith}
use Rattle.std.proofs.lemmas.List.{take_more}
use Rattle.std.proofs.lemmas.Option.{slice_get_within, get_or_from_slice_get}
use Rattle.zarrs_storage.specs.Store.{StoreState}
use Rattle.zarrs_storage.proofs.ValuesLemmas.{rules_of, rules_on}
use Rattle.zarrs_engine_calls.specs.Changes.{CountsParts, Makes, MakesParts}
use Rattle.zarrs_engine_calls.proofs.Headline.{in_front}
use Rattle.zarrs_engine_calls.proofs.RefusalLemmas.{makes_none}

-- no part was written
parts_stay : (itself : List ℕ → Type 0) (chunks : List (List ℕ)) (n : ℕ) → CountsParts itself chunks n n
parts_stay itself [] n = refl
parts_stay itself (index ∷ chunks) n = inl (parts_stay itself chunks n)

-- chunks after chunks
parts_then : (itself : List ℕ → Type 0) (front back : List (List ℕ)) (a b c : ℕ) → CountsParts itself front a b → CountsParts itself back b c → CountsParts itself (front ++ back) a c
parts_then itself [] back a b c same more = subst (λ n. CountsParts itself back n c) same more
parts_then itself (index ∷ front) back a b c (inl none) more = inl (parts_then itself front back a b c none more)
parts_then itself (index ∷ front) back a b c (inr one) more = inr (one.0, parts_then itself front back (a + 1) b c one.1 more)

-- which chunks take their part by themselves may be said in other words
parts_as : (p q : List ℕ → Type 0) (chunks : List (List ℕ)) (a b : ℕ) → ((index : List ℕ) → Contains chunks index → p index → q index)
    → CountsParts p chunks a b → CountsParts q chunks a b
parts_as p q [] a b to same = same
parts_as p q (index ∷ chunks) a b to (inl none) = inl (parts_as p q chunks a b (λ i among. let below = among.1 in to i (suc among.0, omega arith, among.2)) none)
parts_as p q (index ∷ chunks) a b to (inr one) =
    inr (to index (0, omega arith, refl) one.0, parts_as p q chunks (a + 1) b (λ i among. let below = among.1 in to i (suc among.0, omega arith, among.2)) one.1)

pub made_as : (p q : List ℕ → Type 0) (chunks : List (List ℕ)) (accepted failed : ℕ) (old new : StoreState) → ((index : List ℕ) → Contains chunks index → p index → q index)
    → MakesParts p chunks accepted failed old new → MakesParts q chunks accepted failed old new
made_as p q chunks accepted failed old new to m = record {
  calls = m.calls;
  failures = m.failures;
  rules = m.rules;
  parts = parts_as p q (take (accepted + failed) chunks) old.parts new.parts (λ i among. to i (in_front (accepted + failed) chunks i among)) m.parts;
}

-- calls of whole values
pub whole_made : (itself : List ℕ → Type 0) (chunks : List (List ℕ)) (accepted failed : ℕ) (old new : StoreState)
    → Makes accepted failed old new → MakesParts itself chunks accepted failed old new
whole_made itself chunks accepted failed old new m = record {
  calls = m.calls;
  failures = m.failures;
  rules = rules_of old new m.reach;
  parts = subst (CountsParts itself (take (accepted + failed) chunks) old.parts) (sym m.reach.parts) (parts_stay itself (take (accepted + failed) chunks) old.parts);
}

pub none_made : (itself : List ℕ → Type 0) (chunks : List (List ℕ)) (state : StoreState) → MakesParts itself chunks 0 0 state state
none_made itself chunks state = whole_made itself chunks 0 0 state state (makes_none state)

-- of a call that may be of a part it is all one which chunk it is for
any_named : (a b : List ℕ) (n before after : ℕ) → CountsParts (λ i. Unit {0}) (take n (a ∷ [])) before after → CountsParts (λ i. Unit {0}) (take n (b ∷ [])) before after
any_named a b zero before after counts = counts
any_named a b (suc n) before after counts = counts

pub one_named : (a b : List ℕ) (accepted failed : ℕ) (old new : StoreState)
    → MakesParts (λ i. Unit {0}) (a ∷ []) accepted failed old new → MakesParts (λ i. Unit {0}) (b ∷ []) accepted failed old new
one_named a b accepted failed old new m =
    record { calls = m.calls; failures = m.failures; rules = m.rules; parts = any_named a b (accepted + failed) old.parts new.parts m.parts }

-- a call for the next chunk, or none
front_more : (chunks : List (List ℕ)) (done : ℕ) (index : List ℕ) (n : ℕ) → slice_get chunks done ≡ Some index → n ≤ 1
    → take (done + 0) chunks ++ take n (index ∷ []) ≡ take (done + n) chunks
front_more chunks done index zero at one = append-nil (take (done + 0) chunks)
front_more chunks done index (suc zero) at one =
    ap (λ k. take k chunks ++ index ∷ []) (add-zero done)
    ∙ sym (take_more chunks done index (slice_get_within chunks done index at) ∙ ap (λ x. take done chunks ++ x ∷ []) (get_or_from_slice_get chunks done index index at))
front_more chunks done index (suc (suc n)) at one = absurd (omega arith)

pub next_made : (itself : List ℕ → Type 0) (chunks : List (List ℕ)) (done : ℕ) (index : List ℕ) (accepted failed : ℕ) (old mid new : StoreState)
    → slice_get chunks done ≡ Some index → accepted + failed ≤ 1 → MakesParts itself chunks done 0 old mid → MakesParts itself (index ∷ []) accepted failed mid new
    → MakesParts itself chunks (done + accepted) failed old new
next_made itself chunks done index accepted failed old mid new at one p q =
    let n = accepted + failed in
    let both = parts_then itself (take (done + 0) chunks) (take n (index ∷ [])) old.parts mid.parts new.parts p.parts q.parts in
    let here = subst (λ (front : List (List ℕ)). CountsParts itself front old.parts new.parts) (front_more chunks done index n at one) both in
    let sum : done + (accepted + failed) ≡ done + accepted + failed = omega arith in
    record {
      calls = let x = p.calls in let y = q.calls in omega arith;
      failures = let x = p.failures in let y = q.failures in omega arith;
      rules = rules_on old mid new p.rules q.rules;
      parts = subst (λ k. CountsParts itself (take k chunks) old.parts new.parts) sum here;
    }
