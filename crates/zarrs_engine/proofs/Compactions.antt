-- Compactions that are refused.
use Rattle.std.proofs.Common.{◌≡◌, ℕ, List, length, Some, None, refl, sym, ◌∙◌, ap, subst, inl, inr, arith}
use Rattle.std.specs.FinMap as map
use Rattle.zarrs_storage.specs.Store.{StoreState}
use Rattle.zarrs_engine_calls.specs.Layout.{Layout}
use Rattle.zarrs_engine_calls.specs.Content.{value_at}
use Rattle.zarrs_engine_calls.specs.Compactions.{HasCompaction, RefusesCompactionOf, compacted_bytes, compaction_refusal}
use Rattle.zarrs_engine_calls.specs.Refusals.{Refusal, RefusesBy, key_refusal}
use Rattle.zarrs_engine_calls.specs.Step.{RefusesCompactChunk}
use Rattle.zarrs_engine_calls.proofs.RefusalLemmas.{makes_none, refused_first, refused_second}
use Rattle.zarrs_engine_layout.specs.Steps.{RefusesPut, RefusesValue}
use Rattle.zarrs_engine_layout.proofs.Chunks.{right_length}
use Rattle.zarrs_engine.proofs.Encoded.{key_said}
use Rattle.zarrs_engine.proofs.Writes.{refused_late}

module _ (layout : Layout) (index : List ℕ) (long : length index ≡ layout.grid.dimensions) where
  -- refused by the key or by the bytes: no writing call was made
  uncalled : (state : StoreState) (r : Refusal) → RefusesCompactionOf layout index 0 state r → RefusesCompactChunk layout index r state state
  uncalled state r why = record {
    done = 0;
    failed = 0;
    front = record { within = omega arith; untouched = λ none. refl; changes = λ some. absurd (omega arith); makes = makes_none state };
    below = λ some. some;
    one = omega arith;
    counted = λ some. absurd (omega arith);
    cause = inr (index, refl, (right_length layout index long, why));
  }

  pub key_refused : (state : StoreState) (r : Refusal) → RefusesValue layout index state r → RefusesCompactChunk layout index r state state
  key_refused state r why = uncalled state r (inl (refl, refused_first (key_refusal layout index state) _ r (key_said layout index long state r why)))

  module _ (encoded : List ℕ) (old : StoreState) (at : Some encoded ≡ value_at old (layout.key index)) where
    pub bytes_refused : (r : Refusal) → key_refusal layout index old ≡ None → RefusesBy (compaction_refusal layout index (Some encoded)) r → RefusesCompactChunk layout index r old old
    bytes_refused r open_key why =
        uncalled old r (inl (
          refl,
          refused_second (key_refusal layout index old) _ r open_key
              (subst (λ o. RefusesBy (compaction_refusal layout index o) r) at why),
        ))

    -- refused by the writing call
    pub put_refuses : (less : List ℕ) (new : StoreState) (r : Refusal) → compaction_refusal layout index (Some encoded) ≡ None → compacted_bytes layout index encoded ≡ Some (Some less)
        → RefusesPut r old new → RefusesCompactChunk layout index r old new
    put_refuses less new r accepted compacts put =
        let has : HasCompaction layout index new = record {
          encoded = encoded;
          less = less;
          stands = ap (λ values. map.get values (layout.key index)) put.values ∙ sym at;
          accepted = accepted;
          compacts = compacts;
        } in
        refused_late _ index _ _ r old new put (right_length layout index long, inr (has, put.cause))
