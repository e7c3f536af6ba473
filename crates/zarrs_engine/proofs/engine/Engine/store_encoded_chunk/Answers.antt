use Rattle.std.proofs.Common.{List, ℕ, Some, subst, sym, rules}
use Rattle.zarrs_engine_calls.specs.Changes.{IsPut}
use Rattle.zarrs_engine_calls.specs.Refusals.{Refusal}
use Rattle.zarrs_engine_calls.proofs.RefusalLemmas.{storage_said}
use Rattle.zarrs_engine_layout.specs.Steps.{RefusesPut}
use Rattle.zarrs_engine.proofs.Puts.{put_set, put_short, put_refused}
use Rattle.zarrs_engine.proofs.engine.Engine.store_encoded_chunk.Goals as goal

pub returns : goal.returns
returns g c =
    let old = g.S.ReadableStorageTraits.state c.args.self.now.storage in
    let new = g.S.ReadableStorageTraits.state c.set.new.self in
    let done = subst (λ (key : List ℕ). IsPut key (Some c.args.encoded_chunk_bytes) old new) c.in_ok-key.ensures.key
    (put_set c.in_ok-key.key c.args.encoded_chunk_bytes old new c.in_ok-set.ensures.ok) in
    search (rules, done)

pub returns-in_err-key : goal.returns-in_err-key
returns-in_err-key g c =
    let why = put_short (g.S.ReadableStorageTraits.state c.args.self.now.storage) in
    search (rules, why)

pub returns-in_err-set : goal.returns-in_err-set
returns-in_err-set g c =
    let old = g.S.ReadableStorageTraits.state c.args.self.now.storage in
    let new = g.S.ReadableStorageTraits.state c.set.new.self in
    let e = c.in_err-set.field-0.0 in
    let why = put_refused e old new c.in_err-set.ensures.refused in
    let said = subst (λ (r : Refusal). RefusesPut r old new) (sym (storage_said e)) why in
    search (rules, said)
