use Rattle.std.specs.Prelude.{option_map}
use Rattle.std.proofs.Common.{rules, ap, sym, subst, ◌∙◌, refl, Some}
use Rattle.std.proofs.lemmas.Result.{err_from_is_err_and}
use Rattle.zarrs_engine_calls.specs.Compactions.{Compacts}
use Rattle.zarrs_engine_calls.specs.Refusals as refusal
use Rattle.zarrs_engine_calls.specs.Refusals.{Refusal, refusal_of}
use Rattle.zarrs_engine_calls.proofs.RefusalLemmas.{storage_said}
use Rattle.zarrs_engine_layout.specs.Steps.{RefusesPut}
use Rattle.zarrs_engine.specs.Engine.{layout_of}
use Rattle.zarrs_engine.proofs.Canon.{compact_refused_canon, compacted_canon}
use Rattle.zarrs_engine.proofs.Compactions.{bytes_refused, key_refused, put_refuses}
use Rattle.zarrs_engine.proofs.engine.Engine.compact_chunk.Goals as goal

pub returns-in_err-key : goal.returns-in_err-key
returns-in_err-key g c =
    let state = g.S.ReadableStorageTraits.state c.args.self.now.storage in
    let why = key_refused (layout_of c.args.self.now) c.args.chunk_indices.now c.requires.dimensions state refusal.out_of_memory tt in
    let p = err_from_is_err_and c.from_residual.result c.from_residual.ensures.1 in
    rw (p.1, p.2, c.in_err-key.ensures.accepted) (record { done = tt; refused = why; compact = λ _. tt; canonical = λ _ canon. canon; refusing = λ _. refl; layout_kept = refl })

pub returns-in_err-encoded : goal.returns-in_err-encoded
returns-in_err-encoded g c =
    let layout = layout_of c.args.self.now in
    let state = g.S.ReadableStorageTraits.state c.args.self.now.storage in
    let why = key_refused layout c.args.chunk_indices.now c.requires.dimensions state (refusal_of c.in_err-encoded.field-0.0) c.in_err-encoded.ensures.refused in
    let p = err_from_is_err_and c.from_residual-in_err-encoded.result c.from_residual-in_err-encoded.ensures.1 in
    rw (p.1, p.2) (record { done = tt; refused = why; compact = λ _. tt; canonical = λ _ canon. canon; refusing = λ _. refl; layout_kept = refl })

pub returns-in_err-less : goal.returns-in_err-less
returns-in_err-less g c =
    let layout = layout_of c.args.self.now in
    let state = g.S.ReadableStorageTraits.state c.args.self.now.storage in
    let encoded = c.deref.result.now in
    let at = ap Some c.deref.ensures ∙ sym c.in-Some.is ∙ c.in_ok-encoded.ensures.value in
    let why = bytes_refused layout c.args.chunk_indices.now c.requires.dimensions encoded state at (refusal_of c.in_err-less.field-0.0) c.in_ok-encoded.ensures.asked c.in_err-less.ensures.refused in
    let p = err_from_is_err_and c.from_residual-in_err-less.result c.from_residual-in_err-less.ensures.1 in
    rw (p.1, p.2) (record { done = tt; refused = why; compact = λ _. tt; canonical = λ _ canon. canon; refusing = λ _. refl; layout_kept = refl })

pub returns-in_err-put : goal.returns-in_err-put
returns-in_err-put g c =
    let layout = layout_of c.args.self.now in
    let old = g.S.ReadableStorageTraits.state c.args.self.now.storage in
    let new = g.S.ReadableStorageTraits.state c.put.new.self.storage in
    let encoded = c.deref.result.now in
    let at = ap Some c.deref.ensures ∙ sym c.in-Some.is ∙ c.in_ok-encoded.ensures.value in
    let e = c.in_err-put.field-0.0 in
    let put = subst (λ (r : Refusal). RefusesPut r old new) (sym (storage_said e)) c.in_err-put.ensures.refused in
    let compacts = c.in_ok-less.ensures.answer ∙ ap (λ o. Some (option_map (λ v. v.items) o)) c.in-Some-2.is in
    let why = put_refuses layout c.args.chunk_indices.now c.requires.dimensions encoded old at c.in-Some-2.less.items new _ c.in_ok-less.ensures.accepted compacts put in
    let p = err_from_is_err_and c.from_residual-in_err-put.result c.from_residual-in_err-put.ensures.1 in
    rw (p.1, p.2) (record {
      done = tt;
      refused = why;
      compact = λ _. tt;
      canonical = compact_refused_canon layout c.args.self.now.layout.lawful old new c.args.chunk_indices.now _ why;
      refusing = λ _. refl;
      layout_kept = c.in_err-put.ensures.layout_kept;
    })

pub returns : goal.returns
returns g c =
    let layout = layout_of c.args.self.now in
    let index = c.args.chunk_indices.now in
    let old = g.S.ReadableStorageTraits.state c.args.self.now.storage in
    let new = g.S.ReadableStorageTraits.state c.put.new.self.storage in
    let done : Compacts layout index old new = search (rules) in
    record {
      done = done;
      refused = tt;
      compact = λ canon. absurd (compacted_canon layout c.args.self.now.layout.lawful old new index done canon);
      canonical = λ off canon. absurd (compacted_canon layout c.args.self.now.layout.lawful old new index done canon);
      refusing = search (rules);
      layout_kept = search (rules);
    }
