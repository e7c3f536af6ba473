use Rattle.std.proofs.Common.{rules, subst, option_map, inl, inr}
use Rattle.zarrs_data_type.specs.ArrayData.{data_of}
use Rattle.zarrs_data_type.specs.Cells.{cells}
use Rattle.zarrs_codec_chain.specs.Options.{stores_empty_chunks}
use Rattle.zarrs_engine_calls.specs.Refusals.{box_refusal, refusal_of, data_refusal, Refusal, refusal_of_storage}
use Rattle.zarrs_engine.specs.Engine.{layout_of}
use Rattle.zarrs_engine_layout.specs.Steps.{HasValue}
use Rattle.zarrs_engine_layout.proofs.Chunks.{both_accepted, refused_either}
use Rattle.zarrs_engine.proofs.Writes.{box_refused, data_refused, stored_chunk, short_of_memory, store_failed}
use Rattle.std.proofs.Common.{◌≡◌, None, Option, List, [], ◌∷◌, sym}
use Rattle.zarrs_chunk_grid.specs.Grids.{box_at}
use Rattle.zarrs_data_type.specs.Cell.{Cell}
use Rattle.zarrs_engine_calls.specs.ArgumentRefusals.{store_chunk_refusal}
use Rattle.zarrs_engine_calls.specs.Step.{RefusesStoreChunk}
use Rattle.zarrs_engine_calls.proofs.RefusalLemmas.{storage_said}
use Rattle.zarrs_engine.proofs.Canon.{store_refused_canon, stored_canon}
use Rattle.zarrs_engine.proofs.engine.Engine.store_chunk.Goals as goal

pub returns-in_err-value : goal.returns-in_err-value
returns-in_err-value g c =
    let layout = layout_of c.args.self.now in
    let keep = stores_empty_chunks c.args.options.now in
    let index = c.args.chunk_indices.now in
    let held = data_of c.args.chunk_data.now in
    let state = g.S.ReadableStorageTraits.state c.args.self.now.storage in
    let refused = refusal_of c.in_err-value.field-0.0 in
    let unfit = data_refusal layout keep (box_at layout.grid index).shape (cells layout.kind held) in
    let why : RefusesStoreChunk layout keep index held refused state state = elim (refused_either (box_refusal layout index) unfit refused c.in_err-value.ensures.refused) [
      | inl h ↦ box_refused layout keep index held state refused h
      | inr h ↦ data_refused layout keep index held h.0 state refused h.1
    ] in
    search (rules, why)

pub returns : goal.returns
returns g c =
    let layout = layout_of c.args.self.now in
    let lawful = c.args.self.now.layout.lawful in
    let old = g.S.ReadableStorageTraits.state c.args.self.now.storage in
    let new = g.S.ReadableStorageTraits.state c.put.new.self.storage in
    let keep = stores_empty_chunks c.args.options.now in
    let index = c.args.chunk_indices.now in
    let held = data_of c.args.chunk_data.now in
    let value = option_map (λ v. v.items) c.in_ok-value.value in
    let accepted = both_accepted (box_refusal layout index) (data_refusal layout keep (box_at layout.grid index).shape (cells layout.kind held)) c.in_ok-value.ensures.accepted in
    let why = stored_chunk layout lawful keep index held c.in_ok-key.key value old new accepted.0 c.in_ok-key.ensures.key c.in_ok-value.ensures.answer c.in_ok-put.ensures.done in
    let canonical = stored_canon layout lawful keep old new (box_at layout.grid index) held (index ∷ []) why.1 in
    search (rules, why, canonical)

pub returns-in_err-key : goal.returns-in_err-key
returns-in_err-key g c =
    let why = short_of_memory (layout_of c.args.self.now) (stores_empty_chunks c.args.options.now) c.args.chunk_indices.now (data_of c.args.chunk_data.now) (g.S.ReadableStorageTraits.state c.args.self.now.storage) in
    search (rules, why)

pub returns-in_err-put : goal.returns-in_err-put
returns-in_err-put g c =
    let layout = layout_of c.args.self.now in
    let old = g.S.ReadableStorageTraits.state c.args.self.now.storage in
    let new = g.S.ReadableStorageTraits.state c.put.new.self.storage in
    let keep = stores_empty_chunks c.args.options.now in
    let index = c.args.chunk_indices.now in
    let held = data_of c.args.chunk_data.now in
    let value = option_map (λ v. v.items) c.in_ok-value.value in
    let h : HasValue layout keep (box_at layout.grid index) held value = c.in_ok-value.ensures.answer in
    let accepted = both_accepted (box_refusal layout index) (data_refusal layout keep (box_at layout.grid index).shape (cells layout.kind held)) c.in_ok-value.ensures.accepted in
    let none_of_chunk = subst (λ (o : Option (List Cell)). data_refusal layout keep (box_at layout.grid index).shape o ≡ None) h.is_chunk accepted.1 in
    let e = c.in_err-put.field-0.0 in
    let why = store_failed layout keep index held accepted.0 h.chunk h.is_chunk h.count old new (refusal_of_storage e) none_of_chunk c.in_err-put.ensures.refused in
    let said = subst (λ (r : Refusal). RefusesStoreChunk layout keep index held r old new) (sym (storage_said e)) why in
    let canonical = store_refused_canon layout c.args.self.now.layout.lawful keep old new (store_chunk_refusal layout index held) (box_at layout.grid index) held (index ∷ []) _ said in
    search (rules, said, canonical)
