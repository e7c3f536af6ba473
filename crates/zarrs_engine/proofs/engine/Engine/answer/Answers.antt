use Rattle.std.proofs.Common.{List, ℕ, [], ◌∷◌, IfErr, IfOk, None, OnOk, true, ◌≡◌, refl, ap, subst, sym, option_map}
use Rattle.zarrs_subset.specs.Regions.{box_of, positions}
use Rattle.zarrs_chunk_grid.specs.Grids.{box_at, chunks_box}
use Rattle.zarrs_data_type_bytes.specs.declared.array_bytes.ArrayBytes.{ArrayBytes}
use Rattle.zarrs_data_type.specs.ArrayData.{data_of}
use Rattle.zarrs_codec_chain.specs.Options.{encodes_partially, stores_empty_chunks}
use Rattle.zarrs_engine_calls.specs.Acts.{compact, erase, read, read_chunk, read_part_act, resize, shape_after, store}
use Rattle.zarrs_engine_calls.specs.ArgumentRefusals.{read_chunks_refusal, read_part_refusal, read_region_refusal, resize_refusal}
use Rattle.zarrs_engine_calls.specs.ArgumentRefusals.{store_chunk_refusal, store_chunks_refusal, store_part_refusal, store_region_refusal}
use Rattle.zarrs_engine_calls.specs.Changes.{RetrievesChunk, RetrievesIfExists}
use Rattle.zarrs_engine_calls.specs.ChunkBoxes.{chunks_met, part_box}
use Rattle.zarrs_engine_calls.specs.Reach.{MayAskCall, MayAskKept}
use Rattle.zarrs_engine_calls.specs.Refusals.{length_refusal, refusal_of}
use Rattle.zarrs_engine_calls.specs.StateRefusals.{RefusesChunkRead}
use Rattle.zarrs_engine_calls.specs.Patches.{PatchesPart, RefusesPatchPart}
use Rattle.zarrs_engine_calls.specs.Step.{ActStep, StoresChunk, RefusesStoreChunk, StoresPart, RefusesStorePart}
use Rattle.zarrs_engine_calls.specs.Step.{RetrievesChunks, RefusesRetrieveChunks, RetrievesPart, RefusesRetrievePart, RetrievesRegion, RefusesRetrieveRegion}
use Rattle.zarrs_engine_calls.specs.declared.call.Call.{Call}
use Rattle.zarrs_engine_calls.specs.declared.error.ArrayError.{ArrayError}
use Rattle.zarrs_engine.specs.Engine.{layout_of, state_of}
use Rattle.zarrs_engine_layout.proofs.Chunks.{retrieved_length, found_length}
use Rattle.zarrs_engine.proofs.PartSteps.{part_shape, part_step, part_refused_step}
use Rattle.zarrs_engine_calls.proofs.Reaches.{may_read_all}
use Rattle.zarrs_engine.proofs.RegionSteps.{may_ask_chunks}
use Rattle.zarrs_engine_calls.specs.Cuts.{cut_chunks}
use Rattle.zarrs_engine.proofs.Cuts.{keeps_others, may_ask_kept}
use Rattle.zarrs_engine.proofs.PatchedRuns.{patched_step, steps_as}
use Rattle.zarrs_engine.proofs.Replies.{cells_step, done_step}
use Rattle.zarrs_engine.proofs.engine.Engine.answer.Goals as goal

pub returns-in-StoreChunk-clause-step : goal.returns-in-StoreChunk-clause-step
returns-in-StoreChunk-clause-step g c =
    let layout = layout_of c.args.self.now in
    let shape = g.G.ChunkGridTraits.array_extents c.args.self.now.layout.grid in
    let keep = stores_empty_chunks c.args.options.now in
    let old = g.S.ReadableStorageTraits.state c.args.self.now.storage in
    let new = g.S.ReadableStorageTraits.state c.store_chunk.new.self.storage in
    let index = c.in-StoreChunk.chunk_indices.items in
    let held = data_of c.in-StoreChunk.chunk_data in
    let e = c.store_chunk.ensures in
    let at = c.deref.ensures.value in
    steps_as (layout_of c.args.self.now) c.args.self.now.layout.lawful c.args.options.now c.args.call.now _ (state_of g.S.ReadableStorageTraits.state c.args.self.now) _
    (rw c.in-StoreChunk.is tt) (rw c.in-StoreChunk.is (
      ap (λ own. g.G.ChunkGridTraits.array_extents own.grid) e.layout_kept,
      done_step layout keep shape (store_chunk_refusal layout index held) (store (box_at layout.grid index) held (index ∷ [])) old new c.store_chunk.result c.done.result (subst (λ (i : List ℕ). OnOk c.store_chunk.result (StoresChunk layout keep i held old new)) at e.done) (subst (λ (i : List ℕ). IfErr c.store_chunk.result (λ e. RefusesStoreChunk layout keep i held (refusal_of e) old new)) at e.refused) c.done.ensures.done c.done.ensures.refused,
    ))

pub returns-in-StoreChunks-clause-step : goal.returns-in-StoreChunks-clause-step
returns-in-StoreChunks-clause-step g c =
    let layout = layout_of c.args.self.now in
    let shape = g.G.ChunkGridTraits.array_extents c.args.self.now.layout.grid in
    let keep = stores_empty_chunks c.args.options.now in
    let old = g.S.ReadableStorageTraits.state c.args.self.now.storage in
    let new = g.S.ReadableStorageTraits.state c.store_chunks.new.self.storage in
    let range = box_of c.in-StoreChunks.chunks in
    let held = data_of c.in-StoreChunks.«data» in
    let e = c.store_chunks.ensures in
    steps_as (layout_of c.args.self.now) c.args.self.now.layout.lawful c.args.options.now c.args.call.now _ (state_of g.S.ReadableStorageTraits.state c.args.self.now) _
    (rw c.in-StoreChunks.is tt) (rw c.in-StoreChunks.is (
      ap (λ own. g.G.ChunkGridTraits.array_extents own.grid) e.layout_kept,
      done_step layout keep shape (store_chunks_refusal layout range held) (store (chunks_box layout.grid range) held (positions range)) old new c.store_chunks.result c.done-in-StoreChunks.result e.done e.refused c.done-in-StoreChunks.ensures.done c.done-in-StoreChunks.ensures.refused,
    ))

pub returns-in-StoreChunkSubset-clause-step : goal.returns-in-StoreChunkSubset-clause-step
returns-in-StoreChunkSubset-clause-step g c =
    let layout = layout_of c.args.self.now in
    let shape = g.G.ChunkGridTraits.array_extents c.args.self.now.layout.grid in
    let keep = stores_empty_chunks c.args.options.now in
    let asked = encodes_partially c.args.options.now in
    let old = g.S.ReadableStorageTraits.state c.args.self.now.storage in
    let new = g.S.ReadableStorageTraits.state c.store_chunk_subset.new.self.storage in
    let index = c.in-StoreChunkSubset.chunk_indices.items in
    let part = box_of c.in-StoreChunkSubset.chunk_subset in
    let held = data_of c.in-StoreChunkSubset.«data» in
    let e = c.store_chunk_subset.ensures in
    let at = c.deref-in-StoreChunkSubset.ensures.value in
    let shaped = ap (λ own. g.G.ChunkGridTraits.array_extents own.grid) e.partly.layout_kept in
    let act = store (part_box (box_at layout.grid index) part) held (index ∷ []) in
    let first = store_part_refusal layout index part held in
    record {
      whole = λ off. let w = e.whole off in rw c.in-StoreChunkSubset.is (
        shaped,
        done_step layout keep shape first act old new c.store_chunk_subset.result c.done-in-StoreChunkSubset.result (subst (λ (i : List ℕ). OnOk c.store_chunk_subset.result (StoresPart layout keep i part held old new)) at w.done) (subst (λ (i : List ℕ). IfErr c.store_chunk_subset.result (λ e. RefusesStorePart layout keep i part held (refusal_of e) old new)) at w.refused) c.done-in-StoreChunkSubset.ensures.done c.done-in-StoreChunkSubset.ensures.refused,
      );
      partly = rw c.in-StoreChunkSubset.is (
        shaped,
        patched_step layout keep asked shape first act old new c.store_chunk_subset.result c.done-in-StoreChunkSubset.result (subst (λ (i : List ℕ). OnOk c.store_chunk_subset.result (PatchesPart layout keep asked i part held old new)) at e.partly.done) (subst (λ (i : List ℕ). IfErr c.store_chunk_subset.result (λ e. RefusesPatchPart layout keep asked i part held (refusal_of e) old new)) at e.partly.refused) c.done-in-StoreChunkSubset.ensures.done c.done-in-StoreChunkSubset.ensures.refused,
      );
    }

pub returns-in-StoreArraySubset-clause-step : goal.returns-in-StoreArraySubset-clause-step
returns-in-StoreArraySubset-clause-step g c =
    let layout = layout_of c.args.self.now in
    let keep = stores_empty_chunks c.args.options.now in
    let asked = encodes_partially c.args.options.now in
    let old = g.S.ReadableStorageTraits.state c.args.self.now.storage in
    let new = g.S.ReadableStorageTraits.state c.store_array_subset.new.self.storage in
    let shape = g.G.ChunkGridTraits.array_extents c.args.self.now.layout.grid in
    let region = box_of c.in-StoreArraySubset.array_subset in
    let held = data_of c.in-StoreArraySubset.«data» in
    let e = c.store_array_subset.ensures in
    let shaped = ap (λ own. g.G.ChunkGridTraits.array_extents own.grid) e.partly.layout_kept in
    let act = store region held (chunks_met layout.grid region) in
    let first = store_region_refusal layout shape region held in
    record {
      whole = λ off. let w = e.whole off in rw c.in-StoreArraySubset.is (
        shaped,
        done_step layout keep shape first act old new c.store_array_subset.result c.done-in-StoreArraySubset.result w.done w.refused c.done-in-StoreArraySubset.ensures.done c.done-in-StoreArraySubset.ensures.refused,
      );
      partly = rw c.in-StoreArraySubset.is (
        shaped,
        patched_step layout keep asked shape first act old new c.store_array_subset.result c.done-in-StoreArraySubset.result e.partly.done e.partly.refused c.done-in-StoreArraySubset.ensures.done c.done-in-StoreArraySubset.ensures.refused,
      );
    }

pub returns-in-EraseChunk-clause-step : goal.returns-in-EraseChunk-clause-step
returns-in-EraseChunk-clause-step g c =
    let layout = layout_of c.args.self.now in
    let keep = stores_empty_chunks c.args.options.now in
    let old = g.S.ReadableStorageTraits.state c.args.self.now.storage in
    let new = g.S.ReadableStorageTraits.state c.answer_erase_chunk.new.self.storage in
    let e = c.answer_erase_chunk.ensures in
    let shape = g.G.ChunkGridTraits.array_extents c.args.self.now.layout.grid in
    let step = subst (λ (i : List ℕ). ActStep layout keep shape (length_refusal layout i) (erase (i ∷ [])) c.answer_erase_chunk.result old new) c.deref-in-EraseChunk.ensures.value (e.step keep shape) in
    steps_as (layout_of c.args.self.now) c.args.self.now.layout.lawful c.args.options.now c.args.call.now _ (state_of g.S.ReadableStorageTraits.state c.args.self.now) _
    (rw c.in-EraseChunk.is tt) (rw c.in-EraseChunk.is (ap (λ own. g.G.ChunkGridTraits.array_extents own.grid) e.layout_kept, step))

pub returns-in-CompactChunk-clause-step : goal.returns-in-CompactChunk-clause-step
returns-in-CompactChunk-clause-step g c =
    let layout = layout_of c.args.self.now in
    let keep = stores_empty_chunks c.args.options.now in
    let old = g.S.ReadableStorageTraits.state c.args.self.now.storage in
    let new = g.S.ReadableStorageTraits.state c.answer_compact_chunk.new.self.storage in
    let e = c.answer_compact_chunk.ensures in
    let shape = g.G.ChunkGridTraits.array_extents c.args.self.now.layout.grid in
    let step = subst (λ (i : List ℕ). ActStep layout keep shape (length_refusal layout i) (compact i) c.answer_compact_chunk.result old new) c.deref-in-CompactChunk.ensures.value (e.step keep shape) in
    steps_as (layout_of c.args.self.now) c.args.self.now.layout.lawful c.args.options.now c.args.call.now _ (state_of g.S.ReadableStorageTraits.state c.args.self.now) _
    (rw c.in-CompactChunk.is tt) (rw c.in-CompactChunk.is (ap (λ own. g.G.ChunkGridTraits.array_extents own.grid) e.layout_kept, step))

pub returns-in-EraseChunks-clause-step : goal.returns-in-EraseChunks-clause-step
returns-in-EraseChunks-clause-step g c =
    let e = c.answer_erase_chunks.ensures in
    steps_as (layout_of c.args.self.now) c.args.self.now.layout.lawful c.args.options.now c.args.call.now _ (state_of g.S.ReadableStorageTraits.state c.args.self.now) _
    (rw c.in-EraseChunks.is tt) (rw c.in-EraseChunks.is (ap (λ own. g.G.ChunkGridTraits.array_extents own.grid) e.layout_kept, e.step (stores_empty_chunks c.args.options.now) (g.G.ChunkGridTraits.array_extents c.args.self.now.layout.grid)))

pub returns-in-Ok-clause-step : goal.returns-in-Ok-clause-step
returns-in-Ok-clause-step g c =
    let layout = layout_of c.args.self.now in
    let state = g.S.ReadableStorageTraits.state c.args.self.now.storage in
    let index = c.in-RetrieveChunkIfExists.chunk_indices.items in
    let found = option_map data_of c.in-Ok.found in
    let cells = subst (λ (i : List ℕ). RetrievesIfExists layout i found state) c.deref-in-RetrieveChunkIfExists.ensures.value c.in-Ok.ensures.cells in
    steps_as (layout_of c.args.self.now) c.args.self.now.layout.lawful c.args.options.now c.args.call.now _ (state_of g.S.ReadableStorageTraits.state c.args.self.now) _
    (rw c.in-RetrieveChunkIfExists.is tt) (rw c.in-RetrieveChunkIfExists.is (refl, (refl, found_length layout index found state cells, cells)))

pub retrieve_array_subset-requires : goal.retrieve_array_subset-requires
retrieve_array_subset-requires g c accepted =
    let layout = layout_of c.args.self.now in
    let state = state_of g.S.ReadableStorageTraits.state c.args.self.now in
    let region = box_of c.in-RetrieveArraySubset.array_subset in
    let ask = may_ask_chunks layout (chunks_met layout.grid region) state (subst (λ (call : Call). MayAskCall layout call state) c.in-RetrieveArraySubset.is c.requires accepted) in
    may_read_all layout c.args.self.now.layout.lawful.chain region (chunks_met layout.grid region) state.store ask

pub returns-in-RetrieveChunk-clause-step : goal.returns-in-RetrieveChunk-clause-step
returns-in-RetrieveChunk-clause-step g c =
    let layout = layout_of c.args.self.now in
    let shape = g.G.ChunkGridTraits.array_extents c.args.self.now.layout.grid in
    let keep = stores_empty_chunks c.args.options.now in
    let state = g.S.ReadableStorageTraits.state c.args.self.now.storage in
    let index = c.in-RetrieveChunk.chunk_indices.items in
    let at = c.deref-in-RetrieveChunk.ensures.value in
    let e = c.retrieve_chunk.ensures in
    steps_as (layout_of c.args.self.now) c.args.self.now.layout.lawful c.args.options.now c.args.call.now _ (state_of g.S.ReadableStorageTraits.state c.args.self.now) _
    (rw c.in-RetrieveChunk.is tt) (rw c.in-RetrieveChunk.is (
      refl,
      cells_step layout keep shape (length_refusal layout index) (read_chunk true index) state state c.retrieve_chunk.result c.cells.result (λ (held : ArrayBytes). RetrievesChunk layout index (data_of held) state) (λ (x : ArrayError). RefusesChunkRead layout (length_refusal layout index) true index state (refusal_of x))
          (λ held r. (refl, retrieved_length layout index (data_of held) state r, r))
          (λ x why. (refl, why))
          (subst (λ (i : List ℕ). IfOk c.retrieve_chunk.result (λ (held : ArrayBytes). RetrievesChunk layout i (data_of held) state)) at e.cells)
          (subst (λ (i : List ℕ). IfErr c.retrieve_chunk.result (λ (x : ArrayError). RefusesChunkRead layout (length_refusal layout i) true i state (refusal_of x))) at e.refused)
          c.cells.ensures.cells c.cells.ensures.refused,
    ))

pub returns-in-RetrieveChunks-clause-step : goal.returns-in-RetrieveChunks-clause-step
returns-in-RetrieveChunks-clause-step g c =
    let layout = layout_of c.args.self.now in
    let keep = stores_empty_chunks c.args.options.now in
    let state = g.S.ReadableStorageTraits.state c.args.self.now.storage in
    let shape = g.G.ChunkGridTraits.array_extents c.args.self.now.layout.grid in
    let range = box_of c.in-RetrieveChunks.chunks in
    let e = c.retrieve_chunks.ensures in
    steps_as (layout_of c.args.self.now) c.args.self.now.layout.lawful c.args.options.now c.args.call.now _ (state_of g.S.ReadableStorageTraits.state c.args.self.now) _
    (rw c.in-RetrieveChunks.is tt) (rw c.in-RetrieveChunks.is (
      refl,
      cells_step layout keep shape (read_chunks_refusal layout shape range) (read (chunks_box layout.grid range) (positions range)) state state c.retrieve_chunks.result c.cells-in-RetrieveChunks.result (λ (held : ArrayBytes). RetrievesChunks layout shape range (data_of held) state) (λ (x : ArrayError). RefusesRetrieveChunks layout shape range (refusal_of x) state)
          (λ held r. (refl, r.0, r.1))
          (λ x why. (refl, why))
          e.cells e.refused c.cells-in-RetrieveChunks.ensures.cells c.cells-in-RetrieveChunks.ensures.refused,
    ))

pub returns-in-RetrieveChunkSubset-clause-step : goal.returns-in-RetrieveChunkSubset-clause-step
returns-in-RetrieveChunkSubset-clause-step g c =
    let layout = layout_of c.args.self.now in
    let shape = g.G.ChunkGridTraits.array_extents c.args.self.now.layout.grid in
    let keep = stores_empty_chunks c.args.options.now in
    let state = g.S.ReadableStorageTraits.state c.args.self.now.storage in
    let index = c.in-RetrieveChunkSubset.chunk_indices.items in
    let part = box_of c.in-RetrieveChunkSubset.chunk_subset in
    let at = c.deref-in-RetrieveChunkSubset.ensures.value in
    let e = c.retrieve_chunk_subset.ensures in
    steps_as (layout_of c.args.self.now) c.args.self.now.layout.lawful c.args.options.now c.args.call.now _ (state_of g.S.ReadableStorageTraits.state c.args.self.now) _
    (rw c.in-RetrieveChunkSubset.is tt) (rw c.in-RetrieveChunkSubset.is (
      part_shape layout keep shape index part state c.cells-in-RetrieveChunkSubset.result,
      cells_step layout keep shape (read_part_refusal layout index part) (read_part_act layout index part) state state c.retrieve_chunk_subset.result c.cells-in-RetrieveChunkSubset.result (λ (held : ArrayBytes). RetrievesPart layout index part (data_of held) state) (λ (x : ArrayError). RefusesRetrievePart layout index part (refusal_of x) state)
          (λ held r. part_step layout keep shape index part state held r)
          (λ x why. part_refused_step layout keep shape index part state x why)
          (subst (λ (i : List ℕ). IfOk c.retrieve_chunk_subset.result (λ (held : ArrayBytes). RetrievesPart layout i part (data_of held) state)) at e.cells)
          (subst (λ (i : List ℕ). IfErr c.retrieve_chunk_subset.result (λ (x : ArrayError). RefusesRetrievePart layout i part (refusal_of x) state)) at e.refused)
          c.cells-in-RetrieveChunkSubset.ensures.cells c.cells-in-RetrieveChunkSubset.ensures.refused,
    ))

pub returns-in-RetrieveArraySubset-clause-step : goal.returns-in-RetrieveArraySubset-clause-step
returns-in-RetrieveArraySubset-clause-step g c =
    let layout = layout_of c.args.self.now in
    let keep = stores_empty_chunks c.args.options.now in
    let state = g.S.ReadableStorageTraits.state c.args.self.now.storage in
    let shape = g.G.ChunkGridTraits.array_extents c.args.self.now.layout.grid in
    let region = box_of c.in-RetrieveArraySubset.array_subset in
    let e = c.retrieve_array_subset.ensures in
    steps_as (layout_of c.args.self.now) c.args.self.now.layout.lawful c.args.options.now c.args.call.now _ (state_of g.S.ReadableStorageTraits.state c.args.self.now) _
    (rw c.in-RetrieveArraySubset.is tt) (rw c.in-RetrieveArraySubset.is (
      refl,
      cells_step layout keep shape (read_region_refusal layout shape region) (read region (chunks_met layout.grid region)) state state c.retrieve_array_subset.result c.cells-in-RetrieveArraySubset.result (λ (held : ArrayBytes). RetrievesRegion layout shape region (data_of held) state) (λ (x : ArrayError). RefusesRetrieveRegion layout shape region (refusal_of x) state)
          (λ held r. (refl, r.0, r.1))
          (λ x why. (refl, why))
          e.cells e.refused c.cells-in-RetrieveArraySubset.ensures.cells c.cells-in-RetrieveArraySubset.ensures.refused,
    ))

pub returns-in-StoreChunk-clause-others : goal.returns-in-StoreChunk-clause-others
returns-in-StoreChunk-clause-others g c = keeps_others _ _ c.store_chunk.ensures.layout_kept

pub returns-in-StoreChunks-clause-others : goal.returns-in-StoreChunks-clause-others
returns-in-StoreChunks-clause-others g c = keeps_others _ _ c.store_chunks.ensures.layout_kept

pub returns-in-StoreChunkSubset-clause-others : goal.returns-in-StoreChunkSubset-clause-others
returns-in-StoreChunkSubset-clause-others g c = keeps_others _ _ c.store_chunk_subset.ensures.partly.layout_kept

pub returns-in-StoreArraySubset-clause-others : goal.returns-in-StoreArraySubset-clause-others
returns-in-StoreArraySubset-clause-others g c = keeps_others _ _ c.store_array_subset.ensures.partly.layout_kept

pub returns-in-EraseChunk-clause-others : goal.returns-in-EraseChunk-clause-others
returns-in-EraseChunk-clause-others g c = keeps_others _ _ c.answer_erase_chunk.ensures.layout_kept

pub returns-in-EraseChunks-clause-others : goal.returns-in-EraseChunks-clause-others
returns-in-EraseChunks-clause-others g c = keeps_others _ _ c.answer_erase_chunks.ensures.layout_kept

pub returns-in-CompactChunk-clause-others : goal.returns-in-CompactChunk-clause-others
returns-in-CompactChunk-clause-others g c = keeps_others _ _ c.answer_compact_chunk.ensures.layout_kept

pub answer_resize-requires : goal.answer_resize-requires
answer_resize-requires g c accepted =
    let layout = layout_of c.args.self.now in
    let state = state_of g.S.ReadableStorageTraits.state c.args.self.now in
    let wanted = c.in-Resize.shape.items in
    let asked = may_ask_kept layout wanted (cut_chunks layout.grid state.shape wanted) state (subst (λ (call : Call). MayAskCall layout call state) c.in-Resize.is c.requires
    (subst (λ (i : List ℕ). resize_refusal layout i ≡ None) c.deref-in-Resize.ensures.value accepted)) in
    subst (λ (i : List ℕ). MayAskKept layout i (cut_chunks layout.grid state.shape i) state.store) (sym c.deref-in-Resize.ensures.value) asked

pub returns-in-Resize-clause-step : goal.returns-in-Resize-clause-step
returns-in-Resize-clause-step g c =
    let layout = layout_of c.args.self.now in
    let keep = stores_empty_chunks c.args.options.now in
    let old = state_of g.S.ReadableStorageTraits.state c.args.self.now in
    let new = state_of g.S.ReadableStorageTraits.state c.answer_resize.new.self in
    let e = c.answer_resize.ensures in
    let at = c.deref-in-Resize.ensures.value in
    steps_as (layout_of c.args.self.now) c.args.self.now.layout.lawful c.args.options.now c.args.call.now _ (state_of g.S.ReadableStorageTraits.state c.args.self.now) _
    (rw c.in-Resize.is tt) (rw c.in-Resize.is (
      subst (λ (i : List ℕ). new.shape ≡ shape_after (resize i) c.answer_resize.result old.shape) at e.shape,
      subst (λ (i : List ℕ). ActStep layout keep old.shape (resize_refusal layout i) (resize i) c.answer_resize.result old.store new.store) at e.step,
    ))
