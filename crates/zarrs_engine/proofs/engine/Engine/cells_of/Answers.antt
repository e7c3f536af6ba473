use Rattle.std.proofs.Common.{◌≡◌, ap, sym, subst, ◌∙◌, true, None, Some, replicate}
use Rattle.zarrs_subset.specs.Boxes.{position_count}
use Rattle.zarrs_chunk_grid.specs.Grids.{box_at}
use Rattle.zarrs_data_type_bytes.specs.declared.array_bytes.ArrayBytes.{ArrayBytes}
use Rattle.zarrs_data_type.specs.ArrayData.{ArrayData, data_of}
use Rattle.zarrs_data_type.specs.Cells.{cells}
use Rattle.zarrs_engine.specs.Engine.{layout_of}
use Rattle.zarrs_engine_calls.specs.Changes.{RetrievesChunk}
use Rattle.zarrs_engine_layout.proofs.Chunks.{both_ok, retrieved, retrieved_fill, bytes_refused_then, read_refused_then}
use Rattle.zarrs_engine_calls.specs.declared.error.ArrayError.{ArrayError}
use Rattle.zarrs_engine_calls.specs.Refusals.{RefusesBy, refusal_of, read_refusal, length_refusal}
use Rattle.zarrs_engine_calls.specs.StateRefusals.{RefusesChunkRead}
use Rattle.zarrs_engine.proofs.Cuts.{err_kept}
use Rattle.zarrs_engine.proofs.Puts.{each_error}
use Rattle.zarrs_engine.proofs.engine.Engine.cells_of.Goals as goal

pub returns-in_err-data-in-Some-clause-refused : goal.returns-in_err-data-in-Some-clause-refused
returns-in_err-data-in-Some-clause-refused g c =
    let layout = layout_of c.args.self.now in
    let state = g.S.ReadableStorageTraits.state c.args.self.now.storage in
    let index = c.args.chunk_indices.now in
    let encoded = c.deref.result.now in
    let at = ap Some c.deref.ensures ∙ sym c.in-Some.is ∙ c.requires.stored in
    let why = bytes_refused_then layout true index encoded state (refusal_of c.in_err-data-in-Some.field-0.0) c.requires.long c.requires.asked at c.in_err-data-in-Some.ensures.refused in
    err_kept c.from_residual.result c.in_err-data-in-Some.field-0.0 (λ (e : ArrayError). RefusesChunkRead layout (length_refusal layout index) true index state (refusal_of e)) c.from_residual.ensures.1 why

pub returns-in_ok-into_owned-in-Some-clause-cells : goal.returns-in_ok-into_owned-in-Some-clause-cells
returns-in_ok-into_owned-in-Some-clause-cells g c =
    let layout = layout_of c.args.self.now in
    let lawful = c.args.self.now.layout.lawful in
    let state = g.S.ReadableStorageTraits.state c.args.self.now.storage in
    let index = c.args.chunk_indices.now in
    let encoded = c.deref.result.now in
    let at = ap Some c.deref.ensures ∙ sym c.in-Some.is ∙ c.requires.stored in
    let lent = c.in_ok-data-in-Some in
    let read = retrieved layout lawful index (data_of lent.data) state encoded at lent.ensures.accepted lent.ensures.cells in
    subst (λ (d : ArrayData). RetrievesChunk layout index d state) (sym c.in_ok-into_owned-in-Some.ensures) read

pub returns-in-None-clause-cells : goal.returns-in-None-clause-cells
returns-in-None-clause-cells g c =
    let layout = layout_of c.args.self.now in
    let state = g.S.ReadableStorageTraits.state c.args.self.now.storage in
    let index = c.args.chunk_indices.now in
    both_ok c.fill.result (λ (made : ArrayBytes). cells layout.kind (data_of made) ≡ Some (replicate (position_count (box_at layout.grid index).shape) layout.fill)) (λ (made : ArrayBytes). RetrievesChunk layout index (data_of made) state) _
    (λ made none is. retrieved_fill layout c.args.self.now.layout.lawful index (data_of made) state (sym c.in-None.is ∙ c.requires.stored) none is) c.fill.ensures.accepted c.fill.ensures.answer

pub returns-in-None-clause-refused : goal.returns-in-None-clause-refused
returns-in-None-clause-refused g c =
    let layout = layout_of c.args.self.now in
    let state = g.S.ReadableStorageTraits.state c.args.self.now.storage in
    let index = c.args.chunk_indices.now in
    each_error c.fill.result (λ (e : ArrayError). RefusesBy (read_refusal layout true index None) (refusal_of e)) (λ (e : ArrayError). RefusesChunkRead layout (length_refusal layout index) true index state (refusal_of e))
    (λ e h. read_refused_then layout true index None state (refusal_of e) c.requires.long c.requires.asked (sym c.in-None.is ∙ c.requires.stored) h) c.fill.ensures.refused
