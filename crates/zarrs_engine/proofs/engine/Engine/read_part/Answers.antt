use Rattle.std.proofs.Common.{◌≡◌, Some, None, [], ◌∷◌, replicate, rules}
use Rattle.std.proofs.lemmas.Bool.{iff_false}
use Rattle.std.proofs.lemmas.Result.{IfOk-weaker}
use Rattle.zarrs_subset.specs.Boxes.{position_count}
use Rattle.zarrs_subset.specs.Regions.{Box, box_of}
use Rattle.zarrs_data_type_bytes.specs.declared.array_bytes.ArrayBytes.{ArrayBytes}
use Rattle.zarrs_data_type.specs.ArrayData.{data_of}
use Rattle.zarrs_data_type.specs.Cells.{cells}
use Rattle.zarrs_engine_calls.specs.declared.error.ArrayError.{ArrayError}
use Rattle.zarrs_engine_layout.specs.Steps.{filled_refusal}
use Rattle.zarrs_engine_calls.specs.Content.{value_at}
use Rattle.zarrs_engine_calls.specs.Refusals.{RefusesBy, refusal_of}
use Rattle.zarrs_engine_calls.specs.StateRefusals.{RefusesSomeChunk}
use Rattle.zarrs_engine.specs.Engine.{layout_of}
use Rattle.zarrs_engine.specs.RegionReads.{DecodesStored, HasRead, IsRegionOf}
use Rattle.zarrs_engine.proofs.PartReads.{absent_filled, empty_filled, filled_read, filled_refused, region_absent, region_decoded, region_empty, region_seen}
use Rattle.zarrs_engine.proofs.Puts.{each_error}
use Rattle.zarrs_engine.proofs.engine.Engine.read_part.Goals as goal

pub returns-then-is_empty-clause-read : goal.returns-then-is_empty-clause-read
returns-then-is_empty-clause-read g c =
    let layout = layout_of c.args.self.now in
    let lawful = c.args.self.now.layout.lawful in
    let state = g.S.ReadableStorageTraits.state c.args.self.now.storage in
    let index = c.args.chunk_indices.now in
    let part = box_of c.args.part.now in
    let none = c.is_empty.ensures.0 c.if-is_empty.true in
    IfOk-weaker c.filled.result (λ (made : ArrayBytes). cells layout.kind (data_of made) ≡ Some (replicate (position_count part.shape) layout.fill))
    (λ (made : ArrayBytes). (region : Box) → IsRegionOf layout index part region → HasRead layout region (index ∷ []) state (data_of made))
    (λ made are region is. filled_read layout lawful index c.requires.boxed part region state is (data_of made) are (region_empty layout lawful index c.requires.boxed part region state is none))
    c.filled.ensures.answer

pub returns-then-is_empty-clause-refused : goal.returns-then-is_empty-clause-refused
returns-then-is_empty-clause-refused g c =
    let layout = layout_of c.args.self.now in
    let lawful = c.args.self.now.layout.lawful in
    let state = g.S.ReadableStorageTraits.state c.args.self.now.storage in
    let index = c.args.chunk_indices.now in
    let part = box_of c.args.part.now in
    let none = c.is_empty.ensures.0 c.if-is_empty.true in
    each_error c.filled.result (λ (e : ArrayError). RefusesBy (filled_refusal layout part.shape) (refusal_of e))
    (λ (e : ArrayError). (region : Box) → IsRegionOf layout index part region → RefusesSomeChunk layout region (index ∷ []) state (refusal_of e))
    (λ e why region is. filled_refused layout lawful index c.requires.boxed part region state is (refusal_of e) c.requires.size (empty_filled layout lawful index c.requires.boxed part region state is none) why) c.filled.ensures.refused

pub returns-in_err-made-clause-refused : goal.returns-in_err-made-clause-refused
returns-in_err-made-clause-refused g c =
    let layout = layout_of c.args.self.now in
    let state = g.S.ReadableStorageTraits.state c.args.self.now.storage in
    let index = c.args.chunk_indices.now in
    let why : (region : Box) → IsRegionOf layout index (box_of c.args.part.now) region → RefusesSomeChunk layout region (index ∷ []) state (refusal_of c.in_err-made.field-0.0) =
    λ region is. c.in_err-made.ensures.refused region is.proper (region_seen layout index (box_of c.args.part.now) region is) in
    search (rules, why)

pub returns-in-Some-clause-read : goal.returns-in-Some-clause-read
returns-in-Some-clause-read g c = λ region is.
    let layout = layout_of c.args.self.now in
    let state = g.S.ReadableStorageTraits.state c.args.self.now.storage in
    let index = c.args.chunk_indices.now in
    let part = box_of c.args.part.now in
    let decodes : DecodesStored layout index part state (data_of c.in-Some.made) = rw c.in-Some.is at c.in_ok-made.ensures.part in
    let empty = iff_false c.is_empty.ensures c.if-is_empty.false in
    region_decoded layout c.args.self.now.layout.lawful index c.requires.boxed part region state is (λ k below zero. empty (k, below, zero)) (data_of c.in-Some.made) decodes

pub returns-in-None-clause-read : goal.returns-in-None-clause-read
returns-in-None-clause-read g c =
    let layout = layout_of c.args.self.now in
    let lawful = c.args.self.now.layout.lawful in
    let state = g.S.ReadableStorageTraits.state c.args.self.now.storage in
    let index = c.args.chunk_indices.now in
    let part = box_of c.args.part.now in
    let absent : value_at state (layout.key index) ≡ None = rw c.in-None.is at c.in_ok-made.ensures.absent in
    IfOk-weaker c.filled-in-None.result (λ (made : ArrayBytes). cells layout.kind (data_of made) ≡ Some (replicate (position_count part.shape) layout.fill))
    (λ (made : ArrayBytes). (region : Box) → IsRegionOf layout index part region → HasRead layout region (index ∷ []) state (data_of made))
    (λ made are region is. filled_read layout lawful index c.requires.boxed part region state is (data_of made) are (region_absent layout lawful index c.requires.boxed part region state is absent))
    c.filled-in-None.ensures.answer

pub returns-in-None-clause-refused : goal.returns-in-None-clause-refused
returns-in-None-clause-refused g c =
    let layout = layout_of c.args.self.now in
    let lawful = c.args.self.now.layout.lawful in
    let state = g.S.ReadableStorageTraits.state c.args.self.now.storage in
    let index = c.args.chunk_indices.now in
    let part = box_of c.args.part.now in
    let absent : value_at state (layout.key index) ≡ None = rw c.in-None.is at c.in_ok-made.ensures.absent in
    each_error c.filled-in-None.result (λ (e : ArrayError). RefusesBy (filled_refusal layout part.shape) (refusal_of e))
    (λ (e : ArrayError). (region : Box) → IsRegionOf layout index part region → RefusesSomeChunk layout region (index ∷ []) state (refusal_of e))
    (λ e why region is. filled_refused layout lawful index c.requires.boxed part region state is (refusal_of e) c.requires.size (absent_filled layout lawful index c.requires.boxed part region state is absent) why) c.filled-in-None.ensures.refused
