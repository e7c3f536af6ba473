use Rattle.std.proofs.Common.{◌≡◌, ◌∙◌, true, [], ◌∷◌, None, OnOk, Result, Ok, Err, rules, sym, ap, subst, inl, inr}
use Rattle.std.proofs.lemmas.Bool.{false≢true}
use Rattle.std.proofs.lemmas.Result.{IfOk-weaker}
use Rattle.std.proofs.lemmas.Slice.Eq.{bytes_eq-Decides}
use Rattle.zarrs_subset.specs.Regions.{Box, Holds, LiesInShape, box_of, overlap_of}
use Rattle.zarrs_data_type_bytes.specs.declared.array_bytes.ArrayBytes.{ArrayBytes}
use Rattle.zarrs_chunk_grid.specs.Grids.{box_at}
use Rattle.zarrs_data_type.specs.ArrayData.{data_of}
use Rattle.zarrs_engine_calls.specs.declared.error.ArrayError.{ArrayError}
use Rattle.zarrs_engine_calls.specs.ArgumentRefusals.{size_refusal}
use Rattle.zarrs_engine_calls.specs.Changes.{RetrievesChunk}
use Rattle.zarrs_engine_calls.specs.Reads.{ReadsRegion}
use Rattle.zarrs_engine_calls.specs.Refusals.{length_refusal, refusal_of}
use Rattle.zarrs_engine_calls.specs.StateRefusals.{RefusesChunkRead, RefusesRegionRead, RefusesSomeChunk}
use Rattle.zarrs_engine_layout.specs.Shared.{AreApart, AreShared}
use Rattle.zarrs_engine.specs.Engine.{layout_of}
use Rattle.zarrs_engine.specs.RegionReads.{HasRead, IsRegionOf}
use Rattle.zarrs_engine.proofs.OneChunkReads.{chunk_read, chunk_refused, has, not_apart, same_box, shared_part}
use Rattle.zarrs_engine.proofs.PartBytes.{box_why}
use Rattle.zarrs_engine.proofs.PartReads.{part_asked}
use Rattle.zarrs_engine.proofs.Puts.{each_error}
use Rattle.zarrs_engine.proofs.RegionReads.{read_all}
use Rattle.zarrs_engine.proofs.engine.Engine.read_in_chunk.Goals as goal

-- what holds anyway holds where there is an answer
ok_so : {A E : Type 0} (result : Result A E) (P : Type 0) → P → OnOk result P
ok_so (Ok x) P p = p
ok_so (Err e) P p = tt

pub returns-in_err-cell_count : goal.returns-in_err-cell_count
returns-in_err-cell_count g c =
    let layout = layout_of c.args.self.now in
    let state = g.S.ReadableStorageTraits.state c.args.self.now.storage in
    let region = box_of c.args.region.now in
    let why : RefusesRegionRead layout (size_refusal layout region.shape) region (c.args.chunk_indices.now ∷ []) state (refusal_of c.in_err-cell_count.field-0.0) =
    inl c.in_err-cell_count.ensures.refused in
    search (rules, why)

pub returns-in_err-extents : goal.returns-in_err-extents
returns-in_err-extents g c =
    let layout = layout_of c.args.self.now in
    let state = g.S.ReadableStorageTraits.state c.args.self.now.storage in
    let region = box_of c.args.region.now in
    let index = c.args.chunk_indices.now in
    let has = has layout c.args.self.now.layout.lawful region index c.requires.cover in
    let why : RefusesRegionRead layout (size_refusal layout region.shape) region (index ∷ []) state (refusal_of c.in_err-extents.field-0.0) =
    inr (c.in_ok-cell_count.ensures.accepted, box_why layout region index state has (refusal_of c.in_err-extents.field-0.0) c.in_err-extents.ensures.refused) in
    search (rules, why)

pub retrieve_chunk-requires : goal.retrieve_chunk-requires
retrieve_chunk-requires g c =
    let layout = layout_of c.args.self.now in
    let region = box_of c.args.region.now in
    let shape = c.as_slice-shape.ensures ∙ c.in_ok-extents.ensures.answer in
    let shapes = sym c.shape.ensures ∙ (bytes_eq-Decides c.shape.result.now c.as_slice-shape.result.now).0 (sym c.eq.ensures ∙ c.if-eq.true) ∙ shape in
    let same = same_box layout c.args.self.now.layout.lawful region c.args.chunk_indices.now c.requires.cover c.requires.some shapes in
    c.requires.ask.whole (λ position holds. subst (λ (b : Box). Holds b position) (sym same) holds)

pub returns-then-eq : goal.returns-then-eq
returns-then-eq g c =
    let layout = layout_of c.args.self.now in
    let lawful = c.args.self.now.layout.lawful in
    let state = g.S.ReadableStorageTraits.state c.args.self.now.storage in
    let region = box_of c.args.region.now in
    let index = c.args.chunk_indices.now in
    let shape = c.as_slice-shape.ensures ∙ c.in_ok-extents.ensures.answer in
    let shapes = sym c.shape.ensures ∙ (bytes_eq-Decides c.shape.result.now c.as_slice-shape.result.now).0 (sym c.eq.ensures ∙ c.if-eq.true) ∙ shape in
    let same = same_box layout lawful region index c.requires.cover c.requires.some shapes in
    let fits = c.in_ok-cell_count.ensures.accepted in
    record {
      read = IfOk-weaker c.retrieve_chunk.result (λ (made : ArrayBytes). RetrievesChunk layout index (data_of made) state) (λ (made : ArrayBytes). ReadsRegion layout region (index ∷ []) (data_of made) state)
          (λ made r. chunk_read layout lawful region index c.requires.cover state same (data_of made) r) c.retrieve_chunk.ensures.cells;
      accepted = ok_so c.retrieve_chunk.result (size_refusal layout region.shape ≡ None) fits;
      refused = each_error c.retrieve_chunk.result (λ (e : ArrayError). RefusesChunkRead layout (length_refusal layout index) true index state (refusal_of e))
          (λ (e : ArrayError). RefusesRegionRead layout (size_refusal layout region.shape) region (index ∷ []) state (refusal_of e))
          (λ e why. chunk_refused layout lawful region index c.requires.cover state same fits (refusal_of e) why) c.retrieve_chunk.ensures.refused;
    }

pub read_part-requires-clause-part : goal.read_part-requires-clause-part
read_part-requires-clause-part g c =
    let layout = layout_of c.args.self.now in
    let region = box_of c.args.region.now in
    let box = box_at layout.grid c.args.chunk_indices.now in
    let part = box_of c.in-Some.part in
    let shared : AreShared region box (overlap_of region box) part = rw c.in-Some.is at c.in_ok-part.ensures.some in
    subst (LiesInShape part) (sym (c.as_slice-shape.ensures ∙ c.in_ok-extents.ensures.answer)) shared.lies

pub read_part-requires-clause-size : goal.read_part-requires-clause-size
read_part-requires-clause-size g c =
    let layout = layout_of c.args.self.now in
    let lawful = c.args.self.now.layout.lawful in
    let region = box_of c.args.region.now in
    let index = c.args.chunk_indices.now in
    let box = box_at layout.grid index in
    let part = box_of c.in-Some.part in
    let shape = c.as_slice-shape.ensures ∙ c.in_ok-extents.ensures.answer in
    let apart : region.shape ≡ box.shape → ⊥ = λ same. false≢true (sym c.if-eq.false ∙ c.eq.ensures ∙ (bytes_eq-Decides c.shape.result.now c.as_slice-shape.result.now).1 (c.shape.ensures ∙ same ∙ sym shape)) in
    let shared : AreShared region box (overlap_of region box) part = rw c.in-Some.is at c.in_ok-part.ensures.some in
    let is = shared_part layout lawful region index c.requires.cover c.requires.some apart part shared in
    ap (λ (b : Box). size_refusal layout b.shape) is.seen ∙ c.in_ok-cell_count.ensures.accepted

pub read_part-requires-clause-ask : goal.read_part-requires-clause-ask
read_part-requires-clause-ask g c =
    let layout = layout_of c.args.self.now in
    let lawful = c.args.self.now.layout.lawful in
    let state = g.S.ReadableStorageTraits.state c.args.self.now.storage in
    let region = box_of c.args.region.now in
    let index = c.args.chunk_indices.now in
    let box = box_at layout.grid index in
    let part = box_of c.in-Some.part in
    let shape = c.as_slice-shape.ensures ∙ c.in_ok-extents.ensures.answer in
    let apart : region.shape ≡ box.shape → ⊥ = λ same. false≢true (sym c.if-eq.false ∙ c.eq.ensures ∙ (bytes_eq-Decides c.shape.result.now c.as_slice-shape.result.now).1 (c.shape.ensures ∙ same ∙ sym shape)) in
    let shared : AreShared region box (overlap_of region box) part = rw c.in-Some.is at c.in_ok-part.ensures.some in
    let is = shared_part layout lawful region index c.requires.cover c.requires.some apart part shared in
    part_asked layout index part region state is.long is.lies is.seen c.requires.ask.part

pub returns-in-Some : goal.returns-in-Some
returns-in-Some g c =
    let layout = layout_of c.args.self.now in
    let lawful = c.args.self.now.layout.lawful in
    let state = g.S.ReadableStorageTraits.state c.args.self.now.storage in
    let region = box_of c.args.region.now in
    let index = c.args.chunk_indices.now in
    let box = box_at layout.grid index in
    let part = box_of c.in-Some.part in
    let shape = c.as_slice-shape.ensures ∙ c.in_ok-extents.ensures.answer in
    let apart : region.shape ≡ box.shape → ⊥ = λ same. false≢true (sym c.if-eq.false ∙ c.eq.ensures ∙ (bytes_eq-Decides c.shape.result.now c.as_slice-shape.result.now).1 (c.shape.ensures ∙ same ∙ sym shape)) in
    let shared : AreShared region box (overlap_of region box) part = rw c.in-Some.is at c.in_ok-part.ensures.some in
    let is = shared_part layout lawful region index c.requires.cover c.requires.some apart part shared in
    let fits = c.in_ok-cell_count.ensures.accepted in
    record {
      read = IfOk-weaker c.read_part.result (λ (made : ArrayBytes). (region : Box) → IsRegionOf layout index part region → HasRead layout region (index ∷ []) state (data_of made))
          (λ (made : ArrayBytes). ReadsRegion layout region (index ∷ []) (data_of made) state)
          (λ made r. read_all layout lawful region (index ∷ []) state (data_of made) c.requires.cover (r region is)) c.read_part.ensures.read;
      accepted = ok_so c.read_part.result (size_refusal layout region.shape ≡ None) fits;
      refused = each_error c.read_part.result (λ (e : ArrayError). (region : Box) → IsRegionOf layout index part region → RefusesSomeChunk layout region (index ∷ []) state (refusal_of e))
          (λ (e : ArrayError). RefusesRegionRead layout (size_refusal layout region.shape) region (index ∷ []) state (refusal_of e))
          (λ e why. inr (fits, why region is)) c.read_part.ensures.refused;
    }

pub returns : goal.returns
returns g c =
    let layout = layout_of c.args.self.now in
    let region = box_of c.args.region.now in
    let index = c.args.chunk_indices.now in
    let none : AreApart region (box_at layout.grid index) = rw c.in-None.is at c.in_ok-part.ensures.none in
    absurd (not_apart layout c.args.self.now.layout.lawful region index c.requires.cover c.requires.some none)
