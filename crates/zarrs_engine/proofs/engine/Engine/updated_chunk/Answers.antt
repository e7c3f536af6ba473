use Rattle.std.proofs.Common.{◌≡◌, ◌∙◌, false, length, rules, ap, subst, sym}
use Rattle.std.proofs.lemmas.Bool.{false≢true}
use Rattle.zarrs_subset.specs.Regions.{Box, box_of, LiesInBox}
use Rattle.zarrs_chunk_grid.specs.Grids.{box_at}
use Rattle.zarrs_chunk_grid.proofs.Chunks.{box_dimensions, box_long}
use Rattle.zarrs_data_type.specs.ArrayData.{data_of}
use Rattle.zarrs_data_type.specs.Parts.{ExtractsCells, TakesCells}
use Rattle.zarrs_engine_calls.specs.Refusals.{is_too_large, refusal_of}
use Rattle.zarrs_engine_calls.specs.StateRefusals.{IsPart}
use Rattle.zarrs_engine_calls.proofs.Contents.{member}
use Rattle.zarrs_engine.specs.Engine.{layout_of}
use Rattle.zarrs_engine_layout.proofs.OneChunk.{covers_lies}
use Rattle.zarrs_engine.proofs.PartWrites.{lies_covers, read_fails, updated_part, updated_whole}
use Rattle.zarrs_engine.proofs.engine.Engine.updated_chunk.Goals as goal

pub returns-then-lies_in_box-clause-updated : goal.returns-then-lies_in_box-clause-updated
returns-then-lies_in_box-clause-updated g c =
    let layout = layout_of c.args.self.now in
    let region = box_of c.args.region.now in
    let held = data_of c.args.region_data.now in
    let index = c.args.chunk.now.indices.now in
    let made = data_of c.in_ok-data.data in
    let lies = subst (λ (b : Box). LiesInBox b region) c.requires.chunk.region (c.lies_in_box.ensures.0 c.if-lies_in_box.true) in
    let covers = lies_covers (box_at layout.grid index) region (box_long layout.grid index) (c.args.region.now.same_length) lies in
    let extracts = subst (λ (b : Box). ExtractsCells layout.kind region held b made) c.requires.chunk.region c.in_ok-data.ensures in
    updated_whole layout region held index (g.S.ReadableStorageTraits.state c.args.self.now.storage) made covers extracts

pub chunk_cells-requires-clause-ask : goal.chunk_cells-requires-clause-ask
chunk_cells-requires-clause-ask g c =
    let layout = layout_of c.args.self.now in
    let region = box_of c.args.region.now in
    let index = c.args.chunk.now.indices.now in
    let part : IsPart layout region index = λ covers.
    let lies = covers_lies layout.grid c.args.self.now.layout.lawful.grid index c.requires.chunk.boxed region (c.args.region.now.same_length) c.requires.dimensions covers in
    false≢true (sym c.if-lies_in_box.false ∙ c.lies_in_box.ensures.1 (subst (λ (b : Box). LiesInBox b region) (sym c.requires.chunk.region) lies)) in
    c.requires.ask index (member index) part

pub returns-in_err-held-clause-refused : goal.returns-in_err-held-clause-refused
returns-in_err-held-clause-refused g c = λ keep.
    let layout = layout_of c.args.self.now in
    let region = box_of c.args.region.now in
    let index = c.args.chunk.now.indices.now in
    let part : IsPart layout region index = λ covers.
    let lies = covers_lies layout.grid c.args.self.now.layout.lawful.grid index c.requires.chunk.boxed region (c.args.region.now.same_length) c.requires.dimensions covers in
    false≢true (sym c.if-lies_in_box.false ∙ c.lies_in_box.ensures.1 (subst (λ (b : Box). LiesInBox b region) (sym c.requires.chunk.region) lies)) in
    let fit = subst (λ (b : Box). is_too_large layout b.shape ≡ false) c.requires.chunk.region c.requires.fit in
    let why = read_fails layout c.args.self.now.layout.lawful keep region (data_of c.args.region_data.now) index (g.S.ReadableStorageTraits.state c.args.self.now.storage)
    c.requires.chunk.boxed fit part (refusal_of c.in_err-held.field-0.0) c.in_err-held.ensures.refused in
    search (rules, why)

pub update_array_bytes-requires-clause-dimensions : goal.update_array_bytes-requires-clause-dimensions
update_array_bytes-requires-clause-dimensions g c =
    let layout = layout_of c.args.self.now in
    ap (λ (b : Box). length b.start) c.requires.chunk.region ∙ box_dimensions layout.grid c.args.chunk.now.indices.now ∙ sym c.requires.dimensions

pub returns-clause-updated : goal.returns-clause-updated
returns-clause-updated g c =
    let layout = layout_of c.args.self.now in
    let region = box_of c.args.region.now in
    let held = data_of c.args.region_data.now in
    let index = c.args.chunk.now.indices.now in
    let before = data_of c.in_ok-held.held in
    let made = data_of c.in_ok-data-2.data in
    let takes = subst (λ (b : Box). TakesCells layout.kind b region held before made) c.requires.chunk.region c.in_ok-data-2.ensures in
    updated_part layout region held index (g.S.ReadableStorageTraits.state c.args.self.now.storage) before made c.in_ok-held.ensures.cells takes

-- the region does not cover the chunk, which is read
pub returns-then-lies_in_box-clause-refusing : goal.returns-then-lies_in_box-clause-refusing
returns-then-lies_in_box-clause-refusing g c = λ part said.
    let layout = layout_of c.args.self.now in
    let region = box_of c.args.region.now in
    let index = c.args.chunk.now.indices.now in
    let lies = subst (λ (b : Box). LiesInBox b region) c.requires.chunk.region (c.lies_in_box.ensures.0 c.if-lies_in_box.true) in
    absurd (part (lies_covers (box_at layout.grid index) region (box_long layout.grid index) (c.args.region.now.same_length) lies))

pub returns-clause-refusing : goal.returns-clause-refusing
returns-clause-refusing g c = λ part said. absurd (false≢true (c.in_ok-held.ensures.refusing said))
