use Rattle.std.proofs.Common.{◌∙◌, rules, ap, subst, sym}
use Rattle.std.proofs.lemmas.Bool.{false≢true}
use Rattle.zarrs_subset.specs.Regions.{Box, box_of, positions}
use Rattle.zarrs_chunk_grid.specs.Grids.{index_at}
use Rattle.zarrs_engine_calls.specs.ArgumentRefusals.{chunk_refusal}
use Rattle.zarrs_engine_calls.specs.Refusals.{RefusesBy, refusal_of}
use Rattle.zarrs_engine_layout.specs.Layouts.{layout_meaning}
use Rattle.zarrs_engine_layout.proofs.ChunkParts.{chunk_accepted}
use Rattle.zarrs_engine_layout.proofs.OneChunk.{box_test, first_boxed, first_chunk, not_empty, one_some}
use Rattle.zarrs_engine_layout.proofs.array_layout.ArrayLayout.is_one_chunk.Goals as goal

pub returns-in_err-chunk-clause-refused : goal.returns-in_err-chunk-clause-refused
returns-in_err-chunk-clause-refused g c =
    let layout = layout_meaning c.args.self.now in
    let region = box_of c.args.region.now in
    let some = not_empty region (λ at. false≢true (sym c.if-is_empty.false ∙ c.is_empty.ensures.1 at)) in
    let is = c.start.ensures ∙ ap (λ (b : Box). b.start) c.requires.met ∙ first_chunk layout.grid region some in
    let has = first_boxed layout.grid region (positions (box_of c.args.chunks.now)) c.requires.cover some in
    let none = ap (chunk_refusal layout) is ∙ chunk_accepted layout (index_at layout.grid region.start) has in
    let why = subst (λ o. RefusesBy o (refusal_of c.in_err-chunk.field-0.0)) none c.in_err-chunk.ensures.refused in
    search (rules, why)

pub returns-clause-one : goal.returns-clause-one
returns-clause-one g c =
    let layout = layout_meaning c.args.self.now in
    let region = box_of c.args.region.now in
    let chunk = box_of c.in_ok-chunk.chunk in
    let some = not_empty region (λ at. false≢true (sym c.if-is_empty.false ∙ c.is_empty.ensures.1 at)) in
    let is = c.start.ensures ∙ ap (λ (b : Box). b.start) c.requires.met ∙ first_chunk layout.grid region some in
    box_test region chunk c.eq.result c.eq.ensures
    ∙ sym (one_some layout.grid region c.start.result.now chunk some is c.in_ok-chunk.ensures.answer)
