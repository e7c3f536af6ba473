use Rattle.std.proofs.Common.{◌≡◌, SomeIndex, slice_index, refl, sym, ◌∙◌, ap, subst}
use Rattle.std.proofs.lemmas.Bool.{false≢true}
use Rattle.zarrs_subset.specs.Regions.{Box, box_of, empty_box, positions}
use Rattle.zarrs_engine_calls.specs.Refusals.{refusal_of}
use Rattle.zarrs_engine_layout.specs.Layouts.{layout_meaning}
use Rattle.zarrs_engine_layout.specs.Covers.{CoverRegion}
use Rattle.zarrs_engine_layout.proofs.ChunkRanges.{cover_none, cover_range, filled_none, first_accepted, first_refused, has_indices, range_passes}
use Rattle.zarrs_engine_layout.proofs.OneChunk.{empty_is}
use Rattle.zarrs_engine_layout.proofs.array_layout.ArrayLayout.chunks_region.Goals as goal

pub returns-then-is_empty : goal.returns-then-is_empty
returns-then-is_empty g c =
    let layout = layout_meaning c.args.self.now in
    let range = box_of c.args.chunks.now in
    let dimensions = sym c.dimensionality.ensures.count ∙ c.if-dimensionality.false ∙ c.dimensionality-2.ensures in
    let empty : SomeIndex range.shape (λ k. slice_index range.shape k ≡ 0) = c.if-is_empty.ensures.0 refl in
    let is = c.in_ok-new_empty.ensures ∙ ap empty_box c.dimensionality-then-is_empty.ensures.count in
    let cover = subst (λ (b : Box). CoverRegion layout.grid b (positions range)) (sym is)
    (cover_none layout.grid range c.args.chunks.now.same_length dimensions empty.0 empty.1 empty.2) in
    let shape = g.G.ChunkGridTraits.array_extents c.args.self.now.grid in
    let none = filled_none layout shape range c.args.chunks.now.same_length dimensions (empty_is range empty) in
    record { answer = record { region = is ∙ none.0; cover = cover }; accepted = none.1; refused = tt }

pub invalid_range-requires : goal.invalid_range-requires
invalid_range-requires g c =
    let layout = layout_meaning c.args.self.now in
    let range = box_of c.args.chunks.now in
    let dimensions = sym c.dimensionality.ensures.count ∙ c.if-dimensionality.false ∙ c.dimensionality-2.ensures in
    let some = has_indices range (λ empty. false≢true (c.if-is_empty.ensures.1 empty)) in
    let past = rw c.in-Ok-None.field-0-is at c.in-Ok-None.ensures.none in
    range_passes layout range c.args.chunks.now.same_length some dimensions past

pub returns-in-Ok-None : goal.returns-in-Ok-None
returns-in-Ok-None g c =
    let layout = layout_meaning c.args.self.now in
    let shape = g.G.ChunkGridTraits.array_extents c.args.self.now.grid in
    let range = box_of c.args.chunks.now in
    let dimensions = sym c.dimensionality.ensures.count ∙ c.if-dimensionality.false ∙ c.dimensionality-2.ensures in
    let some = has_indices range (λ empty. false≢true (c.if-is_empty.ensures.1 empty)) in
    record { answer = tt; accepted = tt; refused = first_refused layout shape range dimensions some (refusal_of c.invalid_range.result) c.invalid_range.ensures }

pub returns-in-Ok-Some : goal.returns-in-Ok-Some
returns-in-Ok-Some g c =
    let layout = layout_meaning c.args.self.now in
    let shape = g.G.ChunkGridTraits.array_extents c.args.self.now.grid in
    let range = box_of c.args.chunks.now in
    let dimensions = sym c.dimensionality.ensures.count ∙ c.if-dimensionality.false ∙ c.dimensionality-2.ensures in
    let some = has_indices range (λ empty. false≢true (c.if-is_empty.ensures.1 empty)) in
    let value = rw c.in-Ok-Some.field-0-is at c.in-Ok-Some.ensures.value in
    let is_range = (rw c.in-Ok-Some.field-0-is at c.in-Ok-Some.ensures.some) some in
    let cover = subst (λ (b : Box). CoverRegion layout.grid b (positions range)) (sym value)
    (cover_range layout.grid range c.args.chunks.now.same_length c.args.self.now.lawful.grid some is_range) in
    record {
      answer = record { region = value; cover = cover };
      accepted = first_accepted layout shape range dimensions some c.args.chunks.now.same_length is_range;
      refused = tt;
    }
