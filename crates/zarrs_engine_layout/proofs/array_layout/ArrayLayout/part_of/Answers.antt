use Rattle.std.proofs.Common.{List, ℕ, ◌∙◌, ap, subst, rules}
use Rattle.zarrs_subset.specs.Refusals.{RefusesShift}
use Rattle.zarrs_subset.specs.Regions.{LiesInShape, box_of, shifted_box}
use Rattle.zarrs_engine_calls.specs.ArgumentRefusals.{part_refusal}
use Rattle.zarrs_engine_layout.specs.Layouts.{layout_meaning}
use Rattle.zarrs_engine_layout.proofs.ChunkParts.{shift_refused, shifted_part}
use Rattle.zarrs_engine_layout.proofs.array_layout.ArrayLayout.part_of.Goals as goal

pub returns-in_err-region : goal.returns-in_err-region
returns-in_err-region g c =
    let chunk = box_of c.args.chunk.now in
    let part = box_of c.args.part.now in
    let first = part_refusal (layout_meaning c.args.self.now) c.args.chunk_indices.now part in
    let lies = subst (LiesInShape part) c.shape.ensures c.in_ok-check_part.ensures.answer in
    let e = c.in_err-region.field-0.0 in
    let shift = subst (λ (offset : List ℕ). RefusesShift part.start part.shape offset e) c.start.ensures c.in_err-region.ensures.refused in
    let why = shift_refused first chunk part e c.args.chunk.now.same_length c.args.chunk.now.ends_fit lies shift in
    search (rules, why)

pub returns : goal.returns
returns g c =
    let chunk = box_of c.args.chunk.now in
    let part = box_of c.args.part.now in
    let at = c.in_ok-region.ensures.value ∙ ap (λ (offset : List ℕ). shifted_box part offset) c.start.ensures ∙ shifted_part chunk part in
    record { answer = at; accepted = c.in_ok-check_part.ensures.accepted; refused = tt }
