use Rattle.std.proofs.Common.{◌≢◌, Bool, None, cond, length, ◌∙◌, sym, subst}
use Rattle.std.proofs.lemmas.Bool.{false≢true}
use Rattle.zarrs_subset.specs.Regions.{box_of}
use Rattle.zarrs_engine_calls.specs.ArgumentRefusals.{chunk_refusal, range_refusal}
use Rattle.zarrs_engine_calls.specs.ChunkBoxes.{last_of}
use Rattle.zarrs_engine_calls.specs.Refusals.{RefusesBy, refusal_of}
use Rattle.zarrs_engine_calls.proofs.RefusalLemmas.{refused_first}
use Rattle.zarrs_engine_layout.proofs.Chunks.{wrong_length}
use Rattle.zarrs_engine_layout.proofs.ChunkParts.{chunk_refused}
use Rattle.zarrs_engine_layout.proofs.ChunkRanges.{has_indices, range_some}
use Rattle.zarrs.specs.Arrays.{layout_of_array}
use Rattle.zarrs.proofs.array.Array.range_subset.Goals as goal

pub returns-then-dimensionality : goal.returns-then-dimensionality
returns-then-dimensionality g c =
    let layout = layout_of_array c.args.self.now in
    let range = box_of c.args.chunks.now in
    let e = c.invalid_indices.result in
    let some = has_indices range (λ empty. false≢true (c.if-is_empty.ensures.1 empty)) in
    let wrong : length range.start ≢ layout.grid.dimensions = λ same. c.if-dimensionality.true (c.dimensionality-2.ensures.count ∙ same ∙ sym c.dimensionality-3.ensures) in
    let said = chunk_refused layout range.start e (wrong_length layout range.start wrong) (rw c.start.ensures at c.invalid_indices.ensures) in
    let first = refused_first (chunk_refusal layout range.start) (chunk_refusal layout (last_of range)) (refusal_of e) said in
    let refused = subst (λ (b : Bool). RefusesBy (cond b None (range_refusal layout range)) (refusal_of e)) (sym (range_some range some)) first in
    record { answer = tt; accepted = tt; refused = refused }
