use Rattle.std.proofs.Common.{List, ℕ, Some, refl, sym, subst}
use Rattle.std.proofs.lemmas.Bool.{false≢true}
use Rattle.zarrs_subset.specs.Regions.{LiesInShape, box_of}
use Rattle.zarrs_engine_calls.specs.Refusals as refusal
use Rattle.zarrs_engine_calls.specs.Refusals.{RefusesBy, refusal_of}
use Rattle.zarrs_engine_layout.specs.Layouts.{layout_meaning}
use Rattle.zarrs_engine_layout.proofs.ChunkParts.{part_accepted, part_refused}
use Rattle.zarrs_engine_layout.proofs.array_layout.ArrayLayout.check_part.Goals as goal

pub returns-then-not-inbounds_shape : goal.returns-then-not-inbounds_shape
returns-then-not-inbounds_shape g c =
    let layout = layout_meaning c.args.self.now in
    let index = c.args.chunk_indices.now in
    let part = box_of c.args.part.now in
    let e = c.invalid_part.result in
    let out = λ (lies : LiesInShape part _). false≢true (c.if-not-inbounds_shape.ensures.1 (subst (LiesInShape part) (sym c.requires) lies)) in
    let why = part_refused layout index part e out
    (subst (λ (extents : List ℕ). RefusesBy (Some (refusal.chunk_subset part index extents)) (refusal_of e)) c.requires c.invalid_part.ensures) in
    record { answer = tt; accepted = tt; refused = why }

pub returns : goal.returns
returns g c =
    let part = box_of c.args.part.now in
    let inside = c.if-not-inbounds_shape.ensures.0 refl in
    let none = part_accepted (layout_meaning c.args.self.now) c.args.chunk_indices.now part c.args.part.now.same_length (subst (LiesInShape part) c.requires inside) in
    record { answer = inside; accepted = none; refused = tt }
