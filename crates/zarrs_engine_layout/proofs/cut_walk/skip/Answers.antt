use Rattle.std.proofs.Common.{◌≡◌, ◌∙◌, ◌≤◌, ◌-◌, List, ℕ, true, false, length, slice_index, refl, sym, subst, arith}
use Rattle.zarrs_subset.specs.Regions.{box_at_origin, place_in}
use Rattle.zarrs_engine_calls.specs.Cuts.{is_below}
use Rattle.zarrs_engine_layout.specs.WholeChunks.{PassesBelow}
use Rattle.zarrs_engine_calls.proofs.Below.{below_along}
use Rattle.zarrs_engine_layout.proofs.CutWalks.{filled_is, filled_long, reach_within, skip_inside, skip_next, skip_outside, skip_passes}
use Rattle.zarrs_engine_layout.proofs.cut_walk.skip.Goals as goal

pub lies_below-requires : goal.lies_below-requires
lies_below-requires c = c.requires.same_length ∙ sym (below_along c.args.shape.now c.args.position.now c.requires.inside).same_length

pub slice_bounds-fill-count : goal.slice_bounds-fill-count
slice_bounds-fill-count c = let within = reach_within c.args.shape.now c.args.whole.now c.args.position.now c.args.axis c.requires.inside c.requires.reaches in omega arith

pub slice_bounds-fill-start : goal.slice_bounds-fill-start
slice_bounds-fill-start c =
    let within = reach_within c.args.shape.now c.args.whole.now c.args.position.now c.args.axis c.requires.inside c.requires.reaches in
    let upto : c.args.axis ≤ length c.args.position.now = omega arith in
    upto

pub bounds-position-axis : goal.bounds-position-axis
bounds-position-axis c =
    let within = reach_within c.args.shape.now c.args.whole.now c.args.position.now c.args.axis c.requires.inside c.requires.reaches in
    let long = filled_long c.args.position.now c.fill.new.self c.args.axis (length c.args.position.now - c.args.axis) c.fill.ensures.len in
    omega arith

pub returns-clause-inside : goal.returns-clause-inside
returns-clause-inside c =
    let shape = c.args.shape.now in
    let whole = c.args.whole.now in
    let p = c.args.position.now in
    let d = c.args.axis in
    let low = sym c.lies_below.ensures ∙ c.if-not-lies_below.false in
    let is = filled_is p c.fill.new.self d (length p - d) (slice_index whole d) (reach_within shape whole p d c.requires.inside c.requires.reaches) refl (c.fill.ensures.after (λ y h. h)) in
    subst (λ (q : List ℕ). is_below shape q ≡ true) (sym is) (skip_inside shape whole p d c.requires.same_length c.requires.inside low c.requires.reaches)

pub returns-clause-outside : goal.returns-clause-outside
returns-clause-outside c =
    let shape = c.args.shape.now in
    let whole = c.args.whole.now in
    let p = c.args.position.now in
    let d = c.args.axis in
    let low = sym c.lies_below.ensures ∙ c.if-not-lies_below.false in
    let is = filled_is p c.fill.new.self d (length p - d) (slice_index whole d) (reach_within shape whole p d c.requires.inside c.requires.reaches) refl (c.fill.ensures.after (λ y h. h)) in
    subst (λ (q : List ℕ). is_below whole q ≡ false) (sym is) (skip_outside shape whole p d c.requires.same_length c.requires.inside low c.requires.reaches)

pub returns-clause-next : goal.returns-clause-next
returns-clause-next c =
    let shape = c.args.shape.now in
    let whole = c.args.whole.now in
    let p = c.args.position.now in
    let d = c.args.axis in
    let low = sym c.lies_below.ensures ∙ c.if-not-lies_below.false in
    let is = filled_is p c.fill.new.self d (length p - d) (slice_index whole d) (reach_within shape whole p d c.requires.inside c.requires.reaches) refl (c.fill.ensures.after (λ y h. h)) in
    subst (λ (q : List ℕ). place_in (box_at_origin shape) p ≤ place_in (box_at_origin shape) q) (sym is) (skip_next shape whole p d c.requires.same_length c.requires.inside low c.requires.reaches)

pub returns-clause-passes : goal.returns-clause-passes
returns-clause-passes c =
    let shape = c.args.shape.now in
    let whole = c.args.whole.now in
    let p = c.args.position.now in
    let d = c.args.axis in
    let low = sym c.lies_below.ensures ∙ c.if-not-lies_below.false in
    let is = filled_is p c.fill.new.self d (length p - d) (slice_index whole d) (reach_within shape whole p d c.requires.inside c.requires.reaches) refl (c.fill.ensures.after (λ y h. h)) in
    subst (λ (q : List ℕ). PassesBelow shape whole (place_in (box_at_origin shape) p) (place_in (box_at_origin shape) q)) (sym is)
    (skip_passes shape whole p d c.requires.same_length c.requires.inside low c.requires.reaches c.requires.later)
