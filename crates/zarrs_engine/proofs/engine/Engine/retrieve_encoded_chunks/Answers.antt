use Rattle.std.proofs.Common.{◌≡◌, ◌∙◌, ◌+◌, Some, slice_get, length, option_map, rules, refl, subst, sym, arith}
use Rattle.std.proofs.lemmas.Option.{slice_get_within}
use Rattle.zarrs_subset.specs.Regions.{Box, box_of, positions}
use Rattle.zarrs_subset.specs.Walks.{walk_number}
use Rattle.zarrs_subset.proofs.Positions.{length-positions}
use Rattle.zarrs_engine_calls.specs.Refusals.{refusal_of}
use Rattle.zarrs_engine.specs.Engine.{layout_of}
use Rattle.zarrs_engine.proofs.Encoded.{keys_all, keys_more, on_error, values_more, values_all, value_refused}
use Rattle.zarrs_engine.proofs.Ranges.{range_length}
use Rattle.zarrs_engine.proofs.RegionSteps.{at_among}
use Rattle.zarrs_engine.proofs.engine.Engine.retrieve_encoded_chunks.Goals as goal

pub retrieve_encoded_chunk-requires-clause-dimensions : goal.retrieve_encoded_chunk-requires-clause-dimensions
retrieve_encoded_chunk-requires-clause-dimensions g c =
    let range = box_of c.args.chunks.now in
    let n = walk_number c.loop-walk.walk in
    let index = c.current.result.now in
    let at = subst (λ (b : Box). slice_get (positions b) n ≡ Some index) c.loop-walk.invariant.same_box c.current.ensures in
    range_length range c.args.chunks.now.same_length n index at ∙ c.requires.dimensions

pub retrieve_encoded_chunk-requires-clause-ask : goal.retrieve_encoded_chunk-requires-clause-ask
retrieve_encoded_chunk-requires-clause-ask g c =
    let chunks = positions (box_of c.args.chunks.now) in
    let n = walk_number c.loop-walk.walk in
    let index = c.current.result.now in
    let at = subst (λ (b : Box). slice_get (positions b) n ≡ Some index) c.loop-walk.invariant.same_box c.current.ensures in
    c.requires.ask index (at_among chunks n index at)

pub loop-walk-smaller : goal.loop-walk-smaller
loop-walk-smaller g c =
    let chunks = positions (box_of c.args.chunks.now) in
    let n = walk_number c.loop-walk.walk in
    let index = c.current.result.now in
    let at = subst (λ (b : Box). slice_get (positions b) n ≡ Some index) c.loop-walk.invariant.same_box c.current.ensures in
    let here = slice_get_within chunks n index at in
    let next = c.if-not-advance.ensures.next in
    omega arith

pub returns-in_err-value-clause-refused : goal.returns-in_err-value-clause-refused
returns-in_err-value-clause-refused g c =
    let layout = layout_of c.args.self.now in
    let state = g.S.ReadableStorageTraits.state c.args.self.now.storage in
    let chunks = positions (box_of c.args.chunks.now) in
    let n = walk_number c.loop-walk.walk in
    let index = c.current.result.now in
    let at = subst (λ (b : Box). slice_get (positions b) n ≡ Some index) c.loop-walk.invariant.same_box c.current.ensures in
    let why = value_refused layout state chunks index (refusal_of c.in_err-value.field-0.0) (at_among chunks n index at) c.in_err-value.ensures.refused in
    search (rules, why)

pub returns-then-not-advance-clause-values : goal.returns-then-not-advance-clause-values
returns-then-not-advance-clause-values g c =
    let layout = layout_of c.args.self.now in
    let state = g.S.ReadableStorageTraits.state c.args.self.now.storage in
    let chunks = positions (box_of c.args.chunks.now) in
    let i = c.loop-walk.invariant in
    let n = walk_number c.loop-walk.walk in
    let index = c.current.result.now in
    let at = subst (λ (b : Box). slice_get (positions b) n ≡ Some index) i.same_box c.current.ensures in
    let last = subst (λ (b : Box). n + 1 ≡ length (positions b)) i.same_box c.if-not-advance.ensures.last in
    values_all layout state chunks (n + 1) _ last
    (values_more layout state chunks (option_map (λ v. v.items)) n (n + 1) index _ _ _ refl at i.read c.in_ok-push.ensures.items c.in_ok-value.ensures.answer)

pub returns-then-not-advance-clause-accepted : goal.returns-then-not-advance-clause-accepted
returns-then-not-advance-clause-accepted g c =
    let layout = layout_of c.args.self.now in
    let state = g.S.ReadableStorageTraits.state c.args.self.now.storage in
    let chunks = positions (box_of c.args.chunks.now) in
    let i = c.loop-walk.invariant in
    let n = walk_number c.loop-walk.walk in
    let index = c.current.result.now in
    let at = subst (λ (b : Box). slice_get (positions b) n ≡ Some index) i.same_box c.current.ensures in
    let last = subst (λ (b : Box). n + 1 ≡ length (positions b)) i.same_box c.if-not-advance.ensures.last in
    keys_all layout state chunks (n + 1) last (keys_more layout state chunks n (n + 1) index refl at i.asked c.in_ok-value.ensures.accepted)

pub loop-walk-preserved : goal.loop-walk-preserved
loop-walk-preserved g c =
    let layout = layout_of c.args.self.now in
    let state = g.S.ReadableStorageTraits.state c.args.self.now.storage in
    let chunks = positions (box_of c.args.chunks.now) in
    let i = c.loop-walk.invariant in
    let n = walk_number c.loop-walk.walk in
    let index = c.current.result.now in
    let at = subst (λ (b : Box). slice_get (positions b) n ≡ Some index) i.same_box c.current.ensures in
    record {
      same_box = c.if-not-advance.ensures.same_box ∙ i.same_box;
      read = values_more layout state chunks (option_map (λ v. v.items)) n _ index _ _ _ c.if-not-advance.ensures.next at i.read c.in_ok-push.ensures.items c.in_ok-value.ensures.answer;
      asked = keys_more layout state chunks n _ index c.if-not-advance.ensures.next at i.asked c.in_ok-value.ensures.accepted;
    }

pub returns-then-is_err-clause-refused : goal.returns-then-is_err-clause-refused
returns-then-is_err-clause-refused g c =
    let range = box_of c.args.chunks.now in
    let count = length-positions range.start range.shape c.args.chunks.now.same_length in
    let many = on_error c.num_elements.result c.num_elements.ensures.refused (sym c.is_err.ensures.value ∙ c.if-is_err.true) in
    omega arith
