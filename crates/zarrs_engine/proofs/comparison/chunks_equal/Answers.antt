use Rattle.std.proofs.Common.{◌≡◌, ◌∙◌, ◌+◌, ◌<◌, ◌^◌, true, false, Some, Ok, Err, slice_get, length, rules, refl, subst, sym, inl, arith}
use Rattle.std.proofs.lemmas.Bool.{false≢true}
use Rattle.std.proofs.lemmas.Option.{slice_get_within}
use Rattle.zarrs_subset.specs.Regions.{Box, box_of, positions}
use Rattle.zarrs_subset.specs.Walks.{walk_number}
use Rattle.zarrs_subset.proofs.Positions.{length-positions}
use Rattle.zarrs_engine_calls.specs.Refusals.{refusal_of}
use Rattle.zarrs_engine.specs.Comparisons.{DifferInChunk, HoldSameChunks, ReadBothKeys}
use Rattle.zarrs_engine.specs.Engine.{layout_of}
use Rattle.zarrs_engine.proofs.Comparisons.{both_all, both_more, compares_content, comparison_refused, range_indices, same_all, same_more}
use Rattle.zarrs_engine.proofs.Encoded.{on_error}
use Rattle.zarrs_engine.proofs.Ranges.{range_length}
use Rattle.zarrs_engine.proofs.RegionSteps.{at_among}
use Rattle.zarrs_engine.proofs.comparison.chunks_equal.Goals as goal

pub returns-then-is_err : goal.returns-then-is_err
returns-then-is_err g c =
    let range = box_of c.args.chunks.now in
    let count = length-positions range.start range.shape c.args.chunks.now.same_length in
    let many = on_error c.num_elements.result c.num_elements.ensures.refused (sym c.is_err.ensures.value ∙ c.if-is_err.true) in
    record { equal = tt; different = tt; content = tt; asked = tt; counted = tt; refused = inl (omega arith) }

pub chunk_equal-requires-clause-dimensions_a : goal.chunk_equal-requires-clause-dimensions_a
chunk_equal-requires-clause-dimensions_a g c =
    let range = box_of c.args.chunks.now in
    let n = walk_number c.loop-walk.walk in
    let index = c.current.result.now in
    let at = subst (λ (b : Box). slice_get (positions b) n ≡ Some index) c.loop-walk.invariant.same_box c.current.ensures in
    range_length range c.args.chunks.now.same_length n index at ∙ c.requires.dimensions_a

pub chunk_equal-requires-clause-dimensions_b : goal.chunk_equal-requires-clause-dimensions_b
chunk_equal-requires-clause-dimensions_b g c =
    let range = box_of c.args.chunks.now in
    let n = walk_number c.loop-walk.walk in
    let index = c.current.result.now in
    let at = subst (λ (b : Box). slice_get (positions b) n ≡ Some index) c.loop-walk.invariant.same_box c.current.ensures in
    range_length range c.args.chunks.now.same_length n index at ∙ c.requires.dimensions_b

pub chunk_equal-requires-clause-ask_a : goal.chunk_equal-requires-clause-ask_a
chunk_equal-requires-clause-ask_a g c =
    let chunks = positions (box_of c.args.chunks.now) in
    let n = walk_number c.loop-walk.walk in
    let index = c.current.result.now in
    let at = subst (λ (b : Box). slice_get (positions b) n ≡ Some index) c.loop-walk.invariant.same_box c.current.ensures in
    c.requires.ask_a index (at_among chunks n index at)

pub chunk_equal-requires-clause-ask_b : goal.chunk_equal-requires-clause-ask_b
chunk_equal-requires-clause-ask_b g c =
    let chunks = positions (box_of c.args.chunks.now) in
    let n = walk_number c.loop-walk.walk in
    let index = c.current.result.now in
    let at = subst (λ (b : Box). slice_get (positions b) n ≡ Some index) c.loop-walk.invariant.same_box c.current.ensures in
    c.requires.ask_b index (at_among chunks n index at)

pub returns-in_err-chunk_equal : goal.returns-in_err-chunk_equal
returns-in_err-chunk_equal g c =
    let one = g.S1.ReadableStorageTraits.state c.args.a.now.storage in
    let two = g.S2.ReadableStorageTraits.state c.args.b.now.storage in
    let chunks = positions (box_of c.args.chunks.now) in
    let n = walk_number c.loop-walk.walk in
    let index = c.current.result.now in
    let at = subst (λ (b : Box). slice_get (positions b) n ≡ Some index) c.loop-walk.invariant.same_box c.current.ensures in
    let why = comparison_refused (layout_of c.args.a.now) (layout_of c.args.b.now) one two chunks index (refusal_of c.in_err-chunk_equal.field-0.0) (at_among chunks n index at) c.in_err-chunk_equal.ensures.refused in
    search (rules, why)

pub returns-in_default : goal.returns-in_default
returns-in_default g c =
    let range = box_of c.args.chunks.now in
    let chunks = positions range in
    let a = c.args.a.now in
    let b = c.args.b.now in
    let one = g.S1.ReadableStorageTraits.state a.storage in
    let two = g.S2.ReadableStorageTraits.state b.storage in
    let long = range_indices range c.args.chunks.now.same_length c.args.chunks.now.ends_fit (layout_of a).grid.dimensions c.requires.dimensions_a in
    let compares = compares_content (layout_of a) (layout_of b) one two chunks a.layout.lawful b.layout.lawful long in
    let equal : HoldSameChunks (layout_of a) (layout_of b) one two chunks = search rules in
    let asked : ReadBothKeys (layout_of a) (layout_of b) one two chunks = search rules in
    let many = length-positions range.start range.shape c.args.chunks.now.same_length in
    let small = sym c.is_err.ensures.value ∙ c.if-is_err.false in
    let counted : length chunks < 2 ^ 64 = elim c.num_elements.result as (λ r. c.num_elements.result ≡ r → length chunks < 2 ^ 64) [
      | Ok n ↦ λ is. (let own = rw is at c.num_elements.type_inv in let count = rw is at c.num_elements.ensures.ok in omega (arith, own, count, many))
      | Err e ↦ λ is. absurd (false≢true (sym (rw is at small)))
    ] refl in
    record { equal = equal; different = tt; content = compares true equal tt; asked = asked; counted = counted; refused = tt }

pub returns-then-not-branch : goal.returns-then-not-branch
returns-then-not-branch g c =
    let range = box_of c.args.chunks.now in
    let chunks = positions range in
    let a = c.args.a.now in
    let b = c.args.b.now in
    let one = g.S1.ReadableStorageTraits.state a.storage in
    let two = g.S2.ReadableStorageTraits.state b.storage in
    let long = range_indices range c.args.chunks.now.same_length c.args.chunks.now.ends_fit (layout_of a).grid.dimensions c.requires.dimensions_a in
    let compares = compares_content (layout_of a) (layout_of b) one two chunks a.layout.lawful b.layout.lawful long in
    let i = c.loop-walk.invariant in
    let n = walk_number c.loop-walk.walk in
    let index = c.current.result.now in
    let at = subst (λ (b : Box). slice_get (positions b) n ≡ Some index) i.same_box c.current.ensures in
    let different : DifferInChunk (layout_of a) (layout_of b) one two chunks = (index, at_among chunks n index at, λ same. false≢true (sym c.if-not-branch.true ∙ c.in_ok-chunk_equal.ensures.equal.1 same), c.in_ok-chunk_equal.ensures.asked_a, c.in_ok-chunk_equal.ensures.asked_b) in
    let many = length-positions range.start range.shape c.args.chunks.now.same_length in
    let small = sym c.is_err.ensures.value ∙ c.if-is_err.false in
    let counted : length chunks < 2 ^ 64 = elim c.num_elements.result as (λ r. c.num_elements.result ≡ r → length chunks < 2 ^ 64) [
      | Ok n ↦ λ is. (let own = rw is at c.num_elements.type_inv in let count = rw is at c.num_elements.ensures.ok in omega (arith, own, count, many))
      | Err e ↦ λ is. absurd (false≢true (sym (rw is at small)))
    ] refl in
    record { equal = tt; different = different; content = compares false tt different; asked = tt; counted = counted; refused = tt }

pub returns-then-not-advance : goal.returns-then-not-advance
returns-then-not-advance g c =
    let range = box_of c.args.chunks.now in
    let chunks = positions range in
    let a = c.args.a.now in
    let b = c.args.b.now in
    let one = g.S1.ReadableStorageTraits.state a.storage in
    let two = g.S2.ReadableStorageTraits.state b.storage in
    let long = range_indices range c.args.chunks.now.same_length c.args.chunks.now.ends_fit (layout_of a).grid.dimensions c.requires.dimensions_a in
    let compares = compares_content (layout_of a) (layout_of b) one two chunks a.layout.lawful b.layout.lawful long in
    let i = c.loop-walk.invariant in
    let n = walk_number c.loop-walk.walk in
    let index = c.current.result.now in
    let at = subst (λ (b : Box). slice_get (positions b) n ≡ Some index) i.same_box c.current.ensures in
    let last = subst (λ (b : Box). n + 1 ≡ length (positions b)) i.same_box c.if-not-advance.ensures.last in
    let equal = same_all (layout_of a) (layout_of b) one two chunks (n + 1) last
    (same_more (layout_of a) (layout_of b) one two chunks n (n + 1) index refl at i.same (c.in_ok-chunk_equal.ensures.equal.0 c.if-not-branch.false)) in
    let asked = both_all (layout_of a) (layout_of b) one two chunks (n + 1) last
    (both_more (layout_of a) (layout_of b) one two chunks n (n + 1) index refl at i.asked c.in_ok-chunk_equal.ensures.asked_a c.in_ok-chunk_equal.ensures.asked_b) in
    let many = length-positions range.start range.shape c.args.chunks.now.same_length in
    let small = sym c.is_err.ensures.value ∙ c.if-is_err.false in
    let counted : length chunks < 2 ^ 64 = elim c.num_elements.result as (λ r. c.num_elements.result ≡ r → length chunks < 2 ^ 64) [
      | Ok n ↦ λ is. (let own = rw is at c.num_elements.type_inv in let count = rw is at c.num_elements.ensures.ok in omega (arith, own, count, many))
      | Err e ↦ λ is. absurd (false≢true (sym (rw is at small)))
    ] refl in
    record { equal = equal; different = tt; content = compares true equal tt; asked = asked; counted = counted; refused = tt }

pub loop-walk-smaller : goal.loop-walk-smaller
loop-walk-smaller g c =
    let chunks = positions (box_of c.args.chunks.now) in
    let n = walk_number c.loop-walk.walk in
    let index = c.current.result.now in
    let at = subst (λ (b : Box). slice_get (positions b) n ≡ Some index) c.loop-walk.invariant.same_box c.current.ensures in
    let here = slice_get_within chunks n index at in
    let next = c.if-not-advance.ensures.next in
    omega arith

pub loop-walk-preserved : goal.loop-walk-preserved
loop-walk-preserved g c =
    let one = g.S1.ReadableStorageTraits.state c.args.a.now.storage in
    let two = g.S2.ReadableStorageTraits.state c.args.b.now.storage in
    let chunks = positions (box_of c.args.chunks.now) in
    let i = c.loop-walk.invariant in
    let n = walk_number c.loop-walk.walk in
    let index = c.current.result.now in
    let at = subst (λ (b : Box). slice_get (positions b) n ≡ Some index) i.same_box c.current.ensures in
    record {
      same_box = c.if-not-advance.ensures.same_box ∙ i.same_box;
      same = same_more (layout_of c.args.a.now) (layout_of c.args.b.now) one two chunks n _ index c.if-not-advance.ensures.next at i.same (c.in_ok-chunk_equal.ensures.equal.0 c.if-not-branch.false);
      asked = both_more (layout_of c.args.a.now) (layout_of c.args.b.now) one two chunks n _ index c.if-not-advance.ensures.next at i.asked
          c.in_ok-chunk_equal.ensures.asked_a c.in_ok-chunk_equal.ensures.asked_b;
    }
