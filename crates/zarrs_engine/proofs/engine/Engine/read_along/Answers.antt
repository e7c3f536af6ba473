use Rattle.std.proofs.Common.{◌≡◌, ◌∙◌, ◌+◌, Some, slice_get, length, rules, subst, arith}
use Rattle.std.proofs.lemmas.Option.{slice_get_within}
use Rattle.zarrs_subset.specs.Regions.{Box, box_of, positions}
use Rattle.zarrs_subset.specs.Walks.{walk_number}
use Rattle.zarrs_data_type.specs.RegionData.{region_data}
use Rattle.zarrs_engine.specs.Engine.{layout_of}
use Rattle.zarrs_engine_calls.specs.Refusals.{refusal_of}
use Rattle.zarrs_engine_layout.proofs.RegionRefusals.{some_wider}
use Rattle.zarrs_engine.proofs.RegionSteps.{at_among, read_cells, read_last, read_more, read_next}
use Rattle.zarrs_engine.proofs.engine.Engine.read_along.Goals as goal

pub with_chunk-requires-clause-boxed : goal.with_chunk-requires-clause-boxed
with_chunk-requires-clause-boxed g c =
    let chunks = positions (box_of c.args.chunks.now) in
    let n = walk_number c.loop-share.walk in
    let index = c.current.result.now in
    let at = subst (λ (b : Box). slice_get (positions b) n ≡ Some index) c.loop-share.invariant.same_box c.current.ensures in
    c.requires.over.cover.boxed index (at_among chunks n index at)

pub with_chunk-requires-clause-held : goal.with_chunk-requires-clause-held
with_chunk-requires-clause-held g c =
    read_cells (layout_of c.args.self.now) (box_of c.args.region.now) _ (g.S.ReadableStorageTraits.state c.args.self.now.storage) (region_data c.loop-share.made) c.loop-share.invariant.read

pub with_chunk-requires-clause-ask : goal.with_chunk-requires-clause-ask
with_chunk-requires-clause-ask g c =
    let chunks = positions (box_of c.args.chunks.now) in
    let n = walk_number c.loop-share.walk in
    let index = c.current.result.now in
    let at = subst (λ (b : Box). slice_get (positions b) n ≡ Some index) c.loop-share.invariant.same_box c.current.ensures in
    c.requires.over.ask index (at_among chunks n index at)

pub loop-share-smaller : goal.loop-share-smaller
loop-share-smaller g c =
    let chunks = positions (box_of c.args.chunks.now) in
    let n = walk_number c.loop-share.walk in
    let index = c.current.result.now in
    let at = subst (λ (b : Box). slice_get (positions b) n ≡ Some index) c.loop-share.invariant.same_box c.current.ensures in
    let here = slice_get_within chunks n index at in
    let next = c.if-not-advance.ensures.next in
    omega arith

pub returns-in_err-made-clause-refused : goal.returns-in_err-made-clause-refused
returns-in_err-made-clause-refused g c =
    let layout = layout_of c.args.self.now in
    let state = g.S.ReadableStorageTraits.state c.args.self.now.storage in
    let region = box_of c.args.region.now in
    let chunks = positions (box_of c.args.chunks.now) in
    let n = walk_number c.loop-share.walk in
    let index = c.current.result.now in
    let at = subst (λ (b : Box). slice_get (positions b) n ≡ Some index) c.loop-share.invariant.same_box c.current.ensures in
    let why = some_wider layout region chunks index state (at_among chunks n index at) (refusal_of c.in_err-made.field-0.0) c.in_err-made.ensures.refused in
    search (rules, why)

pub returns-then-not-advance-clause-all : goal.returns-then-not-advance-clause-all
returns-then-not-advance-clause-all g c =
    let layout = layout_of c.args.self.now in
    let state = g.S.ReadableStorageTraits.state c.args.self.now.storage in
    let region = box_of c.args.region.now in
    let chunks = positions (box_of c.args.chunks.now) in
    let i = c.loop-share.invariant in
    let n = walk_number c.loop-share.walk in
    let index = c.current.result.now in
    let at = subst (λ (b : Box). slice_get (positions b) n ≡ Some index) i.same_box c.current.ensures in
    let last = subst (λ (b : Box). n + 1 ≡ length (positions b)) i.same_box c.if-not-advance.ensures.last in
    read_last layout region chunks state (n + 1) _ last (read_more layout region chunks state n index _ _ at i.read c.in_ok-made.ensures.read)

pub loop-share-preserved : goal.loop-share-preserved
loop-share-preserved g c =
    let layout = layout_of c.args.self.now in
    let state = g.S.ReadableStorageTraits.state c.args.self.now.storage in
    let region = box_of c.args.region.now in
    let chunks = positions (box_of c.args.chunks.now) in
    let i = c.loop-share.invariant in
    let n = walk_number c.loop-share.walk in
    let index = c.current.result.now in
    let at = subst (λ (b : Box). slice_get (positions b) n ≡ Some index) i.same_box c.current.ensures in
    record {
      same_box = c.if-not-advance.ensures.same_box ∙ i.same_box;
      read = read_next layout region chunks state n _ index _ _ c.if-not-advance.ensures.next at i.read c.in_ok-made.ensures.read;
    }
