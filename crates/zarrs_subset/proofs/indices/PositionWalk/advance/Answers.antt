use Rattle.std.proofs.Common.{rules, ◌≡◌, length}
use Rattle.std.specs.List.{refill}
use Rattle.zarrs_subset.specs.Regions.{box_of}
use Rattle.zarrs_subset.proofs.WalkLemmas.{last-length, first-place, refill-same}
use Rattle.zarrs_subset.proofs.indices.PositionWalk.advance.Goals as goal

pub returns-clause-last : goal.returns-clause-last
returns-clause-last c =
    let walk = c.args.self.now in
    let start : c.start-start.result.now ≡ walk.subset.now.start.items = search rules in
    let shape : c.shape-shape.result.now ≡ walk.subset.now.shape.items = search rules in
    last-length (box_of walk.subset.now) walk.current.items c.advance.result walk.subset.now.same_length
    (rw (start, shape, c.as_mut_slice.ensures.value) at c.advance.ensures.last)

pub returns-clause-first : goal.returns-clause-first
returns-clause-first c =
    let walk = c.args.self.now in
    let start : c.start-start.result.now ≡ walk.subset.now.start.items = search rules in
    let new : refill (length walk.current.items) walk.current.items c.advance.new.position ≡ c.advance.new.position =
    refill-same walk.current.items c.advance.new.position (search rules) in
    rw new (first-place (box_of walk.subset.now) c.advance.new.position c.advance.result walk.subset.now.same_length
    (rw start at c.advance.ensures.first))
