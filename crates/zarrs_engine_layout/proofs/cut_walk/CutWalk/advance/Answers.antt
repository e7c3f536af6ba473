use Rattle.zarrs_subset.specs.Regions.{box_at_origin}
use Rattle.zarrs_subset.proofs.WalkLemmas.{last-length}
use Rattle.zarrs_engine_layout.proofs.CutWalks.{origin_long}
use Rattle.zarrs_engine_layout.proofs.cut_walk.CutWalk.advance.Goals as goal

pub returns-clause-last : goal.returns-clause-last
returns-clause-last c =
    let walk = c.args.self.now in
    last-length (box_at_origin walk.shape.items) walk.current.items c.advance.result (origin_long walk.shape.items)
    (rw (c.deref.ensures.value, c.deref_mut.ensures.value) at c.advance.ensures.last)
