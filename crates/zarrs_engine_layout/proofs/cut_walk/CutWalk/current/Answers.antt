use Rattle.std.proofs.Common.{◌≡◌, rules}
use Rattle.zarrs_subset.proofs.Positions.{positions_all}
use Rattle.zarrs_engine_layout.proofs.CutWalks.{origin_long}
use Rattle.zarrs_engine_layout.proofs.cut_walk.CutWalk.current.Goals as goal

pub returns-clause-at : goal.returns-clause-at
returns-clause-at c =
    let walk = c.args.self.now in
    let is : c.as_slice.result.now ≡ walk.current.items = search rules in
    rw is (positions_all _ _ _ (origin_long walk.shape.items) walk.inside)
