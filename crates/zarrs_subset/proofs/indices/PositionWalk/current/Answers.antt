use Rattle.std.proofs.Common.{rules, ◌≡◌}
use Rattle.zarrs_subset.proofs.Positions.{positions_all}
use Rattle.zarrs_subset.proofs.indices.PositionWalk.current.Goals as goal

pub returns : goal.returns
returns c =
    let walk = c.args.self.now in
    let is : c.as_slice.result.now ≡ walk.current.items = search rules in
    rw is (positions_all _ _ _ walk.subset.now.same_length walk.inside)
