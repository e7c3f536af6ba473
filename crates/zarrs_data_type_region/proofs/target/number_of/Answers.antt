use Rattle.std.proofs.Common.{◌≤◌, ◌^◌, arith}
use Rattle.zarrs_subset.specs.Boxes.{place}
use Rattle.zarrs_subset.proofs.Kernel.{place_below}
use Rattle.zarrs_data_type_region.proofs.target.number_of.Goals as goal

pub unreachable-requires : goal.unreachable-requires
unreachable-requires c =
    let past : 2 ^ 64 ≤ place c.args.shape.now c.args.position.now = c.in-None.ensures c.requires.inside in
    omega (arith, past, place_below c.args.shape.now c.args.position.now c.requires.inside, c.requires.counted)
