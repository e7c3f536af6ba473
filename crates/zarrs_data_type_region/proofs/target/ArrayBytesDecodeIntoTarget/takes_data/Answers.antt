use Rattle.std.proofs.Common.{arith}
use Rattle.zarrs_data_type_region.specs.States.{target_box}
use Rattle.zarrs_data_type_region.proofs.TargetBoxes.{count_within}
use Rattle.zarrs_data_type_region.proofs.target.ArrayBytesDecodeIntoTarget.takes_data.Goals as goal

pub unreachable-requires : goal.unreachable-requires
unreachable-requires c =
    let t = c.args.self.now in
    omega (arith, c.in-Err.ensures.refused, t.whole.counted, count_within (target_box t) t.parent_shape.now t.region.now.same_length t.whole.inside)
