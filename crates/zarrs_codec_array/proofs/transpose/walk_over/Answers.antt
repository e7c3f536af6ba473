use Rattle.std.proofs.Common.{arith, ◌≡◌, length, ap, ◌∙◌}
use Rattle.zarrs_codec_array.specs.Orders.{scaled, permuted, strides}
use Rattle.zarrs_subset.specs.Boxes.{without_ones}
use Rattle.zarrs_codec_array.specs.OrderLaws.{length-strides}
use Rattle.zarrs_codec_array.proofs.Transposing.{permuted-scaled, length-scaled}
use Rattle.zarrs_codec_array.proofs.transpose.walk_over.Goals as goal

pub permuted-requires : goal.permuted-requires
permuted-requires c k lt =
    let len : length c.deref.result.now ≡ length c.args.source.now =
    ap length (c.deref.ensures.value ∙ c.in_ok-strides.ensures) ∙ length-scaled c.args.size (strides c.args.source.now) ∙ length-strides c.args.source.now in
    omega (arith, c.requires.ways.below k lt)

pub returns-clause-steps : goal.returns-clause-steps
returns-clause-steps c =
    let is : c.deref-2.result.now ≡ scaled c.args.size (permuted c.args.way.now (strides c.args.source.now)) =
    c.deref-2.ensures.value ∙ c.in_ok-steps.ensures ∙ ap (permuted c.args.way.now) (c.deref.ensures.value ∙ c.in_ok-strides.ensures) ∙ permuted-scaled c.args.size c.args.way.now (strides c.args.source.now) in
    c.in_ok-steps-2.ensures ∙ ap (without_ones c.args.target.now) is
