use Rattle.std.proofs.Common.{arith, ◌≡◌, ◌+◌, ◌-◌, ◌*◌, ◌<◌, length, get_or, sym, ap, ◌∙◌, drop}
use Rattle.std.proofs.lemmas.List.{length-set}
use Rattle.zarrs_codec_array.specs.Orders.{strides, scaled}
use Rattle.zarrs_subset.specs.Boxes.{position_count}
use Rattle.zarrs_codec_array.proofs.Marks.{size_part, stride_more, strides_more}
use Rattle.zarrs_codec_array.proofs.lists.strides.Goals as goal

pub overflow_mul-stride : goal.overflow_mul-stride
overflow_mul-stride c =
    let shape = c.args.shape.now in
    let k = c.loop-axis.axis - 1 in
    let whole : k + 1 ≡ c.loop-axis.axis = omega arith in
    let n = c.args.size in
    let is : c.loop-axis.stride ≡ position_count (drop (k + 1) shape) * n = c.loop-axis.invariant.stride ∙ ap (λ a. position_count (drop a shape) * n) (sym whole) in
    let product : c.loop-axis.stride * get_or shape k 0 ≡ position_count (drop k shape) * n =
    ap (λ x. x * get_or shape k 0) is ∙ stride_more shape k n (omega arith) in
    omega (arith, product, size_part shape k n c.requires.some)

pub loop-axis-preserved : goal.loop-axis-preserved
loop-axis-preserved c =
    let shape = c.args.shape.now in
    let made = c.loop-axis.made.items in
    let k = c.loop-axis.axis - 1 in
    let whole : k + 1 ≡ c.loop-axis.axis = omega arith in
    let n = c.args.size in
    let lt : k < length shape = omega arith in
    let is : c.loop-axis.stride ≡ position_count (drop (k + 1) shape) * n = c.loop-axis.invariant.stride ∙ ap (λ a. position_count (drop a shape) * n) (sym whole) in
    record {
      within = omega arith;
      len = length-set made k c.loop-axis.stride ∙ c.loop-axis.invariant.len;
      stride = ap (λ x. x * get_or shape k 0) is ∙ stride_more shape k n lt;
      behind = strides_more shape made k n c.loop-axis.stride lt c.loop-axis.invariant.len is
          (ap (λ a. drop a made) whole ∙ c.loop-axis.invariant.behind ∙ ap (λ a. scaled n (strides (drop a shape))) (sym whole));
    }
