use Rattle.std.proofs.Common.{arith, ◌≡◌, ◌<◌, ℕ, length, sym, subst}
use Rattle.std.specs.Prelude.{slice_index}
use Rattle.zarrs_codec_array.specs.OrderLaws.{entry_below}
use Rattle.zarrs_codec_array.proofs.transpose.TransposeCodec.encoded_shape.Goals as goal

pub permuted-requires : goal.permuted-requires
permuted-requires c =
    let order = c.args.self.now.order.items in
    let lent : c.deref.result.now ≡ order = c.deref.ensures.value in
    subst (λ o. (k : ℕ) → k < length o → slice_index o k < length c.args.shape.now) (sym lent)
    (λ k lt. let below = entry_below order c.args.self.now.in_order k lt in omega (arith, c.args.self.now.order.ok.0))
