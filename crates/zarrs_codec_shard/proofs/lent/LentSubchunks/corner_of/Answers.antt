use Rattle.std.proofs.Common.{List, ℕ, arith, length, ◌*◌, ◌<◌, ◌^◌, ◌∙◌, ap, subst, sym}
use Rattle.std.specs.Prelude.{slice_index}
use Rattle.zarrs_codec_shard.specs.LentData.{lent_chunk_shape, lent_shape}
use Rattle.zarrs_codec_shard.specs.Subchunks.{quotients}
use Rattle.zarrs_subset.proofs.Counts.{length-InShape}
use Rattle.zarrs_codec_shard.proofs.Grids.{corner_at, cut_len}
use Rattle.zarrs_codec_shard.proofs.lent.LentSubchunks.corner_of.Goals as goal

pub scale-requires-clause-dimensions : goal.scale-requires-clause-dimensions
scale-requires-clause-dimensions c =
    let self = c.args.self.now in
    let s = lent_chunk_shape self in
    let sub = lent_shape self in
    let long = cut_len s sub self.cut in
    ap length c.as_mut_slice.ensures.value ∙ length-InShape (quotients s sub) c.args.indices.items c.requires ∙ long.1 ∙ sym long.0

pub scale-requires-clause-ends : goal.scale-requires-clause-ends
scale-requires-clause-ends c = λ k lt.
    let self = c.args.self.now in
    let s = lent_chunk_shape self in
    let sub = lent_shape self in
    let i = c.args.indices.items in
    let at = corner_at s sub i k self.cut c.requires (omega (arith, (cut_len s sub self.cut).0)) in
    let small : slice_index i k * slice_index sub k < 2 ^ 64 = omega (arith, at.below, self.small k) in
    subst (λ (x : List ℕ). slice_index x k * slice_index sub k < 2 ^ 64) (sym c.as_mut_slice.ensures.value) small
