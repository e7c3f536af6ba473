use Rattle.std.proofs.Common.{ℕ, ◌*◌, ◌<◌, ◌^◌, length, sym, ap, subst, ◌∙◌, arith}
use Rattle.std.specs.Prelude.{slice_index}
use Rattle.zarrs_codec_shard.specs.SubchunkData.{chunk_shape, subchunk_shape}
use Rattle.zarrs_codec_shard.specs.Subchunks.{quotients}
use Rattle.zarrs_codec_shard.proofs.CopiedCells.{starts_fit}
use Rattle.zarrs_codec_shard.proofs.Grids.{cut_len}
use Rattle.zarrs_codec_shard.proofs.subchunks.Subchunks.start_of.Goals as goal

pub tiny_corner-requires-clause-dimensions : goal.tiny_corner-requires-clause-dimensions
tiny_corner-requires-clause-dimensions c =
    let self = c.args.self.now in
    let long = cut_len (chunk_shape self) (subchunk_shape self) self.cut in
    ap length c.deref.ensures.value ∙ long.0 ∙ sym long.1 ∙ ap length (sym (c.deref-2.ensures.value ∙ self.grid_is))

pub tiny_corner-requires-clause-ends : goal.tiny_corner-requires-clause-ends
tiny_corner-requires-clause-ends c =
    let self = c.args.self.now in
    let s = chunk_shape self in
    let sub = subchunk_shape self in
    subst (λ g. (k : ℕ) → slice_index g k * slice_index c.deref.result.now k < 2 ^ 64) (sym (c.deref-2.ensures.value ∙ self.grid_is))
    (subst (λ x. (k : ℕ) → slice_index (quotients s sub) k * slice_index x k < 2 ^ 64) (sym c.deref.ensures.value)
    (λ k. omega (arith, starts_fit s sub k self.cut, self.chunk_box.ends_fit k)))
