use Rattle.std.proofs.Common.{arith}
use Rattle.zarrs_codec_shard.specs.LentData.{lent_chunk_shape, lent_shape}
use Rattle.zarrs_codec_shard.proofs.Grids.{cut_at, cut_len}
use Rattle.zarrs_codec_shard.proofs.lent.LentSubchunks.indices_at.Goals as goal

pub tiny_quotients-requires-clause-some : goal.tiny_quotients-requires-clause-some
tiny_quotients-requires-clause-some c = λ k lt.
    let self = c.args.self.now in
    let s = lent_chunk_shape self in
    let sub = lent_shape self in
    (cut_at s sub k self.cut (omega (arith, (cut_len s sub self.cut).0))).1

pub tiny_quotients-requires-clause-dimensions : goal.tiny_quotients-requires-clause-dimensions
tiny_quotients-requires-clause-dimensions c =
    let self = c.args.self.now in
    omega (arith, c.requires, (cut_len (lent_chunk_shape self) (lent_shape self) self.cut).0)
