use Rattle.std.proofs.Common.{◌≡◌, ◌∙◌, sym, true, arith}
use Rattle.zarrs_codec_shard.specs.Subchunks.{is_cut_by}
use Rattle.zarrs_codec_shard.proofs.Grids.{cut_at, cut_len}
use Rattle.zarrs_codec_shard.proofs.lent.LentSubchunks.new.Goals as goal

pub tiny_quotients-requires-clause-some : goal.tiny_quotients-requires-clause-some
tiny_quotients-requires-clause-some c = λ k lt.
    let s = c.args.shape.now in
    let sub = c.args.sub.now in
    let cut : is_cut_by s sub ≡ true = sym c.is_cut_by.ensures ∙ c.if-not-is_cut_by.false in
    (cut_at s sub k cut (omega (arith, (cut_len s sub cut).0))).1
