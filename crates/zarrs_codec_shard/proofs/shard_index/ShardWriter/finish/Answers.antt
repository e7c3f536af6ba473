use Rattle.std.proofs.Common.{◌++◌, length, drop, ap, sym, ◌∙◌, subst, arith}
use Rattle.zarrs_codec_shard.specs.ShardIndex.{IsWriting}
use Rattle.zarrs_codec_shard.specs.Shards.{shard_bytes}
use Rattle.zarrs_codec_shard.proofs.ShardWriting.{room, written_at_start}
use Rattle.zarrs_codec_shard.proofs.shard_index.ShardWriter.finish.Goals as goal

pub with_front-requires : goal.with_front-requires
with_front-requires c =
    let parts = c.requires.1 in
    let is = subst (λ b. IsWriting b (length parts) c.args.self parts) (sym c.requires.2.place_is ∙ c.if-at_start.true) c.requires.2 in
    let fits = room c.args.self parts is in
    omega (arith, fits.1, ap length c.deref.ensures.value)

pub returns-then-at_start : goal.returns-then-at_start
returns-then-at_start c = λ at_start parts is.
    let same = sym is.place_is ∙ c.if-at_start.true in
    c.trimmed.ensures
    ∙ c.with_front.ensures
    ∙ ap (λ l. l ++ drop (length l) c.args.self.encoded.items) c.deref.ensures.value
    ∙ written_at_start c.args.self parts (subst (λ b. IsWriting b (length parts) c.args.self parts) same is)
    ∙ ap (λ b. shard_bytes b parts) (sym same)
