use Rattle.std.proofs.Common.{refl}
use Rattle.zarrs_codec_shard.proofs.Packed.{named_none}
use Rattle.zarrs_codec_shard.proofs.compact.are_packed.Goals as goal

pub loop-number-init : goal.loop-number-init
loop-number-init c = named_none c.args.start c.args.end c.args.index.now

pub loop-number-preserved : goal.loop-number-preserved
loop-number-preserved c = c.in-Some.ensures c.loop-number.number c.args.index.now refl c.loop-number.invariant
