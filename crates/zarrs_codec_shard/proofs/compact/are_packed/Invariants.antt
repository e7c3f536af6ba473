use Rattle.zarrs_codec_shard.specs.ShardIndex.{NamesPacked}
use Rattle.zarrs_codec_shard.proofs.compact.are_packed.Given as goal

abbrev pub invariant-loop-number : goal.invariant-loop-number
invariant-loop-number l = NamesPacked l.number l.start l.end l.index l.last
