use Rattle.std.proofs.Common.{◌-◌, arith}
use Rattle.zarrs_codec_chain.proofs.OpenShards.{few_subchunks}
use Rattle.zarrs_codec_chain.proofs.shard_part.ShardPart.count.Goals as goal

pub unreachable-requires : goal.unreachable-requires
unreachable-requires g c = omega (arith, few_subchunks c.args.self.now, c.in_default.ensures)
