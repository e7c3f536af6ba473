use Rattle.zarrs_codec_chain.proofs.ShardChains.{shards_compact}
use Rattle.zarrs_engine.proofs.ShardCompactions.{compactions_encode}
use Rattle.zarrs_engine.proofs.laws.shards_compact_to_their_encoding.Goals as goal

pub returns-clause-bytes : goal.returns-clause-bytes
returns-clause-bytes c = shards_compact

pub returns-clause-compactions : goal.returns-clause-compactions
returns-clause-compactions c = compactions_encode
