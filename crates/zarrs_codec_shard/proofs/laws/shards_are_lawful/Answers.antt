use Rattle.zarrs_codec_shard.proofs.ShardLaws.{shard-lawful}
use Rattle.zarrs_codec_shard.proofs.laws.shards_are_lawful.Goals as goal

pub returns : goal.returns
returns c = λ m at_start store_empty k fill shape sub law. shard-lawful m at_start store_empty k fill shape sub law
