use Rattle.zarrs_codec_shard.proofs.PartialCells.{shard-updates}
use Rattle.zarrs_codec_shard.proofs.laws.partial_encodes_update.Goals as goal

pub returns : goal.returns
returns c = λ m store_empty k fill shape sub law. shard-updates m k fill shape sub law store_empty
