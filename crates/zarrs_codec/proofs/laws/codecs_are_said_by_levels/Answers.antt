use Rattle.zarrs_codec.proofs.ShardingMetadata.{said-unfolds}
use Rattle.zarrs_codec.proofs.laws.codecs_are_said_by_levels.Goals as goal

pub returns : goal.returns
returns c = said-unfolds
