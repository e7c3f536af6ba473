use Rattle.zarrs_codec_shard.proofs.Compaction.{encoded_parts_compact}
use Rattle.zarrs_codec_shard.proofs.laws.shards_compact_to_their_encoding.Goals as goal

pub returns : goal.returns
returns c = λ m at_start k fill shape sub encoded made cells law held decoded is.
    encoded_parts_compact m at_start k fill shape sub law encoded made cells held decoded is
