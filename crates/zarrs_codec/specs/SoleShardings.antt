-- Chains that are `sharding_indexed` alone.
use Rattle.std.specs.Prelude.{ℕ, Bool, List, []}
use Rattle.zarrs_codec_array.specs.Configurations.{ArrayCodecData}
use Rattle.zarrs_codec_chain.specs.Chain.{ChainMeaning}
use Rattle.zarrs_codec_chain.specs.ShardChains.{MakesShards}
use Rattle.zarrs_codec.specs.Configurations.{BytesCodecData, meaning_of_chain, sharding}

-- what a chain of these codecs means
abbrev pub meaning_of_codecs : List ArrayCodecData → BytesCodecData → ChainMeaning
meaning_of_codecs front last = meaning_of_chain (record { array_to_array = front; array_to_bytes = last })

-- such a chain makes shards of the subchunks that its inner chain encodes
abbrev pub SoleShardingsMakeShards : Type 0
SoleShardingsMakeShards =
    (chunk_shape : List ℕ) (at_start : Bool) (front : List ArrayCodecData) (last : BytesCodecData)
    → MakesShards (meaning_of_codecs [] (sharding chunk_shape at_start front last)) (meaning_of_codecs front last) at_start chunk_shape
