-- What the options of a call are.
use Rattle.std.specs.Prelude.{Bool}
use Rattle.zarrs_codec_chain.specs.declared.options.CodecOptions.{CodecOptions}
use Rattle.zarrs_codec_chain.specs.declared.options.CodecSpecificOptions.{CodecSpecificOptions}
use Rattle.zarrs_codec_chain.specs.declared.options.ShardingCodecOptions.{ShardingCodecOptions}

-- whether a chunk of fill alone is stored
abbrev pub stores_empty_chunks : CodecOptions → Bool
stores_empty_chunks options = options.store_empty_chunks

-- whether a part of a chunk is written by itself, if the store and the chain can
abbrev pub encodes_partially : CodecOptions → Bool
encodes_partially options = options.experimental_partial_encoding

-- the options of the codec of shards
abbrev pub sharding_options_of : CodecSpecificOptions → ShardingCodecOptions
sharding_options_of options = options.sharding
