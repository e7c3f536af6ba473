-- What a builder of `sharding_indexed` has been told.
use Rattle.std.specs.Prelude.{ℕ, Bool, List, map}
use Rattle.zarrs_codec_array.specs.ArrayCodecs.{array_codec_data}
use Rattle.zarrs_codec_array.specs.Configurations.{ArrayCodecData}
use Rattle.zarrs_metadata_parts.specs.Lists.{sizes_of}
use Rattle.zarrs_codec.specs.Chains.{is_at_start, bytes_codec_data}
use Rattle.zarrs_codec.specs.Configurations.{BytesCodecData, sharding}
use Rattle.zarrs_codec.specs.declared.sharding_builder.ShardingCodecBuilder.{ShardingCodecBuilder}

-- what a builder of the codec has been told
pub record BuilderData : Type 0 where
  pub chunk_shape : List ℕ
  pub at_start : Bool
  pub array_to_array : List ArrayCodecData
  pub array_to_bytes : BytesCodecData

abbrev pub builder_view : ShardingCodecBuilder → BuilderData
builder_view b = record {
  chunk_shape = sizes_of b.subchunk_shape.items;
  at_start = is_at_start b.index_location;
  array_to_array = map array_codec_data b.array_to_array_codecs.items;
  array_to_bytes = bytes_codec_data b.array_to_bytes_codec;
}

-- the codec that it builds
abbrev pub built_data : BuilderData → BytesCodecData
built_data b = sharding b.chunk_shape b.at_start b.array_to_array b.array_to_bytes
