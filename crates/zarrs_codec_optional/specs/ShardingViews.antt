-- What the code reads of a configuration of `sharding_indexed`.
use Rattle.std.specs.Prelude.{map}
use Rattle.zarrs_metadata_parts.specs.Extension.{extension_view}
use Rattle.zarrs_metadata_parts.specs.Lists.{sizes_of}
use Rattle.zarrs_codec_optional.specs.ShardingMetadata.{ShardingData}
use Rattle.zarrs_codec_optional.specs.declared.sharding_configuration.ShardingParts.{ShardingParts}

abbrev pub sharding_view : ShardingParts → ShardingData
sharding_view parts = record {
  chunk_shape = sizes_of parts.subchunk_shape.items;
  at_start = parts.at_start;
  codecs = map extension_view parts.codecs.items;
}
