use Rattle.std.proofs.Common.{◌≡◌, take, map}
use Rattle.zarrs_metadata_parts.specs.Extension.{extension_view}
use Rattle.zarrs_codec_array.specs.Metadata.{extension_of_array_codec}
use Rattle.zarrs_codec_array.specs.ArrayCodecs.{array_codec_data}
use Rattle.zarrs_codec.proofs.metadata.array_codec_metadatas.Given as goal

abbrev pub invariant-loop-codec : goal.invariant-loop-codec
invariant-loop-codec l = map extension_view l.made.items ≡ map extension_of_array_codec (map array_codec_data (take l.codec-index l.codecs))
