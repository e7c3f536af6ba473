use Rattle.std.proofs.Common.{◌≡◌, ◌++◌, drop, map, option_map}
use Rattle.zarrs_metadata_parts.specs.Extension.{extension_view}
use Rattle.zarrs_codec_array.specs.ArrayCodecs.{array_codec_data}
use Rattle.zarrs_codec.specs.Metadata.{array_codecs_said}
use Rattle.zarrs_codec.proofs.metadata.array_codecs_from.Given as goal

-- what is left says the rest
abbrev pub invariant-loop-metadata : goal.invariant-loop-metadata
invariant-loop-metadata l =
    array_codecs_said (map extension_view l.metadatas) ≡ option_map (λ more. map array_codec_data l.codecs.items ++ more) (array_codecs_said (map extension_view (drop l.metadata-index l.metadatas)))
