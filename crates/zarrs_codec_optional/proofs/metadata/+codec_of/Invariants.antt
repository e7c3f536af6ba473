use Rattle.zarrs_metadata_parts.specs.Extension.{extension_view, settings}
use Rattle.zarrs_data_type.specs.TypeMetadata.{levels_in}
use Rattle.zarrs_codec_optional.proofs.metadata.+codec_of.Given as goal

abbrev pub decreases-codec_of : goal.decreases-codec_of
decreases-codec_of l = levels_in (settings (extension_view l.metadata.now))
