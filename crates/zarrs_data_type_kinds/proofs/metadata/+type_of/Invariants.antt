use Rattle.zarrs_metadata_parts.specs.Extension.{extension_view, settings}
use Rattle.zarrs_data_type_kinds.specs.TypeMetadata.{levels_in}
use Rattle.zarrs_data_type_kinds.proofs.metadata.+type_of.Given as goal

abbrev pub decreases-type_of : goal.decreases-type_of
decreases-type_of l = levels_in (settings (extension_view l.metadata.now))
