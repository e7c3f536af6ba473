-- The metadata of an array of either version.
use Rattle.std.specs.Prelude.{codes, if◌then◌else◌, Option, option_map}
use Rattle.serde_json.specs.Data.{Data}
use Rattle.serde_json.specs.Find.{get}
use Rattle.zarrs_metadata_v3.specs.Members.{reads_as_number}
use Rattle.zarrs_metadata_v3.specs.Document.{DocumentData, plain_document_of, data_of_document}
use Rattle.zarrs_metadata_v3.specs.View.{document_view}
use Rattle.zarrs_metadata_v2.specs.Document.{DocumentV2Data, plain_document_v2_of, data_of_v2}
use Rattle.zarrs_metadata_v2.specs.View.{document_v2_view}
use Rattle.zarrs_metadata.specs.declared.versions.ArrayMetadata.{ArrayMetadata}
use Rattle.zarrs_metadata.specs.declared.versions.ArrayMetadata.TheVariants.{V3, V2}

-- the metadata of an array of either version
pub data MetadataData : Type 0 where
  v3 : DocumentData → MetadataData
  v2 : DocumentV2Data → MetadataData

abbrev pub metadata_view : ArrayMetadata → MetadataData
metadata_view (V3 m) = v3 (document_view m)
metadata_view (V2 m) = v2 (document_v2_view m)

-- the metadata that a JSON value reads as
abbrev pub metadata_of : Data → Option MetadataData
metadata_of d =
    if reads_as_number 2 (get (codes "zarr_format") d) then option_map v2 (plain_document_v2_of d) else option_map v3 (plain_document_of d)

-- the JSON value of metadata
abbrev pub data_of_metadata : MetadataData → Data
data_of_metadata (v3 m) = data_of_document m
data_of_metadata (v2 m) = data_of_v2 m
