-- The options of an array's metadata.
use Rattle.std.specs.Prelude.{List, [], ◌∷◌, Bool, true, false, Option, Some, None}
use Rattle.zarrs_codec_chain.specs.declared.options.CodecMetadataOptions.{CodecMetadataOptions}
use Rattle.zarrs_metadata_parts.specs.Extension.{ExtensionData}
use Rattle.zarrs_options.specs.declared.versions.MetadataConvertVersion.{MetadataConvertVersion}
use Rattle.zarrs_options.specs.declared.versions.MetadataConvertVersion.TheVariants as convert
use Rattle.zarrs_options.specs.declared.options.ArrayMetadataOptions.{ArrayMetadataOptions}

-- the version that is written, whether `_zarrs` is written, and whether aliases become main names
pub record MetadataOptionsData : Type 0 where
  pub convert_version : MetadataConvertVersion
  pub include_zarrs_metadata : Bool
  pub convert_aliased_extension_names : Bool

abbrev pub options_view : ArrayMetadataOptions → MetadataOptionsData
options_view o = record {
  convert_version = o.convert_version;
  include_zarrs_metadata = o.include_zarrs_metadata;
  convert_aliased_extension_names = o.convert_aliased_extension_names;
}

-- the options of the metadata of the codecs, which have one value: no option changes what is written
abbrev pub codec_metadata_options_of : ArrayMetadataOptions → CodecMetadataOptions
codec_metadata_options_of o = o.codec_metadata_options

-- the version of the array, with `_zarrs`, and names as they are
abbrev pub default_options : MetadataOptionsData
default_options = record {
  convert_version = convert.Default;
  include_zarrs_metadata = true;
  convert_aliased_extension_names = false;
}

-- storage transformers that can be made: none
abbrev pub transformers_said : List ExtensionData → Option (Unit {0})
transformers_said [] = Some tt
transformers_said (e ∷ es) = None
