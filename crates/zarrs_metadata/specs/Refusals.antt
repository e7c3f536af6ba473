-- Why a V2 document is not converted.
use Rattle.std.specs.Prelude.{◌≡◌, Result, Err, string_bytes}
use Rattle.zarrs_metadata_parts.specs.FillValue.{fill_data}
use Rattle.zarrs_metadata.specs.Conversion.{ConversionRefusal, no_type, no_fill_value, no_codecs}
use Rattle.zarrs_metadata.specs.declared.error.ArrayMetadataV2ToV3Error.{ArrayMetadataV2ToV3Error}
use Rattle.zarrs_metadata.specs.declared.error.ArrayMetadataV2ToV3Error.TheVariants.{UnsupportedDataType, InvalidFillValueMetadata}
use Rattle.zarrs_metadata.specs.declared.error.ArrayMetadataV2ToV3Error.TheVariants.{UnsupportedZarrV2Array, OutOfMemory}

-- by the first refusal, or memory ran out
abbrev pub RefusesConversion : {A : Type 0} → Result A ConversionRefusal → ArrayMetadataV2ToV3Error → Type 0
RefusesConversion converted (UnsupportedDataType dtype) = converted ≡ Err (no_type (string_bytes dtype))
RefusesConversion converted (InvalidFillValueMetadata name value) = converted ≡ Err (no_fill_value (string_bytes name) (fill_data value))
RefusesConversion converted (UnsupportedZarrV2Array text) = converted ≡ Err no_codecs
RefusesConversion converted OutOfMemory = Unit {0}
