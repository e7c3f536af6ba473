-- The metadata of an array as options show it.
use Rattle.std.specs.Prelude.{ℕ, List, map, Bool, true, false, codes, bytes_eq, if◌then◌else◌, Result, Ok, Err}
use Rattle.serde_json.specs.Data.{Data, string, object, Members, no_members, put}
use Rattle.zarrs_metadata_parts.specs.Extension.{ExtensionData}
use Rattle.zarrs_metadata_v3.specs.Document.{DocumentData}
use Rattle.zarrs_metadata.specs.Conversion.{ConversionRefusal, to_v3}
use Rattle.zarrs_metadata_v2.specs.Document.{DocumentV2Data}
use Rattle.zarrs_metadata.specs.Versions.{MetadataData, v3, v2}
use Rattle.zarrs_options.specs.Options.{MetadataOptionsData}
use Rattle.zarrs_options.specs.declared.versions.MetadataConvertVersion.{MetadataConvertVersion}
use Rattle.zarrs_options.specs.declared.versions.MetadataConvertVersion.TheVariants as convert

-- ---- the attribute of this library

-- which library made the array
abbrev pub made_by : Data
made_by = object
    (put (codes "description") (string (codes "This array was created with zarrs"))
    (put (codes "repository") (string (codes "https://github.com/zarrs/zarrs"))
    (put (codes "version") (string (codes "0.23.13")) no_members)))

-- the attributes, with it at `_zarrs` if it is included
abbrev pub shown_attributes : Bool → Members → Members
shown_attributes true attributes = put (codes "_zarrs") made_by attributes
shown_attributes false attributes = attributes

-- ---- main names

-- the main name of a data type
abbrev pub main_type_name : List ℕ → List ℕ
main_type_name name =
    if bytes_eq name (codes "variable_length_bytes") then codes "bytes" else (if bytes_eq name (codes "optional") then codes "zarrs.optional" else name)

-- of a chunk grid
abbrev pub main_grid_name : List ℕ → List ℕ
main_grid_name name = if bytes_eq name (codes "zarrs.regular_bounded") then codes "regular_bounded" else name

-- of a chunk key encoding
abbrev pub main_encoding_name : List ℕ → List ℕ
main_encoding_name name = if bytes_eq name (codes "zarrs.default_suffix") then codes "default_suffix" else name

-- of a codec
abbrev pub main_codec_name : List ℕ → List ℕ
main_codec_name name =
    if bytes_eq name (codes "zarrs.reshape") then codes "reshape"
    else (if bytes_eq name (codes "zarrs.squeeze") then codes "squeeze"
    else (if bytes_eq name (codes "vlen") then codes "zarrs.vlen"
    else (if bytes_eq name (codes "optional") then codes "zarrs.optional"
    else name)))

abbrev pub renamed : (List ℕ → List ℕ) → ExtensionData → ExtensionData
renamed main e = record e { name = main e.name }

-- each extension by its main name; names inside configurations stay
abbrev pub with_main_names : DocumentData → DocumentData
with_main_names m = record m {
  data_type = renamed main_type_name m.data_type;
  chunk_grid = renamed main_grid_name m.chunk_grid;
  chunk_key_encoding = renamed main_encoding_name m.chunk_key_encoding;
  codecs = map (renamed main_codec_name) m.codecs;
}

abbrev pub shown_names : Bool → DocumentData → DocumentData
shown_names true m = with_main_names m
shown_names false m = m

-- ---- metadata

-- a V3 document under options
abbrev pub shown_v3 : MetadataOptionsData → DocumentData → DocumentData
shown_v3 o m = record (shown_names o.convert_aliased_extension_names m) {
  attributes = shown_attributes o.include_zarrs_metadata m.attributes;
}

-- a V2 document
abbrev pub shown_v2 : MetadataOptionsData → DocumentV2Data → DocumentV2Data
shown_v2 o m = record m { attributes = shown_attributes o.include_zarrs_metadata m.attributes }

-- a V2 document that is turned into a V3 document, if it can be
abbrev pub shown_as_v3 : MetadataOptionsData → Result DocumentData ConversionRefusal → Result MetadataData ConversionRefusal
shown_as_v3 o (Ok m) = Ok (v3 (shown_v3 o m))
shown_as_v3 o (Err refusal) = Err refusal

abbrev pub shown_version : MetadataConvertVersion → MetadataOptionsData → DocumentV2Data → Result MetadataData ConversionRefusal
shown_version convert.Default o m = Ok (v2 (shown_v2 o m))
shown_version convert.V3 o m = shown_as_v3 o (to_v3 m)

-- The metadata under options, or why it has no V3 document.
abbrev pub shown : MetadataOptionsData → MetadataData → Result MetadataData ConversionRefusal
shown o (v3 m) = Ok (v3 (shown_v3 o m))
shown o (v2 m) = shown_version o.convert_version o m
