-- The V3 document that says the parts of an array, and the text of metadata.
use Rattle.std.specs.Prelude.{ℕ, List, [], Bool, true, false, Some}
use Rattle.serde_json.specs.Written.{compact_text}
use Rattle.zarrs_metadata_parts.specs.declared.separators.ChunkKeySeparator.TheVariants.{Slash}
use Rattle.zarrs_metadata_v3.specs.Document.{DocumentData, plain_document}
use Rattle.zarrs_metadata.specs.Versions.{MetadataData, data_of_metadata}
use Rattle.zarrs_keys.specs.declared.encodings.ChunkKeyEncoding.TheVariants.{Default}
use Rattle.zarrs_chunk_grid.specs.Configurations.{regular}
use Rattle.zarrs_chunk_grid.specs.Metadata.{extension_of_grid}
use Rattle.zarrs_data_type.specs.FillMetadata.{fill_written}
use Rattle.zarrs_data_type.specs.Kind.{Kind}
use Rattle.zarrs_data_type.specs.Kind as type
use Rattle.zarrs_data_type.specs.TypeMetadata.{kind_extension}
use Rattle.zarrs_codec_leaf.specs.declared.bytes_codec.Endianness.TheVariants.{Little}
use Rattle.zarrs_codec_optional.specs.Configurations.{plain}
use Rattle.zarrs_codec_optional.specs.PlainCodecs.{bytes}
use Rattle.zarrs_codec.specs.Metadata.{extensions_of_chain}
use Rattle.zarrs_codec.specs.Configurations.{cells}
use Rattle.zarrs_creation.specs.Meanings.{Meaning}

-- the parts of an array with the `regular` grid, `default` keys with `/` and the codec `bytes`, little endian
abbrev pub parts_for : List ℕ → List ℕ → Kind → List ℕ → Meaning
parts_for shape chunk_shape kind fill = record {
  shape = shape;
  grid = regular chunk_shape;
  keys = Default Slash;
  chain = record { array_to_array = []; array_to_bytes = cells (plain (bytes (Some Little))) };
  kind = kind;
  fill = fill;
}

-- the document of an array of these parts, with `default` keys with `/`
abbrev pub document_for : Meaning → DocumentData
document_for parts =
    plain_document parts.shape (extension_of_grid parts.grid) (kind_extension parts.kind) (fill_written parts.kind parts.fill) (extensions_of_chain parts.chain)

-- the text of metadata: its JSON value without spaces
abbrev pub text_of_metadata : MetadataData → List ℕ
text_of_metadata metadata = compact_text (data_of_metadata metadata)

-- bool and the integers
abbrev pub is_whole_number : Kind → Bool
is_whole_number type.bool = true
is_whole_number type.int8 = true
is_whole_number type.int16 = true
is_whole_number type.int32 = true
is_whole_number type.int64 = true
is_whole_number type.uint8 = true
is_whole_number type.uint16 = true
is_whole_number type.uint32 = true
is_whole_number type.uint64 = true
is_whole_number _ = false
