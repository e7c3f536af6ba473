-- What a builder holds.
use Rattle.std.specs.Prelude.{◌≡◌, ℕ, List, [], map, Option, Some, None, Result, Vec, option_map, IfSome}
use Rattle.std.specs.Result.{result_ok}
use Rattle.std.specs.declared.alloc.AllocError.{AllocError}
use Rattle.std.specs.declared.alloc.Global.{Global}
use Rattle.std.specs.declared.string.String.{String}
use Rattle.serde_json.specs.Data.{Members, no_members}
use Rattle.serde_json.specs.View.{members_view}
use Rattle.zarrs_metadata_parts.specs.Extension.{ExtensionData, ◌>>=◌}
use Rattle.zarrs_metadata_parts.specs.declared.separators.ChunkKeySeparator.TheVariants.{Slash}
use Rattle.zarrs_keys.specs.declared.encodings.ChunkKeyEncoding.{ChunkKeyEncoding}
use Rattle.zarrs_keys.specs.declared.encodings.ChunkKeyEncoding.TheVariants.{Default}
use Rattle.zarrs_chunk_grid.specs.GridView.{configuration_of, array_extents_of}
use Rattle.zarrs_chunk_grid.specs.Metadata.{extension_of_grid}
use Rattle.zarrs_chunk_grid.specs.declared.grid.ChunkGrid.{ChunkGrid}
use Rattle.zarrs_data_type.specs.FillMetadata.{fill_written}
use Rattle.zarrs_data_type.specs.Kind.{Kind}
use Rattle.zarrs_codec_array.specs.ArrayCodecs.{array_codec_data}
use Rattle.zarrs_codec_array.specs.Configurations.{ArrayCodecData}
use Rattle.zarrs_codec_chain.specs.declared.options.CodecSpecificOptions.{CodecSpecificOptions}
use Rattle.zarrs_codec.specs.Chains.{bytes_codec_data}
use Rattle.zarrs_codec.specs.Configurations.{BytesCodecData}
use Rattle.zarrs_metadata_v3.specs.Fields.{FieldData}
use Rattle.zarrs_metadata_v3.specs.View.{name_view, fields_view}
use Rattle.zarrs_metadata.specs.Versions.{MetadataData, v3, v2}
use Rattle.zarrs_options.specs.Given.{grid_given}
use Rattle.zarrs_options.specs.declared.chunk_grid_metadata.ArrayBuilderChunkGridMetadata.{ArrayBuilderChunkGridMetadata}
use Rattle.zarrs_creation.specs.Meanings.{Meaning, shape_said, attributes_of, dimension_names_of}
use Rattle.zarrs.specs.Arrays.{default_specific_options}
use Rattle.zarrs_builder.specs.Given.{type_given, FillData, by_metadata, fill_given}
use Rattle.zarrs_builder.specs.declared.data_type.ArrayBuilderDataType.{ArrayBuilderDataType}
use Rattle.zarrs_builder.specs.declared.fill_value.ArrayBuilderFillValue.{ArrayBuilderFillValue}
use Rattle.zarrs_builder.specs.declared.builder.ArrayBuilder.{ArrayBuilder}
use Rattle.zarrs_builder.specs.declared.builder.building.Fields.{Fields}

-- The first six are none if they found no memory. A chunk grid and a data type are what is given for them, if that
-- says one.
pub record BuilderData : Type 0 where
  pub shape : Option (List ℕ)
  pub chunk_grid : Option (Option ExtensionData)
  pub data_type : Option (Option Kind)
  pub fill_value : Option FillData
  pub dimension_names : Option (Option (List (Option (List ℕ))))
  -- none for chunks that are not cut
  pub subchunk_shape : Option (Option (List ℕ))
  pub chunk_key_encoding : ChunkKeyEncoding
  pub array_to_array : List ArrayCodecData
  -- none for the default codec of the data type
  pub array_to_bytes : Option BytesCodecData
  pub attributes : Members
  pub additional_fields : List (List ℕ × FieldData)
  pub codec_specific_options : CodecSpecificOptions

abbrev pub builder_view : ArrayBuilder → BuilderData
builder_view b = record {
  shape = option_map (λ v. v.items) (result_ok b.shape);
  chunk_grid = option_map grid_given (result_ok b.chunk_grid);
  data_type = option_map type_given (result_ok b.data_type);
  fill_value = option_map fill_given (result_ok b.fill_value);
  dimension_names = option_map (option_map (λ names. map name_view names.items)) (result_ok b.dimension_names);
  subchunk_shape = option_map (option_map (λ v. v.items)) (result_ok b.subchunk_shape);
  chunk_key_encoding = b.chunk_key_encoding;
  array_to_array = map array_codec_data b.array_to_array_codecs.items;
  array_to_bytes = option_map bytes_codec_data b.array_to_bytes_codec;
  attributes = members_view b.attributes.entries;
  additional_fields = fields_view b.additional_fields.entries;
  codec_specific_options = b.codec_specific_options;
}

-- the fields that a caller's value becomes, or that found no memory
abbrev pub shape_of : ArrayBuilder → Result (Vec ℕ Global) AllocError
shape_of b = b.shape

abbrev pub chunk_grid_of : ArrayBuilder → Result ArrayBuilderChunkGridMetadata AllocError
chunk_grid_of b = b.chunk_grid

abbrev pub data_type_of : ArrayBuilder → Result ArrayBuilderDataType AllocError
data_type_of b = b.data_type

abbrev pub fill_value_of : ArrayBuilder → Result ArrayBuilderFillValue AllocError
fill_value_of b = b.fill_value

abbrev pub dimension_names_in : ArrayBuilder → Result (Option (Vec (Option (String Global)) Global)) AllocError
dimension_names_in b = b.dimension_names

abbrev pub subchunk_shape_in : ArrayBuilder → Result (Option (Vec ℕ Global)) AllocError
subchunk_shape_in b = b.subchunk_shape

-- `default` keys with `/`, the default codec and options, and nothing that may be absent
abbrev pub plain_builder : Option (List ℕ) → Option (Option ExtensionData) → Option (Option Kind) → Option FillData → BuilderData
plain_builder shape chunk_grid data_type fill_value = record {
  shape = shape;
  chunk_grid = chunk_grid;
  data_type = data_type;
  fill_value = fill_value;
  dimension_names = Some None;
  subchunk_shape = Some None;
  chunk_key_encoding = Default Slash;
  array_to_array = [];
  array_to_bytes = None;
  attributes = no_members;
  additional_fields = [];
  codec_specific_options = default_specific_options;
}

-- all that a caller chose in `new`, and else what is plain
abbrev pub IsNew : BuilderData → Type 0
IsNew b = b ≡ plain_builder b.shape b.chunk_grid b.data_type b.fill_value

-- the shape and the grid of a builder are those of this grid, or found no memory
pub record HasGrid (given : ChunkGrid → Type 0) (b : BuilderData) : Type 0 where
  pub grid : ChunkGrid
  pub is_given : given grid
  pub shape : IfSome b.shape (λ s. s ≡ array_extents_of grid)
  pub chunk_grid : IfSome b.chunk_grid (λ e. e ≡ Some (extension_of_grid (configuration_of grid)))

-- V2 has no additional fields
abbrev pub additional_fields_of : MetadataData → List (List ℕ × FieldData)
additional_fields_of (v3 m) = m.additional_fields
additional_fields_of (v2 m) = []

-- the builder of an array with this metadata and these parts: its codecs are those of the array, also where one of them
-- cuts the chunks
abbrev pub builder_of : MetadataData → Meaning → BuilderData
builder_of m parts = record {
  shape = Some (shape_said m);
  chunk_grid = Some (Some (extension_of_grid parts.grid));
  data_type = Some (Some parts.kind);
  fill_value = Some (by_metadata (fill_written parts.kind parts.fill));
  dimension_names = Some (dimension_names_of m);
  subchunk_shape = Some None;
  chunk_key_encoding = parts.keys;
  array_to_array = parts.chain.array_to_array;
  array_to_bytes = Some parts.chain.array_to_bytes;
  attributes = attributes_of m;
  additional_fields = additional_fields_of m;
  codec_specific_options = default_specific_options;
}

-- ---- the fields that found memory

pub record FieldsData : Type 0 where
  pub shape : List ℕ
  pub chunk_grid : Option ExtensionData
  pub data_type : Option Kind
  pub fill_value : FillData
  pub dimension_names : Option (List (Option (List ℕ)))
  pub subchunk_shape : Option (List ℕ)

-- the fields, if each found memory
unfoldable pub fields_of : BuilderData → Option FieldsData
fields_of b = do
  s ← b.shape
  g ← b.chunk_grid
  k ← b.data_type
  f ← b.fill_value
  n ← b.dimension_names
  sub ← b.subchunk_shape
  Some (record { shape = s; chunk_grid = g; data_type = k; fill_value = f; dimension_names = n; subchunk_shape = sub })

abbrev pub found_fields : Fields → FieldsData
found_fields f = record {
  shape = f.shape.now;
  chunk_grid = grid_given f.chunk_grid.now;
  data_type = type_given f.data_type.now;
  fill_value = fill_given f.fill_value.now;
  dimension_names = option_map (λ names. map name_view names.items) f.dimension_names.now;
  subchunk_shape = option_map (λ v. v.items) f.subchunk_shape.now;
}
