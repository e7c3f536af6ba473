-- The metadata that a builder says, or the first refusal.
use Rattle.std.specs.Prelude.{◌≡◌, ◌==◌, ℕ, List, [], length, false, Option, Some, None, Result, Ok, Err, IfOk, IfErr, is_some, if◌then◌else◌, option_and_then}
use Rattle.std.specs.List.{list_any}
use Rattle.serde_json.specs.Data.{Data}
use Rattle.zarrs_metadata_parts.specs.Extension.{ExtensionData}
use Rattle.zarrs_keys.specs.Metadata.{extension_of_encoding}
use Rattle.zarrs_chunk_grid.specs.Configurations.{GridConfiguration}
use Rattle.zarrs_chunk_grid.specs.Metadata.{grid_said, extension_of_grid}
use Rattle.zarrs_data_type.specs.Cell.{fill_cell}
use Rattle.zarrs_data_type.specs.FillMetadata.{fill_written}
use Rattle.zarrs_data_type.specs.Kind.{Kind}
use Rattle.zarrs_data_type.specs.TypeMetadata.{kind_name, kind_extension, is_readable}
use Rattle.zarrs_codec.specs.Metadata.{default_codec, extensions_of_chain}
use Rattle.zarrs_codec.specs.Configurations.{BytesCodecData, ChainData, sharding}
use Rattle.zarrs_metadata_v3.specs.Document.{DocumentData}
use Rattle.zarrs_metadata.specs.Versions.{MetadataData, v3}
use Rattle.zarrs_options.specs.Refusals.{CreateRefusal, data_type, subchunk_shape, chunk_grid, fill_value, out_of_memory, said_or}
use Rattle.zarrs_options.specs.Refusals.{create_refusal_of, RefusesCreation}
use Rattle.zarrs_options.specs.declared.error.ArrayCreateError.{ArrayCreateError}
use Rattle.zarrs_creation.specs.Meanings.{Meaning, creation_v3, path_said, names_said, ◌>>=◌}
use Rattle.zarrs.specs.Arrays.{metadata_of_array, meaning_of_array, path_of_array, storage_of_array, HasSpecificOptions}
use Rattle.zarrs.specs.declared.array.Array.{Array}
use Rattle.zarrs_builder.specs.Given.{fill_chosen}
use Rattle.zarrs_builder.specs.Builders.{BuilderData, FieldsData, fields_of}

-- the codec that makes bytes: the one that is set, or the default one of the type
abbrev pub codec_chosen : Option BytesCodecData → Kind → BytesCodecData
codec_chosen (Some codec) k = codec
codec_chosen None k = default_codec k

-- the codecs of the cells of a type
abbrev pub codecs_chosen : BuilderData → Kind → ChainData
codecs_chosen b k = record { array_to_array = b.array_to_array; array_to_bytes = codec_chosen b.array_to_bytes k }

-- no extent of a subchunk is 0, or the refusal E22
abbrev pub sizes_said : List ℕ → Result (Unit {0}) CreateRefusal
sizes_said shape = if list_any (λ extent. extent == 0) shape then Err (subchunk_shape shape) else Ok tt

-- the chain of one codec, `sharding_indexed` with subchunks of this shape, which these codecs encode, and its index at
-- the end
abbrev pub cut_into : List ℕ → ChainData → ChainData
cut_into shape codecs = record { array_to_array = []; array_to_bytes = sharding shape false codecs.array_to_array codecs.array_to_bytes }

-- the chain: these codecs, or subchunks that they encode
abbrev pub chain_chosen : Option (List ℕ) → ChainData → Result ChainData CreateRefusal
chain_chosen None codecs = Ok codecs
chain_chosen (Some shape) codecs = sizes_said shape >>= (λ sized. Ok (cut_into shape codecs))

-- the grid over an array of that shape that is given, if there is one
abbrev pub grid_chosen : Option ExtensionData → List ℕ → Option GridConfiguration
grid_chosen given shape = option_and_then (λ e. grid_said e shape) given

-- the metadata of the fill value, if its bytes are a value of the type
abbrev pub fill_stated : Kind → List ℕ → Result Data CreateRefusal
fill_stated k f = if is_some (fill_cell k f) then Ok (fill_written k f) else Err (fill_value (kind_name k) f)

pub record ChosenData : Type 0 where
  pub kind : Kind
  pub chain : ChainData
  pub grid : GridConfiguration
  -- the bytes of the fill value, and its metadata
  pub fill : List ℕ
  pub fill_value : Data

-- what the fields say, or the first refusal: of the data type, the grid, the metadata of the fill value, the names, the fill value
unfoldable pub chosen : BuilderData → FieldsData → Result ChosenData CreateRefusal
chosen b f = do
  kind ← said_or data_type f.data_type
  chain ← chain_chosen f.subchunk_shape (codecs_chosen b kind)
  grid ← said_or chunk_grid (grid_chosen f.chunk_grid f.shape)
  fill ← fill_chosen kind f.fill_value
  named ← names_said (length f.shape) f.dimension_names
  stated ← fill_stated kind fill
  Ok (record { kind = kind; chain = chain; grid = grid; fill = fill; fill_value = stated })

-- the V3 metadata of these parts, by main names
abbrev pub document_with : BuilderData → FieldsData → ChosenData → DocumentData
document_with b f c = record {
  shape = f.shape;
  data_type = kind_extension c.kind;
  chunk_grid = extension_of_grid c.grid;
  chunk_key_encoding = extension_of_encoding b.chunk_key_encoding;
  fill_value = c.fill_value;
  codecs = extensions_of_chain c.chain;
  attributes = b.attributes;
  storage_transformers = [];
  dimension_names = f.dimension_names;
  additional_fields = b.additional_fields;
}

abbrev pub document_of_fields : BuilderData → FieldsData → Result DocumentData CreateRefusal
document_of_fields b f = chosen b f >>= (λ c. Ok (document_with b f c))

-- the fields, each of which found memory
abbrev pub found : BuilderData → Result FieldsData CreateRefusal
found b = said_or out_of_memory (fields_of b)

-- The metadata of a builder, or the first refusal.
abbrev pub built : BuilderData → Result DocumentData CreateRefusal
built b = found b >>= document_of_fields b

-- the parts that were chosen; of a type that metadata cannot say, a raw one of more than 65,536 bytes, what creation makes
-- of the document
abbrev pub parts_of_fields : BuilderData → FieldsData → ChosenData → Result Meaning CreateRefusal
parts_of_fields b f c =
    if is_readable c.kind then Ok (record { shape = f.shape; grid = c.grid; keys = b.chunk_key_encoding; chain = c.chain; kind = c.kind; fill = c.fill })
    else creation_v3 (document_with b f c)

-- the document is that of what was chosen, and creation makes these parts of it
abbrev pub SaysChosen : BuilderData → FieldsData → DocumentData → Type 0
SaysChosen b f m = (c : ChosenData) × (chosen b f ≡ Ok c) × (creation_v3 m ≡ parts_of_fields b f c)

-- the parts of the array of a builder at a path, which are its own, or the first refusal: of its memory, the path, the fields; of
-- a type that metadata cannot say, of creation
abbrev pub built_at : List ℕ → BuilderData → Result Meaning CreateRefusal
built_at path b = found b >>= (λ f. path_said path >>= (λ valid. chosen b f >>= parts_of_fields b f))

-- the metadata of the array of a builder
abbrev pub built_metadata : BuilderData → Result MetadataData CreateRefusal
built_metadata b = built b >>= (λ m. Ok (v3 m))

-- The array of a builder was made at this path and over this store, with the builder's options of single codecs and else the
-- default ones: its grid, its keys, its chain, its type and its fill value are the builder's own. Or this is refused.
pub record BuildsArray {S : Type 0} (b : BuilderData) (given_path : List ℕ) (given_storage : S) (result : Result (Array S) ArrayCreateError) : Type 0 where
  pub metadata : IfOk result (λ a. built_metadata b ≡ Ok (metadata_of_array a))
  pub parts : IfOk result (λ a. built_at given_path b ≡ Ok (meaning_of_array a))
  pub path : IfOk result (λ a. path_of_array a ≡ given_path)
  pub storage : IfOk result (λ a. storage_of_array a ≡ given_storage)
  pub options : IfOk result (HasSpecificOptions b.codec_specific_options)
  pub refused : IfErr result (λ e. RefusesCreation (built_at given_path b) (create_refusal_of e))
