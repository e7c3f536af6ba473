-- What metadata says of an array: its parts, or the first refusal.
use Rattle.std.specs.Prelude.{◌≡◌, ℕ, ◌==◌, List, length, if◌then◌else◌, Option, Some, None, Result, Ok, Err}
use Rattle.std.specs.Result.{result_ok}
use Rattle.serde_json.specs.Data.{Members}
use Rattle.zarrs_metadata_v3.specs.Document.{DocumentData}
use Rattle.zarrs_metadata.specs.Conversion.{ConversionRefusal, no_type, no_fill_value, no_codecs, to_v3}
use Rattle.zarrs_metadata_v2.specs.Document.{DocumentV2Data}
use Rattle.zarrs_metadata.specs.Versions.{MetadataData, v3, v2}
use Rattle.zarrs_keys.specs.Metadata.{key_encoding_of}
use Rattle.zarrs_keys.specs.Paths.{is_node_path}
use Rattle.zarrs_keys.specs.declared.encodings.ChunkKeyEncoding.{ChunkKeyEncoding}
use Rattle.zarrs_chunk_grid.specs.Configurations.{GridConfiguration}
use Rattle.zarrs_chunk_grid.specs.GridView.{configuration_of, array_extents_of}
use Rattle.zarrs_chunk_grid.specs.Metadata.{grid_said}
use Rattle.zarrs_chunk_grid.specs.declared.grid.ChunkGrid.{ChunkGrid}
use Rattle.zarrs_data_type.specs.FillMetadata.{fill_said}
use Rattle.zarrs_data_type.specs.Kind.{Kind, kind}
use Rattle.zarrs_data_type.specs.TypeMetadata.{kind_of}
use Rattle.zarrs_data_type_kinds.specs.declared.data_type.DataType.{DataType}
use Rattle.zarrs_codec.specs.Metadata.{chain_said}
use Rattle.zarrs_codec.specs.Chains.{chain_data}
use Rattle.zarrs_codec.specs.Configurations.{ChainData}
use Rattle.zarrs_codec.specs.declared.chain.CodecChain.{CodecChain}
use Rattle.zarrs_options.specs.Options.{transformers_said}
use Rattle.zarrs_options.specs.Refusals.{CreateRefusal, node_path, codecs, data_type, chunk_grid, fill_value_metadata}
use Rattle.zarrs_options.specs.Refusals.{storage_transformers, chunk_key_encoding, dimension_names, unsupported_v2, said_or}

-- the value, passed on to the next step unless a step is refused
infixl 10 ◌>>=◌
abbrev pub ◌>>=◌ : {A B : Type 0} → Result A CreateRefusal → (A → Result B CreateRefusal) → Result B CreateRefusal
Ok a >>= f = f a
Err refusal >>= f = Err refusal

-- the parts of an array, whichever its path and its store: its shape, the configuration of its grid, its key encoding, its chain,
-- its data type, and the bytes of its fill value
pub record Meaning : Type 0 where
  pub shape : List ℕ
  pub grid : GridConfiguration
  pub keys : ChunkKeyEncoding
  pub chain : ChainData
  pub kind : Kind
  -- the bytes of the fill value
  pub fill : List ℕ

-- these parts, taken together
abbrev pub meaning_with : ChunkGrid → ChunkKeyEncoding → CodecChain → DataType → List ℕ → Meaning
meaning_with grid keys chain cell_type fill = record {
  shape = array_extents_of grid;
  grid = configuration_of grid;
  keys = keys;
  chain = chain_data chain;
  kind = kind cell_type;
  fill = fill;
}

-- ---- V3

-- there are as many names as dimensions, if there are names
abbrev pub names_said : ℕ → Option (List (Option (List ℕ))) → Result (Unit {0}) CreateRefusal
names_said dimensions None = Ok tt
names_said dimensions (Some names) = if length names == dimensions then Ok tt else Err (dimension_names (length names) dimensions)

-- the parts that a V3 document says, or the first refusal: of the codecs, the data type, the grid, the fill value, the storage
-- transformers, the key encoding, the names
unfoldable pub creation_v3 : DocumentData → Result Meaning CreateRefusal
creation_v3 m = do
  chain ← said_or codecs (chain_said m.codecs)
  kind ← said_or data_type (kind_of m.data_type)
  grid ← said_or chunk_grid (grid_said m.chunk_grid m.shape)
  fill ← said_or (fill_value_metadata m.data_type.name m.fill_value) (fill_said kind m.fill_value)
  transformers ← said_or storage_transformers (transformers_said m.storage_transformers)
  keys ← said_or chunk_key_encoding (key_encoding_of m.chunk_key_encoding)
  names ← names_said (length m.shape) m.dimension_names
  Ok (record { shape = m.shape; grid = grid; keys = keys; chain = chain; kind = kind; fill = fill })

-- ---- V2

-- a chunk has as many extents as the array
abbrev pub extents_said : DocumentV2Data → Result (Unit {0}) CreateRefusal
extents_said m = if length m.chunks == length m.shape then Ok tt else Err chunk_grid

-- A data type without a V3 name is refused before the extents of a chunk, and these before a fill value and codecs.
abbrev pub not_converted : DocumentV2Data → ConversionRefusal → Result Meaning CreateRefusal
not_converted m (no_type dtype) = Err data_type
not_converted m (no_fill_value name value) = extents_said m >>= (λ fits. Err (fill_value_metadata name value))
not_converted m no_codecs = extents_said m >>= (λ fits. Err unsupported_v2)

-- what a V2 document says, by the V3 document that it becomes
abbrev pub creation_by : DocumentV2Data → Result DocumentData ConversionRefusal → Result Meaning CreateRefusal
creation_by m (Ok document) = creation_v3 document
creation_by m (Err refusal) = not_converted m refusal

-- the parts that a V2 document says, which are those of the V3 document that it becomes, or the first refusal: of the data type,
-- the number of a chunk's extents, the fill value, the codecs
abbrev pub creation_v2 : DocumentV2Data → Result Meaning CreateRefusal
creation_v2 m = creation_by m (to_v3 m)

-- ---- of either version

-- The parts that metadata says, or the first refusal.
abbrev pub creation : MetadataData → Result Meaning CreateRefusal
creation (v3 m) = creation_v3 m
creation (v2 m) = creation_v2 m

-- metadata says these parts
abbrev pub Says : MetadataData → Meaning → Type 0
Says m parts = result_ok (creation m) ≡ Some parts

-- the path is the path of a node
abbrev pub path_said : List ℕ → Result (Unit {0}) CreateRefusal
path_said path = if is_node_path path then Ok tt else Err node_path

-- the parts of an array of a path and metadata, or the first refusal
abbrev pub created : List ℕ → MetadataData → Result Meaning CreateRefusal
created path m = path_said path >>= (λ valid. creation m)

-- ---- what metadata says by itself

abbrev pub shape_said : MetadataData → List ℕ
shape_said (v3 m) = m.shape
shape_said (v2 m) = m.shape

abbrev pub attributes_of : MetadataData → Members
attributes_of (v3 m) = m.attributes
attributes_of (v2 m) = m.attributes

-- V2 has no names of dimensions
abbrev pub dimension_names_of : MetadataData → Option (List (Option (List ℕ)))
dimension_names_of (v3 m) = m.dimension_names
dimension_names_of (v2 m) = None

abbrev pub v3_metadata : Result DocumentData ConversionRefusal → Result MetadataData ConversionRefusal
v3_metadata (Ok m) = Ok (v3 m)
v3_metadata (Err refusal) = Err refusal

-- the metadata in V3, if it has a V3 document
abbrev pub as_v3 : MetadataData → Result MetadataData ConversionRefusal
as_v3 (v3 m) = Ok (v3 m)
as_v3 (v2 m) = v3_metadata (to_v3 m)
