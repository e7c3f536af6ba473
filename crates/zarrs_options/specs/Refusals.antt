-- Why no array is created, and which refusal comes first.
use Rattle.std.specs.Prelude.{◌≡◌, ℕ, List, Option, Some, None, Result, Ok, Err, string_bytes}
use Rattle.serde_json.specs.Data.{Data}
use Rattle.zarrs_storage.specs.declared.error.StorageError.{StorageError}
use Rattle.zarrs_storage.specs.declared.error.StorageError.TheVariants as stored
use Rattle.zarrs_keys.specs.declared.error.NodePathError.{NodePathError}
use Rattle.zarrs_keys.specs.declared.error.NodePathError.TheVariants as path
use Rattle.zarrs_metadata_parts.specs.FillValue.{fill_data}
use Rattle.zarrs_metadata_parts.specs.declared.error.PluginCreateError.{PluginCreateError}
use Rattle.zarrs_metadata_parts.specs.declared.error.PluginCreateError.TheVariants as plugin
use Rattle.zarrs_options.specs.Errors.{name_of_field, value_of_field}
use Rattle.zarrs_options.specs.declared.error.ArrayCreateError.{ArrayCreateError}
use Rattle.zarrs_options.specs.declared.error.ArrayCreateError.TheVariants as error

-- a refusal, by what its text says
pub data CreateRefusal : Type 0 where
  -- E11
  node_path : CreateRefusal
  -- E12: the name and the value of the field
  additional_field : List ℕ → Data → CreateRefusal
  -- E13
  data_type : CreateRefusal
  -- E14: the name of the data type, and the bytes that were to be its fill value
  fill_value : List ℕ → List ℕ → CreateRefusal
  -- E15: the name of the data type, and what was to be its fill value
  fill_value_metadata : List ℕ → Data → CreateRefusal
  -- E16
  codecs : CreateRefusal
  -- E17
  storage_transformers : CreateRefusal
  -- E18
  chunk_grid : CreateRefusal
  -- E19
  chunk_key_encoding : CreateRefusal
  -- E20: how many dimensions the grid has, and how many the array
  grid_dimensions : ℕ → ℕ → CreateRefusal
  -- E21: how many names, and how many dimensions
  dimension_names : ℕ → ℕ → CreateRefusal
  -- E22: the shape of the subchunks
  subchunk_shape : List ℕ → CreateRefusal
  -- E23: the store refused a call
  storage : CreateRefusal
  -- E23: what is at this key reads as none of the documents of an array
  unread : List ℕ → CreateRefusal
  -- E24
  missing_metadata : CreateRefusal
  -- E25
  unsupported_v2 : CreateRefusal
  -- E26
  out_of_memory : CreateRefusal
  -- no refusal of a call: another error holds want of memory
  unused : CreateRefusal

-- the refusal of a plugin, which does not hold want of memory
abbrev pub plugin_refusal : CreateRefusal → PluginCreateError → CreateRefusal
plugin_refusal refusal (plugin.Other text) = refusal
plugin_refusal refusal plugin.OutOfMemory = unused

-- that of a path, and that of a store, by the key if that is to hold a document
abbrev pub path_refusal : NodePathError → CreateRefusal
path_refusal path.Invalid = node_path
path_refusal path.OutOfMemory = unused

abbrev pub storage_refusal : StorageError → CreateRefusal
storage_refusal (stored.InvalidMetadata key text) = unread key
storage_refusal stored.ReadOnly = storage
storage_refusal stored.InvalidByteRange = storage
storage_refusal stored.Exhausted = storage
storage_refusal (stored.Other text) = storage
storage_refusal stored.OutOfMemory = unused

-- the refusal that an error is
abbrev pub create_refusal_of : ArrayCreateError → CreateRefusal
create_refusal_of (error.NodePathError e) = path_refusal e
create_refusal_of (error.AdditionalFieldUnsupportedError e) = additional_field (name_of_field e) (value_of_field e)
create_refusal_of (error.DataTypeCreateError e) = plugin_refusal data_type e
create_refusal_of (error.InvalidFillValue name bytes) = fill_value (string_bytes name) bytes
create_refusal_of (error.InvalidFillValueMetadata name value) = fill_value_metadata (string_bytes name) (fill_data value)
create_refusal_of (error.CodecsCreateError e) = plugin_refusal codecs e
create_refusal_of (error.StorageTransformersCreateError e) = plugin_refusal storage_transformers e
create_refusal_of (error.ChunkGridCreateError e) = plugin_refusal chunk_grid e
create_refusal_of (error.ChunkKeyEncodingCreateError e) = plugin_refusal chunk_key_encoding e
create_refusal_of (error.InvalidChunkGridDimensionality grid dimensions) = grid_dimensions grid dimensions
create_refusal_of (error.InvalidDimensionNames names dimensions) = dimension_names names dimensions
create_refusal_of (error.InvalidSubchunkShape shape) = subchunk_shape shape.items
create_refusal_of (error.StorageError e) = storage_refusal e
create_refusal_of error.MissingMetadata = missing_metadata
create_refusal_of (error.UnsupportedZarrV2Array text) = unsupported_v2
create_refusal_of error.OutOfMemory = out_of_memory

-- what is read, or else this refusal
abbrev pub said_or : {A : Type 0} → CreateRefusal → Option A → Result A CreateRefusal
said_or refusal None = Err refusal
said_or refusal (Some a) = Ok a

-- a creation is refused: if memory runs out, which may come at any growth; else by the first refusal that is decided
abbrev pub RefusesCreation : {A : Type 0} → Result A CreateRefusal → CreateRefusal → Type 0
RefusesCreation made out_of_memory = Unit {0}
RefusesCreation made other = made ≡ Err other
