-- What clauses show of an array.
use Rattle.std.specs.Prelude.{◌≡◌, ℕ, List, false}
use Rattle.zarrs_storage.specs.Store.{StoreState}
use Rattle.zarrs_metadata.specs.Versions.{MetadataData, metadata_view}
use Rattle.zarrs_codec.specs.Options.{stores_empty_chunks, encodes_partially}
use Rattle.zarrs_codec_chain.specs.declared.options.CodecOptions.{CodecOptions}
use Rattle.zarrs_codec_chain.specs.declared.options.CodecSpecificOptions.{CodecSpecificOptions}
use Rattle.zarrs_codec_chain.specs.declared.options.SubchunkWriteOrder.TheVariants.{C}
use Rattle.zarrs_options.specs.Options.{MetadataOptionsData, options_view, default_options}
use Rattle.zarrs_engine_calls.specs.Layout.{Layout, ArrayState}
use Rattle.zarrs_engine.specs.Engine.{layout_of, the_store, store_of, state_of, path_of, grid_of, KeepsOthers, KeepsLayout, GivesGrid}
use Rattle.zarrs_chunk_grid.specs.GridView.{array_extents_of}
use Rattle.zarrs_creation.specs.Changes.{with_shape}
use Rattle.zarrs_creation.specs.Meanings.{Meaning}
use Rattle.zarrs.specs.Agreement.{meaning_of}
use Rattle.zarrs.specs.declared.array.Array.{Array}

-- a shard has its subchunks in row-major order
abbrev pub default_specific_options : CodecSpecificOptions
default_specific_options = record { sharding = record { subchunk_write_order = C } }

module _ {S : Type 0} where
  -- its metadata
  abbrev pub metadata_of_array : Array S → MetadataData
  metadata_of_array array = metadata_view array.metadata

  -- its parts
  abbrev pub meaning_of_array : Array S → Meaning
  meaning_of_array array = meaning_of array.engine

  -- how it lies in its store
  abbrev pub layout_of_array : Array S → Layout
  layout_of_array array = layout_of array.engine

  -- its path
  abbrev pub path_of_array : Array S → List ℕ
  path_of_array array = path_of array.engine

  -- its store
  abbrev pub storage_of_array : Array S → S
  storage_of_array array = the_store array.engine

  -- the options of its codecs, of single codecs, and of its metadata
  abbrev pub codec_options_of_array : Array S → CodecOptions
  codec_options_of_array array = array.codec_options

  abbrev pub codec_specific_options_of_array : Array S → CodecSpecificOptions
  codec_specific_options_of_array array = array.codec_specific_options

  abbrev pub metadata_options_of_array : Array S → MetadataOptionsData
  metadata_options_of_array array = options_view array.metadata_options

  -- what its store is now
  abbrev pub store_of_array : (S → StoreState) → Array S → StoreState
  store_of_array state array = store_of state array.engine

  -- the same, and its shape
  abbrev pub state_of_array : (S → StoreState) → Array S → ArrayState
  state_of_array state array = state_of state array.engine

  -- nothing but the store changed
  pub record KeepsArray (old new : Array S) : Type 0 where
    pub layout_kept : KeepsLayout old.engine new.engine
    pub metadata : new.metadata ≡ old.metadata
    pub codec_options : new.codec_options ≡ old.codec_options
    pub codec_specific_options : new.codec_specific_options ≡ old.codec_specific_options
    pub metadata_options : new.metadata_options ≡ old.metadata_options

  -- nothing changed, nor did the store
  pub record IsUntouched (old new : Array S) : Type 0 where
    pub storage : storage_of_array new ≡ storage_of_array old
    pub array : KeepsArray old new

  -- nothing but the store and the shape changed: the metadata has the shape that the grid has
  pub record KeepsAllButShape (old new : Array S) : Type 0 where
    pub others : KeepsOthers old.engine new.engine
    pub metadata : metadata_of_array new ≡ with_shape (array_extents_of (grid_of new.engine)) (metadata_of_array old)
    pub codec_options : new.codec_options ≡ old.codec_options
    pub codec_specific_options : new.codec_specific_options ≡ old.codec_specific_options
    pub metadata_options : new.metadata_options ≡ old.metadata_options

  -- nothing but the store and the metadata changed
  pub record KeepsAllButDocument (old new : Array S) : Type 0 where
    pub layout_kept : KeepsLayout old.engine new.engine
    pub layout : layout_of_array new ≡ layout_of_array old
    pub codec_options : new.codec_options ≡ old.codec_options
    pub codec_specific_options : new.codec_specific_options ≡ old.codec_specific_options
    pub metadata_options : new.metadata_options ≡ old.metadata_options

  -- nothing but the metadata changed
  pub record KeepsAllButMetadata (old new : Array S) : Type 0 where
    pub engine : new.engine ≡ old.engine
    pub codec_options : new.codec_options ≡ old.codec_options
    pub codec_specific_options : new.codec_specific_options ≡ old.codec_specific_options
    pub metadata_options : new.metadata_options ≡ old.metadata_options

  -- nothing but the metadata and the grid changed
  pub record KeepsAllButGrid (old new : Array S) : Type 0 where
    pub engine : GivesGrid (grid_of new.engine) old.engine new.engine
    pub codec_options : new.codec_options ≡ old.codec_options
    pub codec_specific_options : new.codec_specific_options ≡ old.codec_specific_options
    pub metadata_options : new.metadata_options ≡ old.metadata_options

  -- it has these options of its codecs, and nothing else changed
  pub record HasCodecOptions (options : CodecOptions) (old new : Array S) : Type 0 where
    pub set : new.codec_options ≡ options
    pub engine : new.engine ≡ old.engine
    pub metadata : new.metadata ≡ old.metadata
    pub codec_specific_options : new.codec_specific_options ≡ old.codec_specific_options
    pub metadata_options : new.metadata_options ≡ old.metadata_options

  -- it has these options of single codecs, and nothing else changed
  pub record HasCodecSpecificOptions (options : CodecSpecificOptions) (old new : Array S) : Type 0 where
    pub set : new.codec_specific_options ≡ options
    pub engine : new.engine ≡ old.engine
    pub metadata : new.metadata ≡ old.metadata
    pub codec_options : new.codec_options ≡ old.codec_options
    pub metadata_options : new.metadata_options ≡ old.metadata_options

  -- it has these options of its metadata, and nothing else changed
  pub record HasMetadataOptions (options : MetadataOptionsData) (old new : Array S) : Type 0 where
    pub set : options_view new.metadata_options ≡ options
    pub engine : new.engine ≡ old.engine
    pub metadata : new.metadata ≡ old.metadata
    pub codec_options : new.codec_options ≡ old.codec_options
    pub codec_specific_options : new.codec_specific_options ≡ old.codec_specific_options

  -- it has the default options of its codecs, which choose nothing, and of its metadata, and these options of single
  -- codecs
  pub record HasSpecificOptions (options : CodecSpecificOptions) (array : Array S) : Type 0 where
    pub empty_chunks : stores_empty_chunks array.codec_options ≡ false
    pub partial_encoding : encodes_partially array.codec_options ≡ false
    pub specific : array.codec_specific_options ≡ options
    pub metadata : options_view array.metadata_options ≡ default_options

  -- it has the default options alone
  abbrev pub HasDefaultOptions : Array S → Type 0
  HasDefaultOptions array = HasSpecificOptions default_specific_options array

-- the array has the path, the parts, the metadata and the options of the other one, whichever its store
pub record HasAllButStore {S T : Type 0} (other : Array S) (array : Array T) : Type 0 where
  pub path : path_of_array array ≡ path_of_array other
  pub metadata : metadata_of_array array ≡ metadata_of_array other
  pub parts : meaning_of_array array ≡ meaning_of_array other
  pub layout : layout_of_array array ≡ layout_of_array other
  pub codec_options : codec_options_of_array array ≡ codec_options_of_array other
  pub codec_specific_options : codec_specific_options_of_array array ≡ codec_specific_options_of_array other
  pub metadata_options : metadata_options_of_array array ≡ metadata_options_of_array other
