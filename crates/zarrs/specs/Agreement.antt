-- The parts of an engine are those that metadata says.
use Rattle.zarrs_metadata.specs.Versions.{metadata_view}
use Rattle.zarrs_metadata.specs.declared.versions.ArrayMetadata.{ArrayMetadata}
use Rattle.zarrs_keys.specs.declared.encodings.ChunkKeyEncoding.{ChunkKeyEncoding}
use Rattle.zarrs_keys.specs.declared.traits.ChunkKeyEncodingTraits.{Ghosts as KeyMeaning}
use Rattle.zarrs_chunk_grid.specs.declared.grid.ChunkGrid.{ChunkGrid}
use Rattle.zarrs_chunk_grid.specs.declared.traits.ChunkGridTraits.{Ghosts as GridMeaning}
use Rattle.zarrs_codec.specs.declared.chain.CodecChain.{CodecChain}
use Rattle.zarrs_codec_chain.specs.declared.traits.ChainTraits.{Ghosts as ChainMeanings}
use Rattle.zarrs_engine.specs.Engine.{grid_of, keys_of, chain_of, data_type_of, fill_value_of}
use Rattle.zarrs_engine.specs.declared.engine.Engine.{Engine}
use Rattle.zarrs_creation.specs.Meanings.{Meaning, meaning_with, Says}
use Rattle.zarrs_creation.specs.Sets.{meanings-set}

module _ {g : GridMeaning ChunkGrid} {k : KeyMeaning ChunkKeyEncoding} {c : ChainMeanings CodecChain} {S : Type 0} where
  -- the parts of an engine
  abbrev pub meaning_of : Engine S ChunkGrid ChunkKeyEncoding CodecChain g k c → Meaning
  meaning_of engine = meaning_with (grid_of engine) (keys_of engine) (chain_of engine) (data_type_of engine) (fill_value_of engine)

  -- the metadata says the parts of the engine
  abbrev pub Agrees : Engine S ChunkGrid ChunkKeyEncoding CodecChain g k c → ArrayMetadata → Type 0
  Agrees engine metadata = Says (metadata_view metadata) (meaning_of engine)

  pub Agrees-prop : (engine : Engine S ChunkGrid ChunkKeyEncoding CodecChain g k c) (metadata : ArrayMetadata) → IsProp (Agrees engine metadata)
  Agrees-prop engine metadata = meanings-set _ _
