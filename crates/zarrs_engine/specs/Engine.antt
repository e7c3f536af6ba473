-- What clauses show of an engine.
use Rattle.std.specs.Prelude.{◌≡◌, ℕ, List}
use Rattle.zarrs_storage.specs.Store.{StoreState}
use Rattle.zarrs_chunk_grid.specs.declared.traits.ChunkGridTraits.{Ghosts as GridMeaning}
use Rattle.zarrs_keys.specs.declared.traits.ChunkKeyEncodingTraits.{Ghosts as KeyMeaning}
use Rattle.zarrs_codec_chain.specs.declared.traits.ChainTraits.{Ghosts as ChainMeanings}
use Rattle.zarrs_data_type.specs.declared.data_type.DataType.{DataType}
use Rattle.zarrs_data_type_kinds.specs.declared.cell_type.CellType.{CellType}
use Rattle.zarrs_engine_calls.specs.Layout.{Layout, ArrayState}
use Rattle.zarrs_engine_layout.specs.Layouts.{layout_meaning}
use Rattle.zarrs_engine.specs.declared.engine.Engine.{Engine}

module _ {G K C : Type 0} {g : GridMeaning G} {k : KeyMeaning K} {c : ChainMeanings C} where
  module _ {S : Type 0} where
    -- what an engine means
    abbrev pub layout_of : Engine S G K C g k c → Layout
    layout_of engine = layout_meaning engine.layout

    -- an engine's store
    abbrev pub the_store : Engine S G K C g k c → S
    the_store engine = engine.storage

    -- what an engine's store is now
    abbrev pub store_of : (S → StoreState) → Engine S G K C g k c → StoreState
    store_of state engine = state engine.storage

    -- what an engine's store is now, and the array's shape
    abbrev pub state_of : (S → StoreState) → Engine S G K C g k c → ArrayState
    state_of state engine = record { store = state engine.storage; shape = g.array_extents engine.layout.grid }

    -- where an engine's array lies
    abbrev pub path_of : Engine S G K C g k c → List ℕ
    path_of engine = engine.layout.path

    -- the grid, the key encoding, the chain of codecs and the data type that an engine was made of
    abbrev pub grid_of : Engine S G K C g k c → G
    grid_of engine = engine.layout.grid

    abbrev pub keys_of : Engine S G K C g k c → K
    keys_of engine = engine.layout.keys

    abbrev pub chain_of : Engine S G K C g k c → C
    chain_of engine = engine.layout.chain

    abbrev pub data_type_of : Engine S G K C g k c → DataType
    data_type_of engine = engine.layout.cell_type.data_type

    -- the bytes of the fill value
    abbrev pub fill_value_of : Engine S G K C g k c → List ℕ
    fill_value_of engine = engine.layout.cell_type.fill_value

    -- both
    abbrev pub cell_type_of : Engine S G K C g k c → CellType
    cell_type_of engine = engine.layout.cell_type

    -- an engine of these parts
    pub record HasParts (place : List ℕ) (cut : G) (names : K) (codecs : C) (type : DataType) (fill : List ℕ) (engine : Engine S G K C g k c) : Type 0 where
      pub path : path_of engine ≡ place
      pub grid : grid_of engine ≡ cut
      pub keys : keys_of engine ≡ names
      pub chain : chain_of engine ≡ codecs
      pub data_type : data_type_of engine ≡ type
      pub fill_value : fill_value_of engine ≡ fill

    -- nothing but the store changed
    abbrev pub KeepsLayout : Engine S G K C g k c → Engine S G K C g k c → Type 0
    KeepsLayout old new = new.layout ≡ old.layout

    -- nothing but the store and the array's shape changed
    pub record KeepsOthers (old new : Engine S G K C g k c) : Type 0 where
      pub grid : g.grid (grid_of new) ≡ g.grid (grid_of old)
      pub extension : g.extension (grid_of new) ≡ g.extension (grid_of old)
      pub path : path_of new ≡ path_of old
      pub keys : keys_of new ≡ keys_of old
      pub chain : chain_of new ≡ chain_of old
      pub data_type : data_type_of new ≡ data_type_of old
      pub fill_value : fill_value_of new ≡ fill_value_of old

    -- the engine has this grid, and everything else stayed
    pub record GivesGrid (given : G) (old new : Engine S G K C g k c) : Type 0 where
      pub storage : the_store new ≡ the_store old
      pub grid : grid_of new ≡ given
      pub path : path_of new ≡ path_of old
      pub keys : keys_of new ≡ keys_of old
      pub chain : chain_of new ≡ chain_of old
      pub data_type : data_type_of new ≡ data_type_of old
      pub fill_value : fill_value_of new ≡ fill_value_of old
