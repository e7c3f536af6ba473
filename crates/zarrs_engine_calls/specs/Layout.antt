-- What an array is cut into, and what its bytes mean.
use Rattle.std.specs.Prelude.{◌≡◌, ℕ, true, List, [], ◌∷◌, Contains}
use Rattle.zarrs_chunk_grid.specs.Grids.{Grid, IsGrid}
use Rattle.zarrs_keys.specs.Keys.{IsIndexList, v3_name, v2_array_name, v2_attributes_name}
use Rattle.zarrs_keys.specs.Paths.{path_key}
use Rattle.zarrs_storage.specs.Store.{StoreState}
use Rattle.zarrs_data_type.specs.Kind.{Kind}
use Rattle.zarrs_data_type.specs.Cell.{Cell, fill_of, is_value}
use Rattle.zarrs_codec_chain.specs.Chain.{ChainMeaning, IsLawfulChain}

-- How an array lies in a store: its grid, the store key of each chunk, the keys of its metadata, the chain of codecs,
-- the data type, and the cell of the fill value.
pub record Layout : Type 0 where
  pub grid : Grid
  pub key : List ℕ → List ℕ
  pub metadata_keys : List (List ℕ)
  pub chain : ChainMeaning
  pub kind : Kind
  pub fill : Cell

-- no two index lists of one length share a key
abbrev pub IsInjective : (List ℕ → List ℕ) → Type 0
IsInjective key = (dimensions : ℕ) (a b : List ℕ) → IsIndexList dimensions a → IsIndexList dimensions b → key a ≡ key b → a ≡ b

-- no chunk key is a metadata key
abbrev pub AreNoMetadataKeys : ℕ → (List ℕ → List ℕ) → List (List ℕ) → Type 0
AreNoMetadataKeys dimensions key metadata_keys = (index : List ℕ) → IsIndexList dimensions index → Contains metadata_keys (key index) → ⊥

-- what grids, keys, chains and fill values promise of a layout
pub record IsLawful (layout : Layout) : Type 0 where
  pub grid : IsGrid layout.grid
  pub key : IsInjective layout.key
  pub apart : AreNoMetadataKeys layout.grid.dimensions layout.key layout.metadata_keys
  pub chain : IsLawfulChain layout.chain
  -- the fill value is a value of the type
  pub filled : is_value layout.kind layout.fill ≡ true

-- the keys of the metadata of an array at the path
abbrev pub metadata_keys_at : List ℕ → List (List ℕ)
metadata_keys_at path = path_key path v3_name ∷ path_key path v2_array_name ∷ path_key path v2_attributes_name ∷ []

-- the layout of these parts: a grid, a path and the keys below it, a chain, a type and the bytes of its fill value
abbrev pub layout_at : Grid → List ℕ → (List ℕ → List ℕ) → ChainMeaning → Kind → List ℕ → Layout
layout_at grid path key chain kind fill = record {
  grid = grid;
  key = λ index. path_key path (key index);
  metadata_keys = metadata_keys_at path;
  chain = chain;
  kind = kind;
  fill = fill_of kind fill;
}

-- what a run goes through: the array's store at one moment, and the array's shape
pub record ArrayState : Type 0 where
  pub store : StoreState
  pub shape : List ℕ
