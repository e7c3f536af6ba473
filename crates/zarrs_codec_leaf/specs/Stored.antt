-- The value at a key of a store, as a source.
use Rattle.std.specs.Prelude.{ℕ, List, [], unwrap_or}
use Rattle.std.specs.FinMap as map
use Rattle.zarrs_storage.specs.Store.{StoreState}
use Rattle.zarrs_storage.specs.declared.traits.ReadableStorageTraits.{Ghosts as StoreMeaning}
use Rattle.zarrs_codec_leaf.specs.declared.stored.StoredValue.{StoredValue}

-- the value at a key, empty if it is absent
abbrev pub value_or_empty : StoreState → List ℕ → List ℕ
value_or_empty s key = unwrap_or (map.get s.values key) []

module _ {S : Type 0} {s : StoreMeaning S} where
  -- the store that holds the value, and the key of it
  abbrev pub state_of_source : StoredValue S s → StoreState
  state_of_source source = s.state source.store.now

  abbrev pub key_of_source : StoredValue S s → List ℕ
  key_of_source source = source.key.now
