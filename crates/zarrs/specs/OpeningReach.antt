-- What opens at a path depends on the keys of its metadata alone.
use Rattle.std.specs.Prelude.{◌≡◌, ℕ, List}
use Rattle.zarrs_storage.specs.Store.{StoreState}
use Rattle.zarrs_engine_calls.specs.Content.{value_at}
use Rattle.zarrs_options.specs.declared.versions.MetadataRetrieveVersion.{MetadataRetrieveVersion}
use Rattle.zarrs_options.specs.declared.versions.MetadataRetrieveVersion.TheVariants as retrieve
use Rattle.zarrs_creation.specs.Opening.{attributes_key, opened, v2_array_key, v3_key}

-- the same bytes are present at the key, or none in both, and both stores refuse it or neither
pub record AgreeAtKey (a b : StoreState) (key : List ℕ) : Type 0 where
  pub values : value_at b key ≡ value_at a key
  pub refuses : b.refuses key ≡ a.refuses key

-- so they do at the keys that the metadata of this version may have at the path
abbrev pub AgreeOnMetadata : MetadataRetrieveVersion → List ℕ → StoreState → StoreState → Type 0
AgreeOnMetadata retrieve.Default path a b = AgreeAtKey a b (v3_key path) × AgreeAtKey a b (v2_array_key path) × AgreeAtKey a b (attributes_key path)
AgreeOnMetadata retrieve.V3 path a b = AgreeAtKey a b (v3_key path)
AgreeOnMetadata retrieve.V2 path a b = AgreeAtKey a b (v2_array_key path) × AgreeAtKey a b (attributes_key path)

-- the same metadata opens at the path in both, or both refuse for the same
abbrev pub OpeningsDependOnTheReach : Type 0
OpeningsDependOnTheReach =
    (version : MetadataRetrieveVersion) (path : List ℕ) (a b : StoreState) → AgreeOnMetadata version path a b
    → opened version b path ≡ opened version a path
