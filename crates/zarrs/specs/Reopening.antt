-- An array that is stored and opened again, and why it is not.
use Rattle.std.specs.Prelude.{◌≡◌, ◌⊎◌, ℕ, List, Result, Ok, IfOk, IfErr}
use Rattle.zarrs_storage.specs.Store.{StoreState}
use Rattle.zarrs_engine_calls.specs.Refusals as refusals
use Rattle.zarrs_metadata.specs.Versions.{MetadataData}
use Rattle.zarrs_options.specs.Options.{MetadataOptionsData}
use Rattle.zarrs_options.specs.Refusals.{CreateRefusal, create_refusal_of, storage, out_of_memory, RefusesCreation}
use Rattle.zarrs_options.specs.declared.error.ArrayCreateError.{ArrayCreateError}
use Rattle.zarrs_creation.specs.Opening.{opened, IsMetadataKey, NamesOneOf}
use Rattle.zarrs_creation.specs.Shown.{shown}
use Rattle.zarrs.specs.Arrays.{layout_of_array, metadata_of_array, metadata_options_of_array, path_of_array, store_of_array, HasDefaultOptions}
use Rattle.zarrs.specs.Laws.{IsReadAgain, normal_metadata, version_of}
use Rattle.zarrs.specs.Puts.{StoresMetadata, RefusesStoreMetadata}
use Rattle.zarrs.specs.declared.array.Array.{Array}

-- What is left of the store that was given is a store of its kind, in a state that the calls on metadata left: it refuses a
-- key, and counts a call that failed, as stores of that kind do.
module _ {S : Type 0} (state : S → StoreState) where
  -- the store refused a call that writes its metadata
  pub record IsNotStored (o : MetadataOptionsData) (path : List ℕ) (m : MetadataData) (r : CreateRefusal) (old : StoreState) : Type 0 where
    pub left : S
    pub refused : RefusesStoreMetadata o path m refusals.storage old (state left)
    pub said : r ≡ storage

  -- its metadata is not stored
  abbrev pub RefusesToStore : MetadataOptionsData → List ℕ → MetadataData → CreateRefusal → StoreState → Type 0
  RefusesToStore o path m r old = (r ≡ out_of_memory) ⊎ IsNotStored o path m r old

  -- what was written does not open by its version; if what is at a key does not read, that is a key of this version
  pub record DoesNotOpen (o : MetadataOptionsData) (path : List ℕ) (m : MetadataData) (r : CreateRefusal) (old : StoreState) : Type 0 where
    pub left : S
    pub stored : StoresMetadata o path m old (state left)
    pub refused : RefusesCreation (opened (version_of stored.shows) (state left) path) r
    pub named : NamesOneOf (IsMetadataKey (version_of stored.shows) path) r

  -- an array with these options, at this path, of this metadata is not stored, or does not open again
  abbrev pub RefusesReopening : MetadataOptionsData → List ℕ → MetadataData → CreateRefusal → StoreState → Type 0
  RefusesReopening o path m r old = RefusesToStore o path m r old ⊎ DoesNotOpen o path m r old

  -- The array was stored, and opened again with default options, or not. What opened is what its store then holds. If what is
  -- written for the metadata reads as it, the array that opened has the metadata that was shown up to its normal form, and lies
  -- in its store in the same way.
  pub record ReopensArray (array : Array S) (result : Result (Array S) ArrayCreateError) : Type 0 where
    pub opens : (m : MetadataData) → shown (metadata_options_of_array array) (metadata_of_array array) ≡ Ok m
        → IfOk result (λ a. opened (version_of m) (store_of_array state a) (path_of_array array) ≡ Ok (metadata_of_array a))
    pub metadata : (m : MetadataData) → shown (metadata_options_of_array array) (metadata_of_array array) ≡ Ok m → IsReadAgain m
        → IfOk result (λ a. metadata_of_array a ≡ normal_metadata m)
    pub path : IfOk result (λ a. path_of_array a ≡ path_of_array array)
    pub layout : (m : MetadataData) → shown (metadata_options_of_array array) (metadata_of_array array) ≡ Ok m → IsReadAgain m
        → IfOk result (λ a. layout_of_array a ≡ layout_of_array array)
    pub stored : IfOk result (λ a. StoresMetadata (metadata_options_of_array array) (path_of_array array) (metadata_of_array array)
        (store_of_array state array) (store_of_array state a))
    pub options : IfOk result HasDefaultOptions
    pub refused : IfErr result (λ e. RefusesReopening (metadata_options_of_array array) (path_of_array array) (metadata_of_array array)
        (create_refusal_of e) (store_of_array state array))
