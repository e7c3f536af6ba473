-- What the calls on the metadata of an array end in: what was asked is done in its store, or refused. A refusal names no
-- document, since none is read.
use Rattle.std.specs.Prelude.{◌≡◌, Result, Ok, OnOk, OnErr, IfErr}
use Rattle.zarrs_storage.specs.Store.{StoreState}
use Rattle.zarrs_storage.specs.declared.error.StorageError.{StorageError}
use Rattle.zarrs_engine_calls.specs.Refusals.{Refusal, refusal_of_storage}
use Rattle.zarrs_options.specs.Options.{MetadataOptionsData}
use Rattle.zarrs_options.specs.declared.versions.MetadataEraseVersion.{MetadataEraseVersion}
use Rattle.zarrs_creation.specs.Meanings.{as_v3}
use Rattle.zarrs_creation.specs.Writing.{NamesNoDocument, erasures}
use Rattle.zarrs.specs.Arrays.{metadata_of_array, metadata_options_of_array, path_of_array, store_of_array, KeepsArray, KeepsAllButDocument}
use Rattle.zarrs.specs.Puts.{ArePut, RefusesPuts, StoresMetadata, RefusesStoreMetadata}
use Rattle.zarrs.specs.Upgrade.{UpgradesMetadata, RefusesUpgrade}
use Rattle.zarrs.specs.declared.array.Array.{Array}

module _ {S : Type 0} where
  -- A call that puts metadata into the store was made: it is done, or refused. Nothing but the store changed.
  pub record PutsOrRefuses (state : S → StoreState) (does : StoreState → StoreState → Type 0) (refuses : Refusal → StoreState → StoreState → Type 0)
      (old new : Array S) (result : Result (Unit {0}) StorageError) : Type 0 where
    pub done : OnOk result (does (store_of_array state old) (store_of_array state new))
    pub refused : IfErr result (λ e. refuses (refusal_of_storage e) (store_of_array state old) (store_of_array state new))
    pub named : IfErr result NamesNoDocument
    pub kept : KeepsArray old new

  -- the documents of the metadata are stored, as these options show it
  abbrev pub StoresDocuments : (S → StoreState) → MetadataOptionsData → Array S → Array S → Result (Unit {0}) StorageError → Type 0
  StoresDocuments state o old =
      let path = path_of_array old in
      let m = metadata_of_array old in
      PutsOrRefuses state (StoresMetadata o path m) (RefusesStoreMetadata o path m) old

  -- the documents of this version are erased
  abbrev pub ErasesDocuments : (S → StoreState) → MetadataEraseVersion → Array S → Array S → Result (Unit {0}) StorageError → Type 0
  ErasesDocuments state version old =
      let puts = erasures version (path_of_array old) (metadata_of_array old) in
      PutsOrRefuses state (ArePut puts) (RefusesPuts puts) old

  -- the documents are upgraded, and the array has the V3 metadata; or it is refused, and the array is as it was
  pub record UpgradesDocuments (state : S → StoreState) (old new : Array S) (result : Result (Unit {0}) StorageError) : Type 0 where
    pub done : OnOk result (UpgradesMetadata (metadata_options_of_array old) (path_of_array old) (metadata_of_array old)
        (store_of_array state old) (store_of_array state new))
    pub metadata : OnOk result (as_v3 (metadata_of_array old) ≡ Ok (metadata_of_array new))
    pub refused : IfErr result (λ e. RefusesUpgrade (metadata_options_of_array old) (path_of_array old) (metadata_of_array old) (refusal_of_storage e)
        (store_of_array state old) (store_of_array state new))
    pub named : IfErr result NamesNoDocument
    pub untouched : OnErr result (KeepsArray old new)
    pub kept : KeepsAllButDocument old new
