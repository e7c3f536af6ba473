-- What calls end in that make or open an array.
use Rattle.std.specs.Prelude.{◌≡◌, ℕ, List, Result, Ok, IfOk, IfErr}
use Rattle.zarrs_storage.specs.Store.{StoreState}
use Rattle.zarrs_metadata.specs.Versions.{MetadataData}
use Rattle.zarrs_options.specs.Refusals.{CreateRefusal, create_refusal_of, RefusesCreation}
use Rattle.zarrs_options.specs.declared.error.ArrayCreateError.{ArrayCreateError}
use Rattle.zarrs_options.specs.declared.versions.MetadataRetrieveVersion.{MetadataRetrieveVersion}
use Rattle.zarrs_creation.specs.Opening.{opened, IsMetadataKey, NamesOneOf}
use Rattle.zarrs.specs.Arrays.{metadata_of_array, path_of_array, storage_of_array, HasDefaultOptions}
use Rattle.zarrs.specs.declared.array.Array.{Array}

module _ {S : Type 0} where
  -- an array of this metadata was made at this path, over this store and with default options; or it is refused so
  pub record MakesArray (given_path : List ℕ) (given_storage : S) (m : MetadataData) (refuses : CreateRefusal → Type 0)
      (result : Result (Array S) ArrayCreateError) : Type 0 where
    pub metadata : IfOk result (λ a. metadata_of_array a ≡ m)
    pub path : IfOk result (λ a. path_of_array a ≡ given_path)
    pub storage : IfOk result (λ a. storage_of_array a ≡ given_storage)
    pub options : IfOk result HasDefaultOptions
    pub refused : IfErr result (λ e. refuses (create_refusal_of e))

  -- The array that opens at this path in this store was made, with default options; or none opens, and this is refused. What
  -- could not be read is at a key of this version.
  pub record OpensArray (version : MetadataRetrieveVersion) (state : S → StoreState) (given_path : List ℕ) (given_storage : S)
      (result : Result (Array S) ArrayCreateError) : Type 0 where
    pub metadata : IfOk result (λ a. opened version (state given_storage) given_path ≡ Ok (metadata_of_array a))
    pub path : IfOk result (λ a. path_of_array a ≡ given_path)
    pub storage : IfOk result (λ a. storage_of_array a ≡ given_storage)
    pub options : IfOk result HasDefaultOptions
    pub refused : IfErr result (λ e. RefusesCreation (opened version (state given_storage) given_path) (create_refusal_of e))
    pub named : IfErr result (λ e. NamesOneOf (IsMetadataKey version given_path) (create_refusal_of e))
