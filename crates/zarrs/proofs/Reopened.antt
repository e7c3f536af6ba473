-- An array whose metadata is not stored, as what opens it again says.
use Rattle.std.proofs.Common.{inl, inr, ℕ, List, refl}
use Rattle.zarrs_storage.specs.Store.{StoreState}
use Rattle.zarrs_storage.specs.declared.error.StorageError.{StorageError}
use Rattle.zarrs_storage.specs.declared.error.StorageError.TheVariants as error
use Rattle.zarrs_engine_calls.specs.Refusals.{refusal_of_storage}
use Rattle.zarrs_metadata.specs.Versions.{MetadataData}
use Rattle.zarrs_options.specs.Errors.{create_error_of_storage}
use Rattle.zarrs_options.specs.Options.{MetadataOptionsData}
use Rattle.zarrs_options.specs.Refusals.{create_refusal_of}
use Rattle.zarrs_creation.specs.Writing.{NamesNoDocument}
use Rattle.zarrs.specs.Puts.{RefusesStoreMetadata}
use Rattle.zarrs.specs.Reopening.{RefusesToStore}

module _ {S : Type 0} (state : S → StoreState) (o : MetadataOptionsData) (path : List ℕ) (m : MetadataData) (old : StoreState) (left : S) where
  pub not_stored : (e : StorageError) → NamesNoDocument e → RefusesStoreMetadata o path m (refusal_of_storage e) old (state left)
      → RefusesToStore state o path m (create_refusal_of (create_error_of_storage e)) old
  not_stored (error.InvalidMetadata key text) named refused = absurd named
  not_stored error.ReadOnly named refused = inr (record { left = left; refused = refused; said = refl })
  not_stored error.InvalidByteRange named refused = inr (record { left = left; refused = refused; said = refl })
  not_stored error.Exhausted named refused = inr (record { left = left; refused = refused; said = refl })
  not_stored (error.Other text) named refused = inr (record { left = left; refused = refused; said = refl })
  not_stored error.OutOfMemory named refused = inl refl
