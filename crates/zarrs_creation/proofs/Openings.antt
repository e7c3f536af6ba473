-- What a store holds of an array's metadata, and which refusal of an opening comes first.
use Rattle.std.proofs.Common.{◌≡◌, inl, inr, ℕ, List, Bool, true, false, Option, Some, None, Result, Ok, Err, refl, sym, subst}
use Rattle.zarrs_keys.specs.Paths.{is_node_path}
use Rattle.zarrs_keys.specs.declared.error.NodePathError.{NodePathError}
use Rattle.zarrs_keys.specs.declared.error.NodePathError.TheVariants as path_error
use Rattle.zarrs_storage.specs.Store.{StoreState}
use Rattle.zarrs_storage.specs.Refusals.{RefusesRead}
use Rattle.zarrs_storage.specs.declared.error.StorageError.{StorageError}
use Rattle.zarrs_storage.specs.declared.error.StorageError.TheVariants as store_error
use Rattle.zarrs_engine_calls.specs.Content.{value_at}
use Rattle.zarrs_metadata_v3.specs.Document.{DocumentData, document_said}
use Rattle.serde_json.specs.Data.{Members}
use Rattle.zarrs_metadata_v2.specs.Document.{DocumentV2Data, attributes_said}
use Rattle.zarrs_metadata.specs.Versions.{MetadataData, v3, v2}
use Rattle.zarrs_options.specs.Errors.{create_error_of_path, create_error_of_storage}
use Rattle.zarrs_options.specs.Refusals.{CreateRefusal, node_path, storage, unread, missing_metadata, create_refusal_of, RefusesCreation}
use Rattle.zarrs_options.specs.declared.versions.MetadataRetrieveVersion.{MetadataRetrieveVersion}
use Rattle.zarrs_creation.specs.Meanings.{Meaning, creation, created, ◌>>=◌}
use Rattle.zarrs_creation.specs.Opening.{v3_key, v2_array_key, attributes_key, value_asked, fields_understood, understood_document, document_v2_read, attributed, stored_v3, stored_v2, stored_default, stored_by, stored_metadata, opened}
use Rattle.zarrs_creation.specs.Writing.{without_document}
use Rattle.zarrs_creation.proofs.Order.{bound}

-- ---- tests

pub not_false : (b : Bool) → (b ≡ false → ⊥) → b ≡ true
not_false true wrong = refl
not_false false wrong = absurd (wrong refl)

pub not_true : (b : Bool) → (b ≡ true → ⊥) → b ≡ false
not_true true wrong = absurd (wrong refl)
not_true false wrong = refl

-- ---- steps

-- what comes after an accepted step is refused
pub after : {A B : Type 0} (o : Result A CreateRefusal) (f : A → Result B CreateRefusal) (a : A) (r : CreateRefusal) → o ≡ Ok a → RefusesCreation (f a) r → RefusesCreation (o >>= f) r
after o f a r is refused = rw is refused

-- what comes after an accepted step is accepted
pub goes_on : {A B : Type 0} (o : Result A CreateRefusal) (f : A → Result B CreateRefusal) (a : A) (b : B) → o ≡ Ok a → f a ≡ Ok b → (o >>= f) ≡ Ok b
goes_on o f a b is made = rw is made

-- ---- documents

pub unsaid : (key bytes : List ℕ) → document_said bytes ≡ None → understood_document key bytes ≡ Err (unread key)
unfolding understood_document
unsaid key bytes none = rw none refl

pub all_understood : (key bytes : List ℕ) (m : DocumentData) → document_said bytes ≡ Some m → fields_understood m.additional_fields ≡ Ok tt → understood_document key bytes ≡ Ok m
unfolding understood_document
all_understood key bytes m said known = rw (said, known) refl

pub not_understood : (key bytes : List ℕ) (m : DocumentData) (r : CreateRefusal) → document_said bytes ≡ Some m → RefusesCreation (fields_understood m.additional_fields) r
    → RefusesCreation (understood_document key bytes) r
unfolding understood_document
not_understood key bytes m r said is = rw said (bound _ _ r is)

-- ---- stores

module _ (state : StoreState) (key : List ℕ) where
  pub key_refused : state.refuses key ≡ true → value_asked state key ≡ Err storage
  key_refused refuses = rw refuses refl

  any_refused : (e : StorageError) → state.refuses key ≡ true → RefusesCreation (value_asked state key) (create_refusal_of (create_error_of_storage (without_document e)))
  any_refused (store_error.InvalidMetadata at text) refuses = key_refused refuses
  any_refused store_error.ReadOnly refuses = key_refused refuses
  any_refused store_error.InvalidByteRange refuses = key_refused refuses
  any_refused store_error.Exhausted refuses = key_refused refuses
  any_refused (store_error.Other text) refuses = key_refused refuses
  any_refused store_error.OutOfMemory refuses = tt

  pub read_refused : (e : StorageError) → RefusesRead state key e → RefusesCreation (value_asked state key) (create_refusal_of (create_error_of_storage (without_document e)))
  read_refused e (inl is) = subst (λ (x : StorageError). RefusesCreation (value_asked state key) (create_refusal_of (create_error_of_storage (without_document x)))) (sym is) tt
  read_refused e (inr refuses) = any_refused e refuses

  pub is_asked : (state.refuses key ≡ true → ⊥) → value_asked state key ≡ Ok (value_at state key)
  is_asked asked = rw (not_true _ asked) refl

-- what does not read is refused whatever was wanted
pub no_value : (A : Type 0) (key : List ℕ) (r : CreateRefusal) → RefusesCreation {A = Unit {0}} (Err (unread key)) r → RefusesCreation {A = A} (Err (unread key)) r
no_value A key r is = bound (Err (unread key)) (λ nothing. Err (unread key)) r is

-- ---- V3 and V2

module _ (state : StoreState) (path : List ℕ) (r : CreateRefusal) where
  pub v3_refused : RefusesCreation (value_asked state (v3_key path)) r → RefusesCreation (stored_v3 state path) r
  unfolding stored_v3
  v3_refused is = bound _ _ r is

  pub v3_bad : (bytes : List ℕ) → value_asked state (v3_key path) ≡ Ok (Some bytes) → RefusesCreation (understood_document (v3_key path) bytes) r → RefusesCreation (stored_v3 state path) r
  unfolding stored_v3
  v3_bad bytes asked is = after _ _ _ r asked (bound _ _ r is)

  pub v2_refused : RefusesCreation (value_asked state (v2_array_key path)) r → RefusesCreation (stored_v2 state path) r
  unfolding stored_v2
  v2_refused is = bound _ _ r is

  pub v2_bad : (bytes : List ℕ) → value_asked state (v2_array_key path) ≡ Ok (Some bytes) → RefusesCreation (document_v2_read (v2_array_key path) bytes) r → RefusesCreation (stored_v2 state path) r
  unfolding stored_v2
  v2_bad bytes asked is = after _ _ _ r asked (bound _ _ r is)

  pub v2_unattributed : (bytes : List ℕ) (m : DocumentV2Data) → value_asked state (v2_array_key path) ≡ Ok (Some bytes) → document_v2_read (v2_array_key path) bytes ≡ Ok m → RefusesCreation (attributed state path m) r → RefusesCreation (stored_v2 state path) r
  unfolding stored_v2
  v2_unattributed bytes m asked said is = after _ _ _ r asked (after _ _ _ r said (bound _ _ r is))

  pub attributes_refused : (m : DocumentV2Data) → RefusesCreation (value_asked state (attributes_key path)) r → RefusesCreation (attributed state path m) r
  unfolding attributed
  attributes_refused m is = bound _ _ r is

  pub attributes_bad : (m : DocumentV2Data) (bytes : List ℕ) → value_asked state (attributes_key path) ≡ Ok (Some bytes) → attributes_said bytes ≡ None
      → RefusesCreation {A = Unit {0}} (Err (unread (attributes_key path))) r → RefusesCreation (attributed state path m) r
  unfolding attributed
  attributes_bad m bytes asked none is = after _ _ _ r asked (rw none (no_value _ _ r is))

  pub default_refused : RefusesCreation (stored_v3 state path) r → RefusesCreation (stored_default state path) r
  unfolding stored_default
  default_refused is = bound _ _ r is

  pub default_v2_refused : stored_v3 state path ≡ Ok None → RefusesCreation (stored_v2 state path) r → RefusesCreation (stored_default state path) r
  unfolding stored_default
  default_v2_refused none is = after _ _ _ r none is

module _ (state : StoreState) (path : List ℕ) where
  pub v3_absent : value_asked state (v3_key path) ≡ Ok None → stored_v3 state path ≡ Ok None
  unfolding stored_v3
  v3_absent asked = goes_on _ _ _ _ asked refl

  pub v3_read : (bytes : List ℕ) (m : DocumentData) → value_asked state (v3_key path) ≡ Ok (Some bytes) → understood_document (v3_key path) bytes ≡ Ok m → stored_v3 state path ≡ Ok (Some (v3 m))
  unfolding stored_v3
  v3_read bytes m asked said = goes_on _ _ _ _ asked (goes_on _ _ _ _ said refl)

  pub v2_absent : value_asked state (v2_array_key path) ≡ Ok None → stored_v2 state path ≡ Ok None
  unfolding stored_v2
  v2_absent asked = goes_on _ _ _ _ asked refl

  pub v2_read : (bytes : List ℕ) (m n : DocumentV2Data) → value_asked state (v2_array_key path) ≡ Ok (Some bytes) → document_v2_read (v2_array_key path) bytes ≡ Ok m → attributed state path m ≡ Ok n → stored_v2 state path ≡ Ok (Some (v2 n))
  unfolding stored_v2
  v2_read bytes m n asked said all = goes_on _ _ _ _ asked (goes_on _ _ _ _ said (goes_on _ _ _ _ all refl))

  pub attributes_absent : (m : DocumentV2Data) → value_asked state (attributes_key path) ≡ Ok None → attributed state path m ≡ Ok m
  unfolding attributed
  attributes_absent m asked = goes_on _ _ _ _ asked refl

  pub attributes_read : (m : DocumentV2Data) (bytes : List ℕ) (ms : Members) → value_asked state (attributes_key path) ≡ Ok (Some bytes) → attributes_said bytes ≡ Some ms → attributed state path m ≡ Ok (record m { attributes = ms })
  unfolding attributed
  attributes_read m bytes ms asked said = goes_on _ _ _ _ asked (rw said refl)

  pub default_v3 : (m : MetadataData) → stored_v3 state path ≡ Ok (Some m) → stored_default state path ≡ Ok (Some m)
  unfolding stored_default
  default_v3 m some = goes_on _ _ _ _ some refl

  pub default_v2 : (found : Option MetadataData) → stored_v3 state path ≡ Ok None → stored_v2 state path ≡ Ok found → stored_default state path ≡ Ok found
  unfolding stored_default
  default_v2 found none some = goes_on _ _ _ _ none some

module _ (version : MetadataRetrieveVersion) (state : StoreState) (path : List ℕ) where
  pub metadata_refused : (r : CreateRefusal) → RefusesCreation (stored_by version state path) r → RefusesCreation (stored_metadata version state path) r
  unfolding stored_metadata
  metadata_refused r is = bound _ _ r is

  pub metadata_absent : stored_by version state path ≡ Ok None → stored_metadata version state path ≡ Err missing_metadata
  unfolding stored_metadata
  metadata_absent none = rw none refl

  pub metadata_read : (m : MetadataData) → stored_by version state path ≡ Ok (Some m) → stored_metadata version state path ≡ Ok m
  unfolding stored_metadata
  metadata_read m some = goes_on _ _ _ _ some refl

-- ---- openings

pub opened_path : (version : MetadataRetrieveVersion) (state : StoreState) (path : List ℕ) → is_node_path path ≡ false → opened version state path ≡ Err node_path
unfolding opened
opened_path version state path wrong = rw wrong refl

pub opened_none : (version : MetadataRetrieveVersion) (state : StoreState) (path : List ℕ) (r : CreateRefusal) → is_node_path path ≡ true → RefusesCreation (stored_metadata version state path) r → RefusesCreation (opened version state path) r
unfolding opened
opened_none version state path r valid is = rw valid (bound _ _ r is)

pub opened_unmade : (version : MetadataRetrieveVersion) (state : StoreState) (path : List ℕ) (m : MetadataData) (r : CreateRefusal) → is_node_path path ≡ true → stored_metadata version state path ≡ Ok m → RefusesCreation (creation m) r
    → RefusesCreation (opened version state path) r
unfolding opened
opened_unmade version state path m r valid said is = rw (valid, said) (bound _ _ r is)

pub is_opened : (version : MetadataRetrieveVersion) (state : StoreState) (path : List ℕ) (m : MetadataData) (parts : Meaning) → is_node_path path ≡ true → stored_metadata version state path ≡ Ok m → creation m ≡ Ok parts → opened version state path ≡ Ok m
unfolding opened
is_opened version state path m parts valid said made = rw (valid, said, made) refl

-- a path that is refused
pub path_refused : (version : MetadataRetrieveVersion) (state : StoreState) (path : List ℕ) (e : NodePathError) → (is_node_path path ≡ true → e ≡ path_error.OutOfMemory)
    → RefusesCreation (opened version state path) (create_refusal_of (create_error_of_path e))
path_refused version state path path_error.Invalid accepted = opened_path version state path (not_true _ (λ valid. let bad = accepted valid in cc))
path_refused version state path path_error.OutOfMemory accepted = tt

pub created_path : (path : List ℕ) (m : MetadataData) (e : NodePathError) → (is_node_path path ≡ true → e ≡ path_error.OutOfMemory) → RefusesCreation (created path m) (create_refusal_of (create_error_of_path e))
created_path path m path_error.Invalid accepted = (let wrong = not_true (is_node_path path) (λ valid. let bad = accepted valid in cc) in rw wrong refl)
created_path path m path_error.OutOfMemory accepted = tt

pub created_unmade : (path : List ℕ) (m : MetadataData) (r : CreateRefusal) → is_node_path path ≡ true → RefusesCreation (creation m) r → RefusesCreation (created path m) r
created_unmade path m r valid is = rw valid is
