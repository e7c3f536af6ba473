-- The metadata that a store holds for an array.
use Rattle.std.specs.Prelude.{◌≡◌, ◌⊎◌, ℕ, true, List, [], ◌∷◌, Option, Some, None, Result, Ok, Err, IfOk, IfErr, if◌then◌else◌}
use Rattle.zarrs_storage.specs.Store.{StoreState, MayReadWhole}
use Rattle.zarrs_keys.specs.Keys.{v3_name, v2_array_name, v2_attributes_name, IsMetadataName}
use Rattle.zarrs_keys.specs.Paths.{path_key}
use Rattle.zarrs_metadata_v3.specs.Document.{DocumentData, document_said}
use Rattle.zarrs_metadata_v3.specs.Fields.{FieldData}
use Rattle.zarrs_metadata_v2.specs.Document.{DocumentV2Data, document_v2_said, attributes_said}
use Rattle.zarrs_metadata.specs.Versions.{MetadataData, v3, v2}
use Rattle.zarrs_engine_calls.specs.Content.{value_at}
use Rattle.zarrs_options.specs.Refusals.{CreateRefusal, create_refusal_of, storage, unread, missing_metadata, additional_field, said_or, RefusesCreation}
use Rattle.zarrs_options.specs.declared.error.ArrayCreateError.{ArrayCreateError}
use Rattle.zarrs_options.specs.declared.versions.MetadataRetrieveVersion.{MetadataRetrieveVersion}
use Rattle.zarrs_options.specs.declared.versions.MetadataRetrieveVersion.TheVariants as retrieve
use Rattle.zarrs_creation.specs.Meanings.{creation, path_said, ◌>>=◌}

-- ---- keys

-- the key of the V3 document of an array at a path
abbrev pub v3_key : List ℕ → List ℕ
v3_key path = path_key path v3_name

-- the key of its V2 document, which has no attributes
abbrev pub v2_array_key : List ℕ → List ℕ
v2_array_key path = path_key path v2_array_name

-- the key of its V2 attributes
abbrev pub attributes_key : List ℕ → List ℕ
attributes_key path = path_key path v2_attributes_name

-- the value at a key that the store does not refuse
abbrev pub value_asked : StoreState → List ℕ → Result (Option (List ℕ)) CreateRefusal
value_asked state key = if state.refuses key then Err storage else Ok (value_at state key)

-- ---- V3

-- no additional field must be understood; of those that must, the first one is named
abbrev pub fields_understood : List (List ℕ × FieldData) → Result (Unit {0}) CreateRefusal
fields_understood [] = Ok tt
fields_understood (f ∷ fs) = if f.1.must_understand then Err (additional_field f.0 f.1.value) else fields_understood fs

-- the document of bytes that are present at a key, of which each field is understood
unfoldable pub understood_document : List ℕ → List ℕ → Result DocumentData CreateRefusal
understood_document key bytes = do
  m ← said_or (unread key) (document_said bytes)
  understood ← fields_understood m.additional_fields
  Ok m

abbrev pub v3_of : List ℕ → Option (List ℕ) → Result (Option MetadataData) CreateRefusal
v3_of key None = Ok None
v3_of key (Some bytes) = understood_document key bytes >>= (λ m. Ok (Some (v3 m)))

-- the V3 document that a store holds, none if it is absent, or the first refusal
unfoldable pub stored_v3 : StoreState → List ℕ → Result (Option MetadataData) CreateRefusal
stored_v3 state path = do
  value ← value_asked state (v3_key path)
  v3_of (v3_key path) value

-- ---- V2

-- attributes that are present at a key are those of the array
abbrev pub with_stored_attributes : List ℕ → DocumentV2Data → Option (List ℕ) → Result DocumentV2Data CreateRefusal
with_stored_attributes key m None = Ok m
with_stored_attributes key m (Some bytes) = do
  attributes ← said_or (unread key) (attributes_said bytes)
  Ok (record m { attributes = attributes })

-- the document with the attributes at their own key
unfoldable pub attributed : StoreState → List ℕ → DocumentV2Data → Result DocumentV2Data CreateRefusal
attributed state path m = value_asked state (attributes_key path) >>= with_stored_attributes (attributes_key path) m

-- the document of bytes that are present at a key
abbrev pub document_v2_read : List ℕ → List ℕ → Result DocumentV2Data CreateRefusal
document_v2_read key bytes = said_or (unread key) (document_v2_said bytes)

abbrev pub v2_metadata_at : StoreState → List ℕ → Option (List ℕ) → Result (Option MetadataData) CreateRefusal
v2_metadata_at state path None = Ok None
v2_metadata_at state path (Some bytes) = do
  m ← document_v2_read (v2_array_key path) bytes
  all ← attributed state path m
  Ok (Some (v2 all))

-- the V2 document that a store holds, none if it is absent, or the first refusal
unfoldable pub stored_v2 : StoreState → List ℕ → Result (Option MetadataData) CreateRefusal
stored_v2 state path = do
  value ← value_asked state (v2_array_key path)
  v2_metadata_at state path value

-- ---- of either version

-- the first, or the second if the first is none
abbrev pub or_stored_v2 : StoreState → List ℕ → Option MetadataData → Result (Option MetadataData) CreateRefusal
or_stored_v2 state path (Some m) = Ok (Some m)
or_stored_v2 state path None = stored_v2 state path

-- V3 comes before V2
unfoldable pub stored_default : StoreState → List ℕ → Result (Option MetadataData) CreateRefusal
stored_default state path = stored_v3 state path >>= or_stored_v2 state path

-- what a store holds of the metadata of this version
abbrev pub stored_by : MetadataRetrieveVersion → StoreState → List ℕ → Result (Option MetadataData) CreateRefusal
stored_by retrieve.Default state path = stored_default state path
stored_by retrieve.V3 state path = stored_v3 state path
stored_by retrieve.V2 state path = stored_v2 state path

-- the metadata that a store holds for an array at a path, or the first refusal
unfoldable pub stored_metadata : MetadataRetrieveVersion → StoreState → List ℕ → Result MetadataData CreateRefusal
stored_metadata version state path = stored_by version state path >>= said_or missing_metadata

-- The metadata of the array that opens at a path, or the first refusal.
unfoldable pub opened : MetadataRetrieveVersion → StoreState → List ℕ → Result MetadataData CreateRefusal
opened version state path = do
  valid ← path_said path
  m ← stored_metadata version state path
  parts ← creation m
  Ok m

-- ---- what a refusal names

-- the V2 document of an array at the path is at this key, or its attributes are
abbrev pub IsV2Key : List ℕ → List ℕ → Type 0
IsV2Key path key = (key ≡ v2_array_key path) ⊎ (key ≡ attributes_key path)

-- metadata of this version of an array at the path is at this key
abbrev pub IsMetadataKey : MetadataRetrieveVersion → List ℕ → List ℕ → Type 0
IsMetadataKey retrieve.Default path key = (key ≡ v3_key path) ⊎ IsV2Key path key
IsMetadataKey retrieve.V3 path key = key ≡ v3_key path
IsMetadataKey retrieve.V2 path key = IsV2Key path key

-- where a refusal says that what is at a key could not be read, it is one of these keys
abbrev pub NamesOneOf : (List ℕ → Type 0) → CreateRefusal → Type 0
NamesOneOf is_asked (unread key) = is_asked key
NamesOneOf is_asked _ = Unit {0}

-- A value was read, as this says; or it says a refusal, and this is refused. What could not be read is at one of these keys.
pub record ReadsOrRefuses {T A : Type 0} (is_asked : List ℕ → Type 0) (said : Result A CreateRefusal) (means : T → A)
    (result : Result T ArrayCreateError) : Type 0 where
  pub read : IfOk result (λ value. said ≡ Ok (means value))
  pub refused : IfErr result (λ e. RefusesCreation said (create_refusal_of e))
  pub named : IfErr result (λ e. NamesOneOf is_asked (create_refusal_of e))

-- ---- what may be asked

-- the value at the key may be asked
pub record MayAskKey (state : StoreState) (key : List ℕ) : Type 0 where
  pub asked : state.may_ask key ≡ true
  pub places : MayReadWhole state key

-- the V2 document of an array at the path and its attributes may be asked
pub record MayAskV2 (state : StoreState) (path : List ℕ) : Type 0 where
  pub array : MayAskKey state (v2_array_key path)
  pub attributes : MayAskKey state (attributes_key path)

-- the metadata of an array at the path may be asked, as far as it is of this version
abbrev pub MayAskMetadata : MetadataRetrieveVersion → StoreState → List ℕ → Type 0
MayAskMetadata retrieve.Default state path = MayAskKey state (v3_key path) × MayAskV2 state path
MayAskMetadata retrieve.V3 state path = MayAskKey state (v3_key path)
MayAskMetadata retrieve.V2 state path = MayAskV2 state path

-- each key of metadata at the path may be asked, at every place
pub record MayAskEachMetadata (state : StoreState) (path : List ℕ) : Type 0 where
  pub asked : (name : List ℕ) → IsMetadataName name → state.may_ask (path_key path name) ≡ true
  pub places : (name : List ℕ) → IsMetadataName name → (place : ℕ) → state.may_read (path_key path name) place ≡ true
