-- What is put into a store to write metadata there, and to erase it.
use Rattle.std.specs.Prelude.{◌≡◌, ℕ, List, [], ◌∷◌, map, Option, Some, None, IfSome, IsSome}
use Rattle.serde_json.specs.Data.{Members, no_members, member}
use Rattle.zarrs_storage.specs.declared.error.StorageError.{StorageError}
use Rattle.zarrs_storage.specs.declared.error.StorageError.TheVariants as stored
use Rattle.zarrs_metadata_v3.specs.Document.{DocumentData, IsDocumentText}
use Rattle.zarrs_metadata_v2.specs.Document.{DocumentV2Data, without_attributes, IsDocumentV2Text, IsAttributesText}
use Rattle.zarrs_metadata.specs.Versions.{MetadataData, v3, v2}
use Rattle.zarrs_options.specs.declared.versions.MetadataEraseVersion.{MetadataEraseVersion}
use Rattle.zarrs_options.specs.declared.versions.MetadataEraseVersion.TheVariants as erase
use Rattle.zarrs_creation.specs.Opening.{v3_key, v2_array_key, attributes_key}
use Rattle.zarrs_creation.specs.declared.writing.MetadataPut.{MetadataPut}

-- a key and the value that is put there, none if the key is erased
pub record Put : Type 0 where
  pub key : List ℕ
  pub value : Option (List ℕ)

abbrev pub put_at : List ℕ → Option (List ℕ) → Put
put_at key value = record { key = key; value = value }

abbrev pub put_view : MetadataPut → Put
put_view p = put_at p.key p.value

-- ---- written

-- V3: the text of the document at its key
pub record IsWrittenV3 (path : List ℕ) (m : DocumentData) (puts : List Put) : Type 0 where
  pub text : List ℕ
  pub says : IsDocumentText m text
  pub is : puts ≡ put_at (v3_key path) (Some text) ∷ []

-- a text of the attributes, or none if there is no attribute
abbrev pub IsTextOfAttributes : Members → Option (List ℕ) → Type 0
IsTextOfAttributes no_members value = value ≡ None
IsTextOfAttributes (member key d ms) value = IsSome value × IfSome value (IsAttributesText (member key d ms))

-- V2: first the attributes at their key, erased if there is none, then the text of the rest
pub record IsWrittenV2 (path : List ℕ) (m : DocumentV2Data) (puts : List Put) : Type 0 where
  pub attributes : Option (List ℕ)
  pub attributes_say : IsTextOfAttributes m.attributes attributes
  pub text : List ℕ
  pub says : IsDocumentV2Text (without_attributes m) text
  pub is : puts ≡ put_at (attributes_key path) attributes ∷ put_at (v2_array_key path) (Some text) ∷ []

-- the metadata of an array at a path is written by these puts
abbrev pub IsWrittenBy : List ℕ → MetadataData → List Put → Type 0
IsWrittenBy path (v3 m) puts = IsWrittenV3 path m puts
IsWrittenBy path (v2 m) puts = IsWrittenV2 path m puts

-- ---- erased

abbrev pub keys_of_version : List ℕ → MetadataData → List (List ℕ)
keys_of_version path (v3 m) = v3_key path ∷ []
keys_of_version path (v2 m) = v2_array_key path ∷ attributes_key path ∷ []

-- the keys of metadata that are erased
abbrev pub erased_keys : MetadataEraseVersion → List ℕ → MetadataData → List (List ℕ)
erased_keys erase.Default path m = keys_of_version path m
erased_keys erase.All path m = v3_key path ∷ v2_array_key path ∷ attributes_key path ∷ []
erased_keys erase.V3 path m = v3_key path ∷ []
erased_keys erase.V2 path m = v2_array_key path ∷ attributes_key path ∷ []

-- the metadata of an array at a path is erased by these puts
abbrev pub erasures : MetadataEraseVersion → List ℕ → MetadataData → List Put
erasures version path m = map (λ key. put_at key None) (erased_keys version path m)

-- ---- refused

-- the refusal does not say of a key that what is there is no document
abbrev pub NamesNoDocument : StorageError → Type 0
NamesNoDocument (stored.InvalidMetadata key said) = ⊥
NamesNoDocument stored.ReadOnly = Unit {0}
NamesNoDocument stored.InvalidByteRange = Unit {0}
NamesNoDocument stored.Exhausted = Unit {0}
NamesNoDocument (stored.Other said) = Unit {0}
NamesNoDocument stored.OutOfMemory = Unit {0}

-- the refusal without the document that it names: its reason, as `Other`
abbrev pub without_document : StorageError → StorageError
without_document (stored.InvalidMetadata key said) = stored.Other said
without_document stored.ReadOnly = stored.ReadOnly
without_document stored.InvalidByteRange = stored.InvalidByteRange
without_document stored.Exhausted = stored.Exhausted
without_document (stored.Other said) = stored.Other said
without_document stored.OutOfMemory = stored.OutOfMemory
