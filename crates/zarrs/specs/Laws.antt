-- Laws of metadata and of what a store holds of it.
use Rattle.std.specs.Prelude.{◌≡◌, ◌≤◌, ◌⊎◌, ℕ, Bool, true, false, List, Contains, Ok}
use Rattle.serde_json.specs.Data.{depth, object}
use Rattle.serde_json.specs.Read.{max_depth}
use Rattle.serde_json.specs.Written.{has_float}
use Rattle.zarrs_storage.specs.Store.{StoreState}
use Rattle.zarrs_keys.specs.Paths.{is_node_path}
use Rattle.zarrs_engine_calls.specs.Layout.{Layout, IsLawful, ArrayState, metadata_keys_at}
use Rattle.zarrs_engine_calls.specs.Content.{value_at}
use Rattle.zarrs_engine_calls.specs.Refusals.{Refusal}
use Rattle.zarrs_engine_calls.specs.Step.{Run}
use Rattle.zarrs_engine_calls.specs.Laws.{HaveEqualContent}
use Rattle.zarrs_engine_calls.specs.declared.call.Call.{Call}
use Rattle.zarrs_engine_calls.specs.declared.call.Reply.{Reply}
use Rattle.zarrs_metadata_v3.specs.Document.{DocumentData, data_of_document, normal_document}
use Rattle.zarrs_metadata_v2.specs.Document.{DocumentV2Data, data_of_v2, without_attributes}
use Rattle.zarrs_metadata.specs.Versions.{MetadataData, v3, v2}
use Rattle.zarrs_options.specs.Options.{MetadataOptionsData}
use Rattle.zarrs_options.specs.declared.versions.MetadataEraseVersion.{MetadataEraseVersion}
use Rattle.zarrs_options.specs.declared.versions.MetadataRetrieveVersion.{MetadataRetrieveVersion}
use Rattle.zarrs_options.specs.declared.versions.MetadataRetrieveVersion.TheVariants as retrieve
use Rattle.zarrs_creation.specs.Meanings.{Meaning, creation, as_v3}
use Rattle.zarrs_creation.specs.Opening.{v3_key, v2_array_key, attributes_key, fields_understood, opened}
use Rattle.zarrs_creation.specs.Shown.{shown}
use Rattle.zarrs_creation.specs.Writing.{Put, IsWrittenBy, erasures}
use Rattle.zarrs.specs.Puts.{ArePut, RefusesPuts, StoresMetadata, RefusesStoreMetadata}

-- what is written for the document reads as it: its tree nests at most as deep as JSON that is read, has no left-out
-- number, and has no field that must be understood
pub record IsReadAgainV3 (m : DocumentData) : Type 0 where
  pub shallow : depth (data_of_document m) ≤ max_depth
  pub plain : has_float (data_of_document m) ≡ false
  pub understood : fields_understood (normal_document m).additional_fields ≡ Ok tt

-- the same for each of the two texts of a V2 document
pub record IsReadAgainV2 (m : DocumentV2Data) : Type 0 where
  pub shallow : depth (data_of_v2 (without_attributes m)) ≤ max_depth
  pub plain : has_float (data_of_v2 (without_attributes m)) ≡ false
  pub shallow_attributes : depth (object m.attributes) ≤ max_depth
  pub plain_attributes : has_float (object m.attributes) ≡ false

-- what is written for the metadata reads as it: each tree nests at most as deep as JSON that is read and has no left-out number,
-- and no field must be understood
abbrev pub IsReadAgain : MetadataData → Type 0
IsReadAgain (v3 m) = IsReadAgainV3 m
IsReadAgain (v2 m) = IsReadAgainV2 m

-- an empty configuration is none
abbrev pub normal_metadata : MetadataData → MetadataData
normal_metadata (v3 m) = v3 (normal_document m)
normal_metadata (v2 m) = v2 m

-- by which version it is read
abbrev pub version_of : MetadataData → MetadataRetrieveVersion
version_of (v3 m) = retrieve.V3
version_of (v2 m) = retrieve.V2

-- the store refuses no key of the metadata
abbrev pub NoKeyRefused : List ℕ → MetadataData → StoreState → Type 0
NoKeyRefused path (v3 m) state = state.refuses (v3_key path) ≡ false
NoKeyRefused path (v2 m) state = (state.refuses (v2_array_key path) ≡ false) × (state.refuses (attributes_key path) ≡ false)

-- the metadata that was written opens, if no key of it is refused
abbrev pub WrittenMetadataOpens : Type 0
WrittenMetadataOpens =
    (path : List ℕ) (m : MetadataData) (parts : Meaning) (puts : List Put) (old new : StoreState)
    → is_node_path path ≡ true → creation m ≡ Ok parts → IsReadAgain m
    → IsWrittenBy path m puts → ArePut puts old new → NoKeyRefused path m new
    → opened (version_of m) new path ≡ Ok (normal_metadata m)

-- metadata and its normal form, in which an empty configuration is none, say the same parts
abbrev pub NormalMetadataSaysTheSame : Type 0
NormalMetadataSaysTheSame = (m : MetadataData) → creation (normal_metadata m) ≡ creation m

-- V2 metadata and its V3 document say the same parts
abbrev pub ConvertedMetadataSaysTheSame : Type 0
ConvertedMetadataSaysTheSame = (m n : MetadataData) → as_v3 m ≡ Ok n → creation n ≡ creation m

-- metadata as options show it says the parts of the metadata that it was made of
abbrev pub ShownMetadataSaysTheSame : Type 0
ShownMetadataSaysTheSame =
    (options : MetadataOptionsData) (m n : MetadataData) (parts : Meaning) → shown options m ≡ Ok n → creation m ≡ Ok parts → creation n ≡ Ok parts

-- the metadata of an array at the path was stored or not, accepted or refused
abbrev pub StoresMetadataOrRefuses : MetadataOptionsData → List ℕ → MetadataData → Refusal → StoreState → StoreState → Type 0
StoresMetadataOrRefuses o path m r old new = StoresMetadata o path m old new ⊎ RefusesStoreMetadata o path m r old new

-- it was erased or not
abbrev pub ErasesMetadataOrRefuses : MetadataEraseVersion → List ℕ → MetadataData → Refusal → StoreState → StoreState → Type 0
ErasesMetadataOrRefuses version path m r old new = ArePut (erasures version path m) old new ⊎ RefusesPuts (erasures version path m) r old new

-- calls on the metadata of an array, accepted or refused, leave its content
abbrev pub MetadataCallsLeaveContent : Type 0
MetadataCallsLeaveContent =
    (layout : Layout) (path : List ℕ) → IsLawful layout → layout.metadata_keys ≡ metadata_keys_at path
    → (o : MetadataOptionsData) (version : MetadataEraseVersion) (m : MetadataData) (r : Refusal) (old new : StoreState)
    → StoresMetadataOrRefuses o path m r old new ⊎ ErasesMetadataOrRefuses version path m r old new
    → HaveEqualContent layout old new

-- calls on chunks and regions, accepted or refused, leave the values at the keys of the metadata
abbrev pub CallsLeaveMetadata : Type 0
CallsLeaveMetadata =
    (layout : Layout) → IsLawful layout → (keep : Bool) (calls : List Call) (replies : List Reply) (old new : ArrayState)
    → Run layout keep calls replies old new
    → (key : List ℕ) → Contains layout.metadata_keys key → value_at new.store key ≡ value_at old.store key
