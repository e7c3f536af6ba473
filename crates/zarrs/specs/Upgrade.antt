-- V2 metadata that becomes V3 metadata in its store.
use Rattle.std.specs.Prelude.{◌≡◌, ◌⊎◌, ℕ, true, false, List, [], ◌∷◌, ◌++◌, Some, None, Ok}
use Rattle.zarrs_storage.specs.Store.{StoreState}
use Rattle.zarrs_keys.specs.Paths.{is_node_path}
use Rattle.zarrs_engine_calls.specs.Layout.{Layout, IsLawful, metadata_keys_at}
use Rattle.zarrs_engine_calls.specs.Content.{value_at}
use Rattle.zarrs_engine_calls.specs.Refusals.{Refusal, out_of_memory}
use Rattle.zarrs_engine_calls.specs.Laws.{HaveEqualContent}
use Rattle.zarrs_metadata_v3.specs.Document.{DocumentData, IsDocumentText}
use Rattle.zarrs_metadata_v2.specs.Document.{DocumentV2Data}
use Rattle.zarrs_metadata.specs.Versions.{MetadataData, v3, v2}
use Rattle.zarrs_options.specs.Options.{MetadataOptionsData}
use Rattle.zarrs_options.specs.declared.versions.MetadataConvertVersion.TheVariants as convert
use Rattle.zarrs_options.specs.declared.versions.MetadataRetrieveVersion.TheVariants as retrieve
use Rattle.zarrs_creation.specs.Meanings.{Meaning, creation}
use Rattle.zarrs_creation.specs.Opening.{v3_key, v2_array_key, attributes_key, opened}
use Rattle.zarrs_creation.specs.Shown.{shown}
use Rattle.zarrs_creation.specs.Writing.{Put, put_at}
use Rattle.zarrs.specs.Laws.{IsReadAgainV3}
use Rattle.zarrs.specs.Puts.{ArePut, PutsFront}

-- the V3 document as options show the metadata in V3
abbrev pub IsUpgradeOf : MetadataOptionsData → MetadataData → DocumentData → Type 0
IsUpgradeOf o m n = shown (record o { convert_version = convert.V3 }) m ≡ Ok (v3 n)

-- first the text of the V3 document at its key; then the V2 document and its attributes are erased
pub record IsUpgradedBy (path : List ℕ) (n : DocumentData) (puts : List Put) : Type 0 where
  pub text : List ℕ
  pub says : IsDocumentText n text
  pub is : puts ≡ put_at (v3_key path) (Some text) ∷ put_at (v2_array_key path) None ∷ put_at (attributes_key path) None ∷ []

-- these upgrade V2 metadata of an array at the path, as options show it in V3
pub record AreUpgrade (o : MetadataOptionsData) (path : List ℕ) (m : DocumentV2Data) (puts : List Put) : Type 0 where
  pub document : DocumentData
  pub is_upgrade : IsUpgradeOf o (v2 m) document
  pub upgraded : IsUpgradedBy path document puts

-- an accepted upgrade: of V3 metadata nothing is done
pub record Upgrades (o : MetadataOptionsData) (path : List ℕ) (m : DocumentV2Data) (old new : StoreState) : Type 0 where
  pub puts : List Put
  pub upgrade : AreUpgrade o path m puts
  pub put : ArePut puts old new

abbrev pub UpgradesMetadata : MetadataOptionsData → List ℕ → MetadataData → StoreState → StoreState → Type 0
UpgradesMetadata o path (v3 m) old new = new ≡ old
UpgradesMetadata o path (v2 m) old new = Upgrades o path m old new

-- a front of it is done, and the next writing call refused
pub record UpgradesFront (o : MetadataOptionsData) (path : List ℕ) (m : DocumentV2Data) (r : Refusal) (old new : StoreState) : Type 0 where
  pub puts : List Put
  pub upgrade : AreUpgrade o path m puts
  pub refused : PutsFront puts r old new

-- A refused upgrade: memory was short before the first writing call, or a front of it is done. Of V3 metadata none is
-- refused.
abbrev pub RefusesUpgrade : MetadataOptionsData → List ℕ → MetadataData → Refusal → StoreState → StoreState → Type 0
RefusesUpgrade o path (v3 m) r old new = ⊥
RefusesUpgrade o path (v2 m) r old new = ((r ≡ out_of_memory) × (new ≡ old)) ⊎ UpgradesFront o path m r old new

-- some metadata of an array of these parts opens at the path
abbrev pub OpensAs : StoreState → List ℕ → Meaning → Type 0
OpensAs state path parts = (found : MetadataData) × (opened retrieve.Default state path ≡ Ok found) × (creation found ≡ Ok parts)

-- After each front of an upgrade an array of the same parts opens, if the store had no V3 document and its V2 documents
-- open to one of these parts, the V3 document is read again, and its key is not refused.
abbrev pub UpgradesOpen : Type 0
UpgradesOpen =
    (o : MetadataOptionsData) (path : List ℕ) (m found : MetadataData) (n : DocumentData) (parts : Meaning) (puts done left : List Put) (old new : StoreState)
    → is_node_path path ≡ true → creation m ≡ Ok parts → IsUpgradeOf o m n → IsReadAgainV3 n
    → value_at old (v3_key path) ≡ None → opened retrieve.V2 old path ≡ Ok found → creation found ≡ Ok parts
    → IsUpgradedBy path n puts → puts ≡ done ++ left → ArePut done old new → new.refuses (v3_key path) ≡ false
    → OpensAs new path parts

-- the store refuses no key of metadata at the path
pub record RefusesNoMetadata (path : List ℕ) (state : StoreState) : Type 0 where
  pub document : state.refuses (v3_key path) ≡ false
  pub v2_document : state.refuses (v2_array_key path) ≡ false
  pub v2_attributes : state.refuses (attributes_key path) ≡ false

-- An array of these parts and this metadata opens afterwards, if the store had no V3 document and its V2 documents open to
-- one of these parts, the V3 document is read again, and the store then refuses no key of metadata.
abbrev pub StaysOpen : MetadataOptionsData → List ℕ → MetadataData → Meaning → StoreState → StoreState → Type 0
StaysOpen o path m parts old new =
    (n : DocumentData) (found : MetadataData) → IsUpgradeOf o m n → IsReadAgainV3 n
    → value_at old (v3_key path) ≡ None → opened retrieve.V2 old path ≡ Ok found → creation found ≡ Ok parts
    → RefusesNoMetadata path new → OpensAs new path parts

-- the metadata of an array at the path was upgraded or not, accepted or refused
abbrev pub UpgradesOrRefuses : MetadataOptionsData → List ℕ → MetadataData → Refusal → StoreState → StoreState → Type 0
UpgradesOrRefuses o path m r old new = UpgradesMetadata o path m old new ⊎ RefusesUpgrade o path m r old new

-- so it opens in the state that the upgrade leaves
abbrev pub UpgradeCallsOpen : Type 0
UpgradeCallsOpen =
    (o : MetadataOptionsData) (path : List ℕ) (m : MetadataData) (parts : Meaning) (r : Refusal) (old new : StoreState)
    → creation m ≡ Ok parts → UpgradesOrRefuses o path m r old new → StaysOpen o path m parts old new

-- after each front no cell of the array has changed
abbrev pub UpgradesLeaveContent : Type 0
UpgradesLeaveContent =
    (layout : Layout) (path : List ℕ) → IsLawful layout → layout.metadata_keys ≡ metadata_keys_at path
    → (n : DocumentData) (puts done left : List Put) (old new : StoreState)
    → IsUpgradedBy path n puts → puts ≡ done ++ left → ArePut done old new → HaveEqualContent layout old new

-- nor has one in the state that the upgrade leaves
abbrev pub UpgradeCallsLeaveContent : Type 0
UpgradeCallsLeaveContent =
    (layout : Layout) (path : List ℕ) → IsLawful layout → layout.metadata_keys ≡ metadata_keys_at path
    → (o : MetadataOptionsData) (m : MetadataData) (r : Refusal) (old new : StoreState)
    → UpgradesOrRefuses o path m r old new → HaveEqualContent layout old new
