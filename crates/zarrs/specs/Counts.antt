-- How many writing calls of the store the calls on the metadata of an array make, if they are accepted.
use Rattle.std.specs.Prelude.{ℕ, List}
use Rattle.zarrs_storage.specs.Store.{StoreState}
use Rattle.zarrs_engine_calls.specs.Changes.{Makes}
use Rattle.zarrs_metadata.specs.Versions.{MetadataData, v3, v2}
use Rattle.zarrs_options.specs.Options.{MetadataOptionsData}
use Rattle.zarrs_options.specs.declared.versions.MetadataEraseVersion.{MetadataEraseVersion}
use Rattle.zarrs_options.specs.declared.versions.MetadataEraseVersion.TheVariants as erase
use Rattle.zarrs_creation.specs.Writing.{erasures}
use Rattle.zarrs.specs.Puts.{ArePut, StoresMetadata}
use Rattle.zarrs.specs.Upgrade.{UpgradesMetadata}

-- this many were accepted, and none failed
abbrev pub Writes : ℕ → StoreState → StoreState → Type 0
Writes count old new = Makes count 0 old new

-- V3 metadata is one document; that of V2 has its attributes beside it
abbrev pub documents_of : MetadataData → ℕ
documents_of (v3 m) = 1
documents_of (v2 m) = 2

-- stored: one for each document of what is shown
abbrev pub StoringCounts : Type 0
StoringCounts =
    (o : MetadataOptionsData) (path : List ℕ) (m : MetadataData) (old new : StoreState) (stored : StoresMetadata o path m old new)
    → Writes (documents_of stored.shows) old new

-- erased: one for each key, whether it is present or not
abbrev pub erased_documents : MetadataEraseVersion → MetadataData → ℕ
erased_documents erase.Default m = documents_of m
erased_documents erase.All m = 3
erased_documents erase.V3 m = 1
erased_documents erase.V2 m = 2

abbrev pub ErasingCounts : Type 0
ErasingCounts =
    (version : MetadataEraseVersion) (path : List ℕ) (m : MetadataData) (old new : StoreState) → ArePut (erasures version path m) old new
    → Writes (erased_documents version m) old new

-- upgraded: three of V2 metadata, none of V3 metadata
abbrev pub upgrade_writes : MetadataData → ℕ
upgrade_writes (v3 m) = 0
upgrade_writes (v2 m) = 3

abbrev pub UpgradingCounts : Type 0
UpgradingCounts =
    (o : MetadataOptionsData) (path : List ℕ) (m : MetadataData) (old new : StoreState) → UpgradesMetadata o path m old new
    → Writes (upgrade_writes m) old new
